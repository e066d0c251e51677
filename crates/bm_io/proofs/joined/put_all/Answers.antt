-- One more chunk was written or failed. The bytes written until then are the first bytes of all
-- chunks.
use Rattle.std.proofs.Common.{◌≡◌, ◌∙◌, Err, ap, arith, get_or, sym}
use Rattle.std.proofs.lemmas.Result.{err_from_is_err_and}
use Rattle.std.proofs.KnownBytes.{Appends-trans}
use Rattle.bm_io.specs.declared.writing.Put.{Put}
use Rattle.bm_io.proofs.PutsLaws.{joined_more, joined_at, both_empty_first, both_empty_second, puts_refused, put_ok_keeps_wants}
use Rattle.bm_io.proofs.joined.put_all.Goals as goal

pub returns-in_err-put_if_not_empty-clause-puts : goal.returns-in_err-put_if_not_empty-clause-puts
returns-in_err-put_if_not_empty-clause-puts g c =
    let l = c.loop-chunk in
    let p = err_from_is_err_and c.from_residual.result c.from_residual.ensures.1 in
    let item = c.chunk-item in
    let bytes : c.as_slice.result.now ≡ g.P.AsSlice.items (get_or c.args.chunks.now l.chunk-index item.result) =
    c.as_slice.ensures ∙ ap g.P.AsSlice.items item.is in
    puts_refused g.S.Sink _ l.out c.put_if_not_empty.new.out _ c.in_err-put_if_not_empty.field-0.0 _
    (g.P.AsSlice.items (get_or c.args.chunks.now l.chunk-index item.result)) _ _ (p.1 ∙ ap (λ (e : Put). Err e) p.2)
    (joined_at g.P.AsSlice.items c.args.chunks.now l.chunk-index item.result c.loop-chunk-test.true)
    l.invariant.written l.invariant.faults l.invariant.wants (rw (← bytes) c.in_err-put_if_not_empty.ensures.puts)

pub returns-in_err-put_if_not_empty-clause-untouched : goal.returns-in_err-put_if_not_empty-clause-untouched
returns-in_err-put_if_not_empty-clause-untouched g c = λ none.
    let l = c.loop-chunk in
    let item = c.chunk-item in
    let bytes : c.as_slice.result.now ≡ g.P.AsSlice.items (get_or c.args.chunks.now l.chunk-index item.result) =
    c.as_slice.ensures ∙ ap g.P.AsSlice.items item.is in
    let parts = joined_at g.P.AsSlice.items c.args.chunks.now l.chunk-index item.result c.loop-chunk-test.true ∙ none in
    c.put_if_not_empty.ensures.untouched (bytes ∙ both_empty_first _ _ (both_empty_second _ _ parts))
    ∙ l.invariant.untouched (both_empty_first _ _ parts)

pub loop-chunk-preserved : goal.loop-chunk-preserved
loop-chunk-preserved g c =
    let l = c.loop-chunk in
    let item = c.chunk-item in
    let puts = c.in_ok-put_if_not_empty.ensures.puts in
    let bytes : c.as_slice.result.now ≡ g.P.AsSlice.items (get_or c.args.chunks.now l.chunk-index item.result) =
    c.as_slice.ensures ∙ ap g.P.AsSlice.items item.is in
    let more = joined_more g.P.AsSlice.items c.args.chunks.now l.chunk-index item.result c.loop-chunk-test.true in
    record {
      written = rw (more, ← bytes) (Appends-trans _ _ _ _ _ l.invariant.written puts.whole);
      faults = omega (arith, l.invariant.faults, puts.faults_stay);
      wants = put_ok_keeps_wants puts ∙ l.invariant.wants;
      untouched = λ none. let parts = sym more ∙ none in
          c.put_if_not_empty.ensures.untouched (bytes ∙ both_empty_second _ _ parts) ∙ l.invariant.untouched (both_empty_first _ _ parts);
    }
