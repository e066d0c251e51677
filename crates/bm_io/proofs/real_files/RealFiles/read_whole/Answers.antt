-- After one more read: its bytes were appended, or exceed the limit, or there was no memory for
-- them.
use Rattle.std.proofs.Common.{◌≡◌, ◌+◌, ◌++◌, rules, arith, take, length, vec_items, vec_len, refl, length-append, ◌∙◌, true}
use Rattle.std.specs.Prelude.{is_ok}
use Rattle.std.proofs.lemmas.List.{length-take-le}
use Rattle.std.proofs.KnownBytes.{Consumes-trans}
use Rattle.bm_io.specs.Calls.{HasGiven, nothing_given}
use Rattle.bm_io.proofs.CallsLaws.{given_more}
use Rattle.bm_io.proofs.real_files.RealFiles.read_whole.Goals as goal

pub loop-count-init : goal.loop-count-init
loop-count-init g c = let before = c.args.file.now in
    let given : HasGiven g.F.RawReader.reads before (vec_items c.new-bytes.result) before =
    rw c.new-bytes.ensures.items nothing_given in search rules

pub returns-then-count-limit-clause-calls : goal.returns-then-count-limit-clause-calls
returns-then-count-limit-clause-calls g c =
    let l = c.loop-count in
    let so_far : vec_len l.bytes ≡ length (vec_items l.bytes) = l.bytes.ok.0 in
    let last = take c.in-Some.count c.read.new.buffer in
    let long : length last ≡ c.in-Some.count = length-take-le _ _ c.in-Some.ensures.bound in (
      vec_len l.bytes + c.in-Some.count,
      (
        vec_items l.bytes,
        last,
        l.file,
        l.invariant.given,
        omega (arith, so_far),
        c.in-Some.ensures.call,
        omega (arith, long, so_far),
        omega (arith, long, so_far),
      ),
      omega (arith, l.invariant.taken, c.saturating_add-self-inside-in-loop-count.ensures),
    )

pub returns-then-is_err-clause-calls : goal.returns-then-is_err-clause-calls
returns-then-is_err-clause-calls g c =
    let l = c.loop-count in
    let so_far : vec_len l.bytes ≡ length (vec_items l.bytes) = l.bytes.ok.0 in
    let last = take c.in-Some.count c.read.new.buffer in
    let long : length last ≡ c.in-Some.count = length-take-le _ _ c.in-Some.ensures.bound in
    let all : length (vec_items l.bytes ++ last) ≡ vec_len l.bytes + c.in-Some.count =
    length-append (vec_items l.bytes) last ∙ omega (arith, long, so_far) in (
      vec_len l.bytes + c.in-Some.count,
      (
        vec_items l.bytes ++ last,
        given_more _ _ _ _ _ _ _ _ l.invariant.given c.in-Some.ensures.call c.in-Some.ensures.bound (omega arith) refl,
        omega (arith, all),
        omega (arith, all),
        omega (arith, all),
      ),
      omega (arith, l.invariant.taken, c.saturating_add-self-inside-in-loop-count.ensures),
    )

pub loop-count-preserved : goal.loop-count-preserved
loop-count-preserved g c =
    let l = c.loop-count in
    let extended : is_ok c.extend_from_slice.result ≡ true = search rules in
    let long : length (take c.in-Some.count c.read.new.buffer) ≡ c.in-Some.count = length-take-le _ _ c.in-Some.ensures.bound in
    let items : vec_items c.extend_from_slice.new.self ≡ vec_items l.bytes ++ take c.in-Some.count c.read.new.buffer =
    rw extended at c.extend_from_slice.ensures.items in
    let len : vec_len c.extend_from_slice.new.self ≡ vec_len l.bytes + length (take c.in-Some.count c.read.new.buffer) =
    rw extended at c.extend_from_slice.ensures.len in
    let counted = c.saturating_add-self-inside-in-loop-count.ensures in
    record {
      given = given_more _ _ _ _ _ _ _ _ l.invariant.given c.in-Some.ensures.call c.in-Some.ensures.bound (omega arith) items;
      known = rw items (Consumes-trans _ _ _ _ _ l.invariant.known c.in-Some.ensures.known.0);
      within = omega (arith, len, long);
      taken = omega (arith, len, long, counted, l.invariant.taken);
      taken_fits = omega (arith, counted);
      taken_stays = omega (arith, counted, l.invariant.taken_stays, l.invariant.taken_fits);
      faults = l.invariant.faults;
      files = l.invariant.files;
    }
