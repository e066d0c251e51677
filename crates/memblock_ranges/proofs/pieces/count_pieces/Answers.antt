use Rattle.std.proofs.Common.{◌≡◌, ℕ, ◌+◌, ◌^◌, ◌<◌, ◌≤◌, min, not, ◌&&◌, nat_lt, if◌then◌else◌, Option, drop, sym, ◌∙◌, ap, arith}
use Rattle.std.specs.Prelude.{is_none}
use Rattle.bm_base.specs.Range.{RangeView, end_of}
use Rattle.address_runs.specs.Runs.{value_at}
use Rattle.address_runs.specs.Edits.{gaps_in_range}
use Rattle.address_runs.specs.Sweep.{IsRestFrom}
use Rattle.address_runs.proofs.SweepLaws.{ends_sooner}
use Rattle.run_edits.specs.Ends.{run_ends_at, total}
use Rattle.memblock_model.specs.Labels.{LabelView, plain_label}
use Rattle.memblock_model.specs.Same.{same_label}
use Rattle.memblock_ranges.proofs.PieceLaws.{no_pieces, more_pieces, all_pieces, one_at_most, none_told}
use Rattle.memblock_ranges.proofs.pieces.count_pieces.Goals as goal

pub loop-from-init : goal.loop-from-init
loop-from-init g c =
    let f : ℕ → Option LabelView = value_at (g.T.Rows.list c.args.table.now) in
    let r : RangeView = c.args.range.now in
    let base : c.range.inside.base ≡ r.base = ap (λ (e : RangeView). e.base) c.range.view_is in
    let rest = c.first_ending_above-read.ensures.rest in
    record {
      first = omega (arith, base);
      last = omega (arith, base);
      rest = rest;
      here = none_told c.is_none-bare.result c.value_and_end-first.result.0 c.is_none-bare.ensures
          ∙ ap is_none (c.value_and_end-first.ensures.value f rest);
      stays = c.value_and_end-first.ensures.stays f rest;
      ends = c.value_and_end-first.ensures.ends rest.ends;
      after = c.value_and_end-first.ensures.after rest.ends;
      few = omega arith;
      count = sym (ap (λ n. total (run_ends_at same_label (gaps_in_range r plain_label f)) 0 n) base ∙ no_pieces r f);
    }

pub loop-from-preserved : goal.loop-from-preserved
loop-from-preserved g c =
    let f : ℕ → Option LabelView = value_at (g.T.Rows.list c.args.table.now) in
    let r : RangeView = c.args.range.now in
    let i = c.loop-from.invariant in
    let from : ℕ = c.loop-from.from in
    let next : ℕ = c.loop-from.next in
    let to : ℕ = c.min-to.result in
    let until : c.end-until.result ≡ end_of r = c.end-until.ensures.value in
    let small : end_of r < 2 ^ 64 = c.end-until.ensures.small in
    let test : from < c.end-until.result = c.loop-from-test.true in
    let less : to ≡ min next c.end-until.result = c.min-to.ensures in
    let forward : from < next = i.after (omega (arith, test, until, small)) in
    let order : from < to = omega (arith, less, forward, test) in
    let by_next : to ≤ next = omega (arith, less) in
    let by_end : to ≤ r.base + r.size = omega (arith, less, until) in
    let rest : IsRestFrom f to (drop c.skip_ended-read.result (g.T.Rows.list c.args.table.now)) =
    c.skip_ended-read.ensures.rest f from i.rest (omega (arith, order))
    (ends_sooner to next (drop c.loop-from.read (g.T.Rows.list c.args.table.now)) by_next i.ends) in
    let value = c.value_and_end-there.ensures.value f rest in
    let ends : c.ends_piece-count.result ≡ (if c.loop-from.bare && not (nat_lt to (r.base + r.size) && c.is_none.result) then 1 else 0) =
    c.ends_piece-count.ensures ∙ ap (λ n. if c.loop-from.bare && not (nat_lt to n && c.is_none.result) then 1 else 0) until in
    let few = one_at_most (c.loop-from.bare && not (nat_lt to (r.base + r.size) && c.is_none.result)) in
    record {
      first = omega (arith, i.first, order);
      last = by_end;
      rest = rest;
      here = none_told c.is_none-bare-in-loop-from.result c.value_and_end-there.result.0 c.is_none-bare-in-loop-from.ensures
          ∙ ap is_none value;
      stays = c.value_and_end-there.ensures.stays f rest;
      ends = c.value_and_end-there.ensures.ends rest.ends;
      after = c.value_and_end-there.ensures.after rest.ends;
      few = omega (arith, i.few, order, few, ends);
      count = more_pieces r f from to next c.loop-from.count c.ends_piece-count.result c.loop-from.bare c.is_none.result i.first order
          by_end by_next
          i.stays i.here (none_told c.is_none.result c.value_and_end-there.result.0 c.is_none.ensures ∙ ap is_none value) ends i.count;
    }

pub returns : goal.returns
returns g c =
    let f : ℕ → Option LabelView = value_at (g.T.Rows.list c.args.table.now) in
    let r : RangeView = c.args.range.now in
    let i = c.loop-from.invariant in
    let at : c.loop-from.from ≡ r.base + r.size = omega (arith, i.last, c.loop-from-test.false, c.end-until.ensures.value) in
    all_pieces r f c.loop-from.count (omega (arith, c.end-until.ensures.small))
    (i.count ∙ ap (λ n. total (run_ends_at same_label (gaps_in_range r plain_label f)) 0 n) at)
