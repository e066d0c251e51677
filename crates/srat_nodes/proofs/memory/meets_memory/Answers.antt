use Rattle.std.proofs.Common.{◌≡◌, ◌↔◌, Bool, true, drop, subst, sym, arith}
use Rattle.std.proofs.lemmas.List.{map-id}
use Rattle.address_runs.specs.Runs.{RunOf, range_of_run, value_at}
use Rattle.address_runs.specs.Sweep.{IsRestFrom}
use Rattle.bm_base.specs.Range.{RangeView, Meet}
use Rattle.srat_nodes.proofs.MemoryLaws.{nothing_left, first_tells}
use Rattle.srat_nodes.proofs.memory.meets_memory.Goals as goal

pub returns-then-first-len : goal.returns-then-first-len
returns-then-first-len c =
    let rs = c.args.memory.now.items in
    let rest = subst (λ (g : RangeView). IsRestFrom (value_at rs) g.base (drop c.first_ending_above-first.result rs)) c.range.view_is
    (rw (map-id rs) at c.first_ending_above-first.ensures.rest) in
    sym (nothing_left rs c.first_ending_above-first.result c.args.range.now rest (omega arith))

pub returns : goal.returns
returns c =
    let rs = c.args.memory.now.items in
    let rest = subst (λ (g : RangeView). IsRestFrom (value_at rs) g.base (drop c.first_ending_above-first.result rs)) c.range.view_is
    (rw (map-id rs) at c.first_ending_above-first.ensures.rest) in
    let tells = subst (λ (r : RunOf Bool). c.overlaps.result ≡ true ↔ Meet (range_of_run r) c.args.range.now) c.run.view_is
    c.overlaps.ensures in
    first_tells rs c.first_ending_above-first.result c.args.range.now c.index.result.now rest
    (omega arith) c.index.ensures c.overlaps.result tells
