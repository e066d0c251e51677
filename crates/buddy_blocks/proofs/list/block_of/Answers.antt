use Rattle.std.proofs.Common.{◌-◌, ◌%◌, ℕ, Some, ◌∙◌, ap, arith}
use Rattle.std.proofs.lemmas.List.{map-id}
use Rattle.address_runs.specs.Runs.{RunOf}
use Rattle.buddy_blocks.specs.declared.block.Block.{Block}
use Rattle.buddy_blocks.proofs.LookLaws.{begins_later_at, found_at}
use Rattle.buddy_blocks.proofs.list.block_of.Goals as goal

pub returns-then-frame-run : goal.returns-then-frame-run
returns-then-frame-run c =
    let rs = c.args.runs.now.items in
    let r : RunOf ℕ = record { base = c.run.inside.first; size = c.run.inside.count; value = c.run.inside.node } in
    begins_later_at rs c.first_ending_above-i.result c.args.frame c.index-run.result.now r (c.run.view_is ∙ c.index-run.ensures)
    (omega arith)
    (rw (map-id rs) at c.first_ending_above-i.ensures.rest) c.if-frame-run.true

pub returns : goal.returns
returns c =
    let rs = c.args.runs.now.items in
    let r : RunOf ℕ = record { base = c.run.inside.first; size = c.run.inside.count; value = c.run.inside.node } in
    let e = c.set_within-set.ensures in
    let first : ℕ = c.args.frame - c.args.frame % c.set_within-set.result.size in
    ap (λ z. let b : Block = record { order = c.set_within-set.result.order; first = first; node = r.value; zone = z } in Some b)
    c.zone_of.ensures
    ∙ found_at rs c.first_ending_above-i.result c.args.frame c.set_within-set.result.order c.set_within-set.result.size
    c.index-run.result.now r
    (c.run.view_is ∙ c.index-run.ensures) c.requires (omega arith) c.if-frame-run.false
    (rw (map-id rs) at c.first_ending_above-i.ensures.rest)
    e.small e.size e.fits e.greatest
