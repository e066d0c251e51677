-- The direction is one item or none.
use Rattle.std.proofs.Common.{true, Ok, refl, ap, arith}
use Rattle.memblock_model.specs.declared.item.Item.TheVariants as item
use Rattle.memblock_grow.specs.MemblockView.{MemblockView}
use Rattle.boot_stages.proofs.ExitLaws.{exit}
use Rattle.boot_stages.proofs.ItemsLaws.{carries-change, carries-nothing, carries-wanting}
use Rattle.boot_stages.proofs.memory.set_search_direction.Goals as goal

pub returns-in_err-set_upward-clause-ends : goal.returns-in_err-set_upward-clause-ends
returns-in_err-set_upward-clause-ends c =
    rw c.if-upward.true (carries-wanting _ (item.Upward true) _ _ _ (exit _ _ c.from_residual.ensures.1) (omega arith)
    (ap (λ (m : MemblockView). m.journal.items) c.in_err-set_upward.ensures.appends.0))

pub returns-in_ok-set_upward-clause-ends : goal.returns-in_ok-set_upward-clause-ends
returns-in_ok-set_upward-clause-ends c =
    rw c.if-upward.true (carries-change (Ok tt) (item.Upward true) _ _ (refl, c.in_ok-set_upward.ensures.appends.0))

pub returns-else-upward-clause-ends : goal.returns-else-upward-clause-ends
returns-else-upward-clause-ends c = rw c.if-upward.false (carries-nothing c.args.memblock.now.journal.items)
