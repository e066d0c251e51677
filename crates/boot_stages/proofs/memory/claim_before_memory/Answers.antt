-- The claims, the limit and the direction in their order. If a call fails, the items before it were
-- carried out.
use Rattle.std.proofs.Common.{◌∷◌, refl, ap, arith}
use Rattle.memblock_model.specs.declared.item.Item.TheVariants as item
use Rattle.early_memory.specs.declared.low.TheConstants.{ISA_END_ADDRESS}
use Rattle.early_memory.specs.EarlyInputs.{EarlyInputs}
use Rattle.early_memory.specs.FirstItems.{direction_items, early_claims}
use Rattle.memblock_grow.specs.MemblockView.{MemblockView}
use Rattle.memblock_grow.specs.Continues.{ContinuesMemblock}
use Rattle.memblock_grow.proofs.GoingLaws.{goes-then}
use Rattle.boot_model.specs.Boot.{early_inputs}
use Rattle.boot_model.specs.View.{inputs_view}
use Rattle.boot_stages.proofs.ItemsLaws.{carries-exit, carries-second, carries-wanting, change_writing_item-second}
use Rattle.boot_stages.proofs.ExitLaws.{exit}
use Rattle.boot_stages.proofs.memory.claim_before_memory.Goals as goal
use Rattle.boot_stages.proofs.memory.claim_before_memory.Goals.{After-set_limit}

-- memblock continues after the limit was set
limited : (c : After-set_limit) → ContinuesMemblock c.args.memblock.now c.set_limit.new.self
limited c =
    goes-then _ _ _ c.in_ok-claim_early.ensures.goes_on
    c.set_limit.ensures.goes_on

pub returns-in_err-claim_early-clause-ends : goal.returns-in_err-claim_early-clause-ends
returns-in_err-claim_early-clause-ends c =
    carries-exit c.in_err-claim_early.field-0.0 _ (early_claims c.args.inputs.now.kernel (inputs_view c.args.inputs.now).initrd) _ _ _
    (exit _ _ c.from_residual.ensures.1) c.in_err-claim_early.ensures.ends

pub returns-in_err-set_limit-clause-ends : goal.returns-in_err-set_limit-clause-ends
returns-in_err-set_limit-clause-ends c =
    let e : EarlyInputs = early_inputs (inputs_view c.args.inputs.now) in
    carries-second _ (early_claims e.kernel e.initrd) (item.Limit ISA_END_ADDRESS ∷ direction_items e.upward) _ _ _
    c.in_ok-claim_early.ensures.ends (carries-wanting _ _ _ _ _ (exit _ _ c.from_residual-in_err-set_limit.ensures.1) (omega arith)
    (ap (λ (m : MemblockView). m.journal.items) c.in_err-set_limit.ensures.appends.0))

pub returns-clause-ends : goal.returns-clause-ends
returns-clause-ends c =
    let e : EarlyInputs = early_inputs (inputs_view c.args.inputs.now) in
    carries-second _ (early_claims e.kernel e.initrd) (item.Limit ISA_END_ADDRESS ∷ direction_items e.upward) _ _ _
    c.in_ok-claim_early.ensures.ends (change_writing_item-second _ (item.Limit ISA_END_ADDRESS) (direction_items e.upward) _ _ _
    (refl, c.in_ok-set_limit.ensures.appends.0) c.set_search_direction.ensures.ends)

pub returns-clause-goes_on : goal.returns-clause-goes_on
returns-clause-goes_on c =
    goes-then _ _ _ (limited (goal.at.returns-clause-goes_on c).After-set_limit) c.set_search_direction.ensures.goes_on
