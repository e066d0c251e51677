-- The runs of the map, a trim, and the mirrored ranges, in this order. If a call fails, the items
-- before it were carried out.
use Rattle.std.proofs.Common.{◌∷◌, refl, ap, arith}
use Rattle.memblock_model.specs.declared.item.Item.TheVariants as item
use Rattle.memblock_grow.specs.MemblockView.{MemblockView}
use Rattle.memblock_grow.specs.Continues.{ContinuesMemblock}
use Rattle.memblock_grow.proofs.GoingLaws.{goes-then}
use Rattle.early_memory.specs.EarlyInputs.{EarlyInputs}
use Rattle.early_memory.specs.FirstItems.{items_of_map, mirror_items}
use Rattle.boot_model.specs.Boot.{early_inputs}
use Rattle.boot_model.specs.View.{inputs_view}
use Rattle.boot_stages.proofs.ItemsLaws.{carries-exit, carries-second, carries-wanting, change_writing_item-second}
use Rattle.boot_stages.proofs.ExitLaws.{exit}
use Rattle.boot_stages.proofs.memory.add_memory_of_map.Goals as goal
use Rattle.boot_stages.proofs.memory.add_memory_of_map.Goals.{After-trim}

-- memblock continues after the trim
trimmed : (c : After-trim) → ContinuesMemblock c.args.memblock.now c.trim.new.self
trimmed c =
    goes-then _ _ _ c.in_ok-add_map.ensures.goes_on c.trim.ensures.goes_on

pub returns-in_err-add_map-clause-ends : goal.returns-in_err-add_map-clause-ends
returns-in_err-add_map-clause-ends c =
    rw (← c.reach.ensures) (carries-exit c.in_err-add_map.field-0.0 _ (items_of_map c.reach.result c.args.map.now) _ _ _
    (exit _ _ c.from_residual.ensures.1) c.in_err-add_map.ensures.ends)

pub returns-in_err-trim-clause-ends : goal.returns-in_err-trim-clause-ends
returns-in_err-trim-clause-ends c =
    let e : EarlyInputs = early_inputs (inputs_view c.args.inputs.now) in
    rw (← c.reach.ensures) (carries-second _ (items_of_map c.reach.result c.args.map.now) (item.Trim ∷ mirror_items e.mirrors) _ _ _
    c.in_ok-add_map.ensures.ends (carries-wanting _ _ _ _ _ (exit _ _ c.from_residual-in_err-trim.ensures.1) (omega arith)
    (ap (λ (m : MemblockView). m.journal.items) c.in_err-trim.ensures.appends.0)))

pub returns-clause-ends : goal.returns-clause-ends
returns-clause-ends c =
    let e : EarlyInputs = early_inputs (inputs_view c.args.inputs.now) in
    rw (← c.reach.ensures) (carries-second _ (items_of_map c.reach.result c.args.map.now) (item.Trim ∷ mirror_items e.mirrors) _ _ _
    c.in_ok-add_map.ensures.ends
    (change_writing_item-second _ item.Trim (mirror_items e.mirrors) _ _ _ (refl, c.in_ok-trim.ensures.appends.0)
    c.mirror_memory.ensures.ends))

pub returns-clause-goes_on : goal.returns-clause-goes_on
returns-clause-goes_on c = goes-then _ _ _ (trimmed (goal.at.returns-clause-goes_on c).After-trim) c.mirror_memory.ensures.goes_on
