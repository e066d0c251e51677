-- The item of a range is the first of the remaining items.
use Rattle.std.proofs.Common.{List, ◌∷◌, [], Ok, map, arith}
use Rattle.std.proofs.lemmas.List.{at_drop_all}
use Rattle.bm_base.specs.Range.{RangeView}
use Rattle.memblock_model.specs.declared.item.Item.TheVariants as item
use Rattle.growth_model.specs.Growth.{set_range_mirror}
use Rattle.growth_model.proofs.SoundLaws.{ends-begun}
use Rattle.memblock_grow.proofs.GoingLaws.{goes-then}
use Rattle.early_memory.specs.FirstItems.{mirror_items}
use Rattle.boot_model.specs.Mirrors.{frame_range_of}
use Rattle.boot_stages.proofs.ItemsLaws.{carries-change, carries-nothing, change_writing_item-exit, leaves-all, leaves-next}
use Rattle.boot_stages.proofs.ExitLaws.{exit}
use Rattle.boot_stages.proofs.MemoryLaws.{mirrors_next}
use Rattle.boot_stages.proofs.memory.add_mirrors.Goals as goal

pub returns-in_err-set_mirror-clause-ends : goal.returns-in_err-set_mirror-clause-ends
returns-in_err-set_mirror-clause-ends c =
    let next = mirrors_next c.args.mirrors.now c.loop-mirror.mirror-index c.mirror-item.result (omega (arith, c.loop-mirror-test.true))
    c.mirror-item.is c.requires.whole in
    c.loop-mirror.invariant.left.ends _ _ (rw next (change_writing_item-exit c.in_err-set_mirror.field-0.0 _ _ _ _ _
    (exit _ _ c.from_residual.ensures.1) c.in_err-set_mirror.ensures.ends))

pub loop-mirror-init : goal.loop-mirror-init
loop-mirror-init c = record { left = leaves-all _ _; begun = c.requires.begun; goes_on = c.no_items_no_change.ensures }

pub loop-mirror-preserved : goal.loop-mirror-preserved
loop-mirror-preserved c =
    let range : RangeView = c.mirror-item.result in
    let next = mirrors_next c.args.mirrors.now c.loop-mirror.mirror-index range (omega (arith, c.loop-mirror-test.true))
    c.mirror-item.is c.requires.whole in
    record {
      left = leaves-next _ (item.Mirror range ∷ []) _ _ _ _ _ next
          (carries-change (Ok tt) (item.Mirror range) _ _ c.in_ok-set_mirror.ensures.ends) c.loop-mirror.invariant.left;
      begun = ends-begun {T = Unit {0}} (Ok tt) _ _ (set_range_mirror range) c.loop-mirror.invariant.begun c.in_ok-set_mirror.ensures.ends;
      goes_on = goes-then _ _ _ c.loop-mirror.invariant.goes_on
          c.set_mirror.ensures.goes_on;
    }

pub returns-clause-ends : goal.returns-clause-ends
returns-clause-ends c =
    let none = at_drop_all (λ (rs : List RangeView). mirror_items (map frame_range_of rs)) c.args.mirrors.now c.loop-mirror.mirror-index
    (omega (arith, c.loop-mirror-test.false)) in
    c.loop-mirror.invariant.left.ends (Ok tt) _ (rw none (carries-nothing c.loop-mirror.memblock.journal.items))

pub returns-in_err-set_mirror-clause-goes_on : goal.returns-in_err-set_mirror-clause-goes_on
returns-in_err-set_mirror-clause-goes_on c =
    goes-then _ _ _ c.loop-mirror.invariant.goes_on
    c.set_mirror.ensures.goes_on
