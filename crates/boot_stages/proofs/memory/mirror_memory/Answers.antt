-- The mirrored ranges of the command words, and then those of the EFI map if there is one.
use Rattle.std.proofs.Common.{◌++◌, List, Result, Ok, map, sym, subst}
use Rattle.memblock_model.specs.declared.item.Item.{Item}
use Rattle.growth_model.specs.declared.refusal.Refusal.{Refusal}
use Rattle.early_memory.specs.EarlyInputs.{FrameRange}
use Rattle.early_memory.specs.FirstItems.{mirror_items}
use Rattle.stage_steps.specs.Causes.{refusal_for}
use Rattle.stage_steps.specs.Steps.{EndsAsStage}
use Rattle.memblock_grow.proofs.GoingLaws.{goes-then}
use Rattle.boot_model.specs.Boot.{efi_mirrors}
use Rattle.boot_model.specs.First.{items_with_growths}
use Rattle.boot_model.specs.Mirrors.{frame_range_of}
use Rattle.boot_model.specs.View.{inputs_view}
use Rattle.boot_stages.proofs.ItemsLaws.{carries-exit, carries-second}
use Rattle.boot_stages.proofs.ExitLaws.{exit}
use Rattle.boot_stages.proofs.MemoryLaws.{mirrors-append}
use Rattle.boot_stages.proofs.memory.mirror_memory.Goals as goal

-- two lists of mirrored ranges, the first of which was carried out
both : (r : Result (Unit {0}) Refusal) (words efi : List FrameRange) (old mid new : List Item)
    → EndsAsStage {A = Unit {0}} (items_with_growths (mirror_items words)) refusal_for (Ok tt) old mid
    → EndsAsStage (items_with_growths (mirror_items efi)) refusal_for r mid new
    → EndsAsStage (items_with_growths (mirror_items (words ++ efi))) refusal_for r old new
both r words efi old mid new first rest =
    subst (λ (is : List Item). EndsAsStage (items_with_growths is) refusal_for r old new) (sym (mirrors-append words efi))
    (carries-second r (mirror_items words) (mirror_items efi) old mid new first rest)

pub returns-in_err-add_mirrors-clause-ends : goal.returns-in_err-add_mirrors-clause-ends
returns-in_err-add_mirrors-clause-ends c =
    rw (mirrors-append (map frame_range_of c.args.inputs.now.mirrors.items) (efi_mirrors (inputs_view c.args.inputs.now).efi))
    (carries-exit c.in_err-add_mirrors.field-0.0 _ _ _ _ _ (exit _ _ c.from_residual.ensures.1)
    (rw c.deref.ensures.value at c.in_err-add_mirrors.ensures.ends))

pub returns-in-Some-clause-ends : goal.returns-in-Some-clause-ends
returns-in-Some-clause-ends c =
    rw c.in-Some.is (both _ (map frame_range_of c.args.inputs.now.mirrors.items) (map frame_range_of c.in-Some.efi.mirrors.items) _ _ _
    (rw c.deref.ensures.value at c.in_ok-add_mirrors.ensures.ends)
    (rw c.deref-in-Some.ensures.value at c.add_mirrors-in-Some.ensures.ends))

pub returns-in-Some-clause-goes_on : goal.returns-in-Some-clause-goes_on
returns-in-Some-clause-goes_on c = goes-then _ _ _ c.in_ok-add_mirrors.ensures.goes_on c.add_mirrors-in-Some.ensures.goes_on
