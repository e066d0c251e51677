-- The invariant of a memblock holds after each call.
use Rattle.std.proofs.Common.{List}
use Rattle.bm_base.specs.Range.{RangeView}
use Rattle.memblock_model.specs.declared.item.Item.{Item}
use Rattle.memblock_ranges.specs.Tables.{TablesView}
use Rattle.growth_model.proofs.SoundLaws.{Stands}
use Rattle.growth_model.proofs.FollowLaws.{follows-stands, follows-then}
use Rattle.memblock_grow.specs.declared.places.AllocSettings.{AllocSettings}
use Rattle.memblock_grow.specs.Invariant.{IsMemblock, KeepsTables, BytesFollowItems}

pub whole-on : {kernel : RangeView} {items longer : List Item} {t u : TablesView} {at : AllocSettings} → IsMemblock kernel items t at
    → KeepsTables items t longer u at → BytesFollowItems items t longer u at → Stands kernel longer → IsMemblock kernel longer u at
whole-on {kernel} m keeps bytes stands =
    let kept = keeps kernel m.kept in
    record {
      image = m.image;
      kept = kept;
      placed = stands;
      spelled = follows-stands _ _ _ _ _ _ _ kept.memory kept.reserved (bytes kernel m.kept m.spelled);
    }

-- what two calls keep, one after the other
pub keeps-then : {items mid last : List Item} {t u v : TablesView} {at : AllocSettings} → KeepsTables items t mid u at
    → KeepsTables mid u last v at
    → KeepsTables items t last v at
keeps-then first second = λ kernel kept. second kernel (first kernel kept)

pub bytes-then : {items mid last : List Item} {t u : TablesView} (v : TablesView) {at : AllocSettings} → KeepsTables items t mid u at
    → BytesFollowItems items t mid u at → BytesFollowItems mid u last v at → BytesFollowItems items t last v at
bytes-then v keeps first second = λ kernel kept spelled.
    let there = keeps kernel kept in
    let on = first kernel kept spelled in
    follows-then _ _ _ _ _ _ _ on (second kernel there (follows-stands _ _ _ _ _ _ _ there.memory there.reserved on))
