-- Whether a table is full, from the tables and from the items; and two growths are enough.
use Rattle.std.proofs.Common.{◌≡◌, ℕ, ◌+◌, ◌^◌, ◌<◌, ◌≤◌, true, false, nat_lt, List, [], ◌∷◌, length, Result, Ok, Err, OnOk, refl, sym, ◌∙◌, ap, subst, arith}
use Rattle.std.proofs.lemmas.Bool.Decides.{nat_tests}
use Rattle.bm_base.specs.Range.{RangeView}
use Rattle.memblock_model.specs.declared.owner.Which.{Which}
use Rattle.memblock_model.specs.declared.owner.Which.TheVariants as which
use Rattle.memblock_model.specs.declared.item.Item.{Item}
use Rattle.memblock_model.specs.Labels.{Labels}
use Rattle.memblock_model.specs.Tables.{table_of, records_of, uncovered_run_count}
use Rattle.memblock_ranges.specs.Tables.{TablesView, table_in, records_in, room_in}
use Rattle.memblock_ranges.proofs.CountLaws.{few-pieces}
use Rattle.growth_model.specs.declared.refusal.Refusal.{Refusal}
use Rattle.growth_model.specs.Change.{Change}
use Rattle.growth_model.specs.Growth.{is_full, record_count, make_table_room, reserved_growth, memory_growth}
use Rattle.growth_model.specs.Ends.{EndsAsChange}
use Rattle.growth_model.specs.Tables.{HasFirstItem}
use Rattle.growth_model.specs.Room.{IsInAddressSpace, HasRoomAfter}
use Rattle.growth_model.proofs.FirstLaws.{no_records}
use Rattle.growth_model.proofs.RoomLaws.{enough-claimed, enough-freed, enough-added, enough-labelled}
use Rattle.memblock_grow.specs.declared.places.AllocSettings.{AllocSettings}
use Rattle.memblock_grow.specs.declared.new_records.MaxNewRecords.{MaxNewRecords}
use Rattle.memblock_grow.specs.declared.new_records.MaxNewRecords.TheVariants as more
use Rattle.memblock_grow.specs.Invariant.{TablesMatchItems}
use Rattle.memblock_grow.specs.NewRecords.{new_records_by_items, new_records_in_table, HasRoomFor, RangeEndsBelow2To64}
use Rattle.memblock_grow.proofs.KeptLaws.{records-are, room-is, values-are}

module _ {kernel : RangeView} {items : List Item} {t : TablesView} {at : AllocSettings} (kept : TablesMatchItems kernel items t at) where
  more-is : (w : Which) (m : MaxNewRecords) → new_records_in_table m (table_in w t) ≡ new_records_by_items w m items
  more-is w (more.PiecesOf range) = ap (λ (f : Labels). uncovered_run_count range f) (values-are kept w)
  more-is w more.Two = refl

  -- full by the tables means full by the items
  pub full-is : (w : Which) (m : MaxNewRecords)
      → nat_lt (room_in w t) (length (records_in w t) + new_records_in_table m (table_in w t)) ≡ is_full w (new_records_by_items w m) items
  full-is w m = rw (room-is kept w, records-are kept w, more-is w m) refl

  -- if the table isn't full by the items, it has room
  pub room-of : (w : Which) (m : MaxNewRecords) → is_full w (new_records_by_items w m) items ≡ false → HasRoomFor m (table_in w t)
  room-of w m h = let full = full-is w m ∙ h in grind (arith, nat_tests, full)

-- before the first item no table is full
few-more : (m : MaxNewRecords) → RangeEndsBelow2To64 m → new_records_by_items which.Reserved m [] ≤ 2
unfolding records_of
few-more (more.PiecesOf range) ends =
    let few = few-pieces range (table_of which.Reserved []) (omega arith) (λ x le. refl) in
    let none = no_records (table_of which.Reserved []) (λ x. refl) in
    omega (arith, few, none)
few-more more.Two ends = omega arith

pub full-begun : (m : MaxNewRecords) (items : List Item) → RangeEndsBelow2To64 m
    → is_full which.Reserved (new_records_by_items which.Reserved m) items ≡ true
    → HasFirstItem items
unfolding records_of
full-begun m [] ends h =
    let none = no_records (table_of which.Reserved []) (λ x. refl) in
    let few = few-more m ends in
    let full : 128 < record_count which.Reserved [] + new_records_by_items which.Reserved m [] = grind (arith, nat_tests, h) in
    absurd (omega (arith, none, few, full))
full-begun m (i ∷ is) ends h = tt

-- two growths are enough, by the law about items
module _ {kernel : RangeView} {items : List Item} {t : TablesView} {at : AllocSettings} (kept : TablesMatchItems kernel items t at)
    (low : at.limit ≤ 2 ^ 64) where
  pub space-of : IsInAddressSpace items
  space-of = record { ends = kept.ends; limit = subst (λ (n : ℕ). n ≤ 2 ^ 64) (sym kept.limit) low }

  pub reserved-enough : (m : MaxNewRecords) (avoid : RangeView) → RangeEndsBelow2To64 m
      → HasRoomAfter which.Reserved (new_records_by_items which.Reserved m) (reserved_growth avoid) items
  reserved-enough (more.PiecesOf range) avoid ends = enough-claimed avoid range items space-of kept.fits (omega arith)
  reserved-enough more.Two avoid ends = enough-freed avoid items space-of kept.fits

  pub memory-enough : (m : MaxNewRecords) → RangeEndsBelow2To64 m
      → HasRoomAfter which.Memory (new_records_by_items which.Memory m) memory_growth items
  memory-enough (more.PiecesOf range) ends = enough-added range items space-of kept.fits (omega arith)
  memory-enough more.Two ends = enough-labelled items space-of kept.fits

pub room-after : (w : Which) (m : MaxNewRecords) (growth : Change)
    (items : List Item) {kernel : RangeView} {longer : List Item} {u : TablesView}
    {at : AllocSettings} (r : Result (Unit {0}) Refusal) → HasRoomAfter w (new_records_by_items w m) growth items
    → EndsAsChange r items longer (make_table_room w (new_records_by_items w m) growth) → TablesMatchItems kernel longer u at
    → OnOk r (HasRoomFor m (table_in w u))
room-after w m growth items (Ok x) law ends kept = room-of kept w m (ap (is_full w (new_records_by_items w m)) ends.1 ∙ law ends.0)
room-after w m growth items (Err e) law ends kept = tt
