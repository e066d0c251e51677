-- Two growths of a table in a row are enough: each doubles the room and adds at most two records,
-- and a change needs at most two records more than the table has.
use Rattle.std.proofs.Common.{◌≡◌, ℕ, ◌+◌, ◌*◌, ◌^◌, ◌<◌, ◌≤◌, false, Option, Some, None, List, [], ◌∷◌, ◌++◌, length, refl, sym, ◌∙◌, ap, subst, inl, inr, ◌⊎◌, arith}
use Rattle.std.specs.Option.{IsSome}
use Rattle.std.proofs.lemmas.Bool.{cases_Bool}
use Rattle.std.proofs.lemmas.Bool.Decides.{nat_tests}
use Rattle.std.proofs.lemmas.List.{append-nil}
use Rattle.bm_base.specs.Range.{RangeView, end_of}
use Rattle.address_runs.specs.Edits.{cover_range, uncover_range, IsEmptyFrom}
use Rattle.address_runs.proofs.EditLaws.{nothing-covered, nothing-uncovered}
use Rattle.memblock_model.specs.declared.owner.Which.{Which}
use Rattle.memblock_model.specs.declared.owner.Which.TheVariants as which
use Rattle.memblock_model.specs.declared.owner.Owner.{Owner}
use Rattle.memblock_model.specs.declared.owner.Owner.TheVariants as owner
use Rattle.memblock_model.specs.declared.item.Item.{Item}
use Rattle.memblock_model.specs.declared.item.Item.TheVariants as item
use Rattle.memblock_model.specs.Labels.{Labels, plain_label}
use Rattle.memblock_model.specs.Items.{owner_of, limit_of}
use Rattle.memblock_model.specs.Search.{best_place}
use Rattle.memblock_model.specs.Tables.{without_owner, reserved_labels, table_of, records_for, records_of, room_of, moved_to}
use Rattle.memblock_model.proofs.ItemLaws.{reserved_labels-replaced, reserved_labels-uncovered}
use Rattle.memblock_model.proofs.TableLaws.{room_of-least}
use Rattle.memblock_ranges.proofs.CountLaws.{length-covered, length-uncovered, few-pieces, one-piece}
use Rattle.growth_model.specs.Change.{Change, items_after_change, if_due, write_item, ◌>>◌}
use Rattle.growth_model.specs.Growth.{record_count, is_full, count_uncovered_pieces, max_records_added_by_split, frames_for_bytes, place_beside_range, table_query, reserved_growth_items, reserved_growth_at, reserved_growth, claim_range, old_frames, free_old_place, memory_growth_at, memory_growth}
use Rattle.growth_model.specs.Tables.{IsUnclaimed, TablesAreClaimed, TablesHaveRoom}
use Rattle.growth_model.specs.Room.{IsInAddressSpace, DoublesRoom, HasRoomAfter}
use Rattle.growth_model.proofs.CutLaws.{cuts-last, items_after_change-then, then-unrefused}
use Rattle.growth_model.proofs.SeatLaws.{covers-to}
use Rattle.growth_model.proofs.FoundLaws.{IsNew, beside-new}
use Rattle.growth_model.proofs.PlacedLaws.{moves-of, rooms-of, for_table, Going, aside-same}
use Rattle.growth_model.proofs.PlacedReservedLaws.{grew, new_place, claimed_place, reserved-rooms, grew-limit, grew-owners-first, grew-owners-again, reserved-cuts}
use Rattle.growth_model.proofs.QuietLaws.{memory_growth-quiet, quiet-memory, quiet-limit}
use Rattle.growth_model.proofs.LimitLaws.{LiesAt, claim_range-stays, free_old_place-stays}

-- one table and the limit end at or below 2^64
record Bounded (w : Which) (items : List Item) : Type 0 where
  pub ends : IsEmptyFrom (2 ^ 64) (table_of w items)
  pub limit : limit_of items ≤ 2 ^ 64

-- the table doubled, and still ends at or below 2^64
record Well (w : Which) (old new : List Item) : Type 0 where
  pub doubled : DoublesRoom w old new
  pub bounded : Bounded w new

module _ (w : Which) (more : List Item → ℕ) (growth : Change)
    (doubles : (t : List Item) → Bounded w t → (growth t).refused ≡ None → Well w t (items_after_change t (growth t)))
    (few : (t : List Item) → Bounded w t → more t ≤ record_count w t + 2) where
  abbrev once : Change
  once = if_due (is_full w more) growth

  -- a growth that isn't due does nothing
  by_due : (t : List Item) → ((is_full w more t ≡ false) × (items_after_change t (once t) ≡ t)) ⊎ (once t ≡ growth t)
  by_due t = elim (cases_Bool (is_full w more t)) as (λ _.
      ((is_full w more t ≡ false) × (items_after_change t (once t) ≡ t)) ⊎ (once t ≡ growth t)) [
        | inl due ↦ inr (rw due refl)
        | inr idle ↦ inl (idle, rw idle (append-nil t))
      ]

  grew-well : (t : List Item) → Bounded w t → once t ≡ growth t → (once t).refused ≡ None → Well w t (items_after_change t (once t))
  grew-well t bounded is unrefused = rw is (doubles t bounded (rw is at unrefused))

  enough : (t u v : List Item) → record_count w t ≤ room_of w t → DoublesRoom w t u → DoublesRoom w u v → more v ≤ record_count w v + 2
      → is_full w more v ≡ false
  enough t u v fits first second wanted =
      let least = room_of-least w t in
      let a = first.room in let b = second.room in let c = first.few in let d = second.few in
      let room : record_count w v + more v ≤ room_of w v = omega arith in
      grind (arith, nat_tests, room)

  idle-room : (t : List Item) → is_full w more t ≡ false → items_after_change t (once t) ≡ t
      → is_full w more (items_after_change t (once t)) ≡ false
  idle-room t idle is = ap (is_full w more) is ∙ idle

  second-room : (t u : List Item) → record_count w t ≤ room_of w t → Well w t u → (once u).refused ≡ None
      → is_full w more (items_after_change u (once u)) ≡ false
  second-room t u fits first unrefused = elim (by_due u) as (λ _. is_full w more (items_after_change u (once u)) ≡ false) [
    | inl idle ↦ idle-room u idle.0 idle.1
    | inr due ↦
        let second = grew-well u first.bounded due unrefused in
        enough t u (items_after_change u (once u)) fits first.doubled second.doubled (few (items_after_change u (once u)) second.bounded)
  ]

  room-after : (t : List Item) → Bounded w t → record_count w t ≤ room_of w t → HasRoomAfter w more growth t
  room-after t bounded fits unrefused =
      let parts = then-unrefused t once once unrefused in
      let u : List Item = items_after_change t (once t) in
      ap (is_full w more) (items_after_change-then t once once parts.0)
      ∙ (elim (by_due t) as (λ _. is_full w more (items_after_change u (once u)) ≡ false) [
        | inl idle ↦
            subst (λ (v : List Item). is_full w more (items_after_change v (once v)) ≡ false) (sym idle.1) (idle-room t idle.0 idle.1)
        | inr due ↦ second-room t u fits (grew-well t bounded due parts.0) parts.1
      ])

-- the reserved table gets the record of its new place, and a record may be split where the old
-- place is freed
module _ (avoid : RangeView) (t : List Item) (place : ℕ) (new : IsNew t avoid (room_of which.Reserved t) place)
    (bounded : Bounded which.Reserved t) where
  abbrev table : Labels
  table = table_of which.Reserved t

  abbrev claim : RangeView
  claim = new_place t place

  claim-ends : end_of claim ≤ 2 ^ 64
  claim-ends = let a = new.within in let b = bounded.limit in omega arith

  claim_range-few : length (records_for (cover_range claim plain_label table)) ≤ length (records_for table) + 1
  claim_range-few =
      let least = room_of-least which.Reserved t in
      let one = one-piece claim table claim-ends (omega arith)
      (λ x le lt. ap without_owner (new.free x (covers-to claim x le lt))) in
      let all = length-covered claim plain_label table claim-ends bounded.ends in
      omega (arith, one, all)

  claim_range-bounded : IsEmptyFrom (2 ^ 64) (cover_range claim plain_label table)
  claim_range-bounded = nothing-covered (2 ^ 64) claim plain_label table claim-ends bounded.ends

  abbrev grew-table : Option ℕ → Labels
  grew-table None = cover_range claim plain_label table
  grew-table (Some q) = uncover_range (frames_for_bytes q (24 * room_of which.Reserved t)) (cover_range claim plain_label table)

  grew-table-is : (old : Option ℕ) → table_of which.Reserved (grew t old place) ≡ grew-table old
  grew-table-is None =
      ap reserved_labels (grew-owners-first t place) ∙ reserved_labels-replaced claim (for_table which.Reserved) (owner_of t)
  grew-table-is (Some q) =
      let left : RangeView = frames_for_bytes q (24 * room_of which.Reserved t) in
      ap reserved_labels (grew-owners-again t q place) ∙ reserved_labels-uncovered left (claimed_place t place)
      ∙ ap (uncover_range left) (reserved_labels-replaced claim (for_table which.Reserved) (owner_of t))

  grew-few : (old : Option ℕ) → length (records_for (grew-table old)) ≤ length (records_for table) + 2
  grew-few None = let few = claim_range-few in omega (arith, few)
  grew-few (Some q) =
      let few = claim_range-few in
      let one = length-uncovered (frames_for_bytes q (24 * room_of which.Reserved t))
      (cover_range claim plain_label table) claim_range-bounded in
      omega (arith, few, one)

  grew-bounded : (old : Option ℕ) → IsEmptyFrom (2 ^ 64) (grew-table old)
  grew-bounded None = claim_range-bounded
  grew-bounded (Some q) =
      nothing-uncovered (2 ^ 64) (frames_for_bytes q (24 * room_of which.Reserved t))
      (cover_range claim plain_label table) claim_range-bounded

  grew-well-by : (old : Option ℕ) → Well which.Reserved t (grew t old place)
  unfolding records_of
  grew-well-by old = record {
    doubled = record {
      room = reserved-rooms which.Reserved t (room_of which.Reserved t) old place;
      few = subst (λ (f : Labels). length (records_for f) ≤ length (records_for table) + 2) (sym (grew-table-is old)) (grew-few old);
    };
    bounded = record {
      ends = subst (λ (f : Labels). IsEmptyFrom (2 ^ 64) f) (sym (grew-table-is old)) (grew-bounded old);
      limit = subst (λ (n : ℕ). n ≤ 2 ^ 64) (sym (grew-limit t old place)) bounded.limit;
    };
  }

reserved-at : (avoid : RangeView) (t : List Item) (found : Option ℕ) → place_beside_range avoid (room_of which.Reserved t) t ≡ found
    → Bounded which.Reserved t
    → (reserved_growth_at (room_of which.Reserved t) (moved_to which.Reserved t) found t).refused ≡ None
    → Well which.Reserved t (items_after_change t (reserved_growth_at (room_of which.Reserved t) (moved_to which.Reserved t) found t))
unfolding reserved_growth_at
reserved-at avoid t None is bounded unrefused = cc
reserved-at avoid t (Some place) is bounded unrefused =
    let old : Option ℕ = moved_to which.Reserved t in
    subst (λ (s : List Item). Well which.Reserved t (t ++ s))
    (sym (append-nil (reserved_growth_items (room_of which.Reserved t) old place)))
    (grew-well-by avoid t place (beside-new t avoid (room_of which.Reserved t) place is) bounded old)

reserved-well : (avoid : RangeView) (t : List Item) → Bounded which.Reserved t → (reserved_growth avoid t).refused ≡ None
    → Well which.Reserved t (items_after_change t (reserved_growth avoid t))
unfolding reserved_growth
reserved-well avoid t bounded unrefused =
    reserved-at avoid t (place_beside_range avoid (room_of which.Reserved t) t) refl bounded unrefused

-- the memory table has twice the room and the same records
memory-room_at : (t : List Item) (found : Option ℕ)
    → (memory_growth_at (room_of which.Memory t) (moved_to which.Memory t) found t).refused ≡ None
    → room_of which.Memory (items_after_change t (memory_growth_at (room_of which.Memory t) (moved_to which.Memory t) found t))
    ≡ 2 * room_of which.Memory t
unfolding memory_growth_at
memory-room_at t None unrefused = cc
memory-room_at t (Some place) unrefused =
    let room : ℕ = room_of which.Memory t in
    let old : Option ℕ = moved_to which.Memory t in
    let first : Change = claim_range (frames_for_bytes place (48 * room)) (owner.Table which.Memory) in
    let moves : Item = item.Grown which.Memory place (2 * room) in
    let last : Change = free_old_place (old_frames room old) in
    let u : List Item = items_after_change t (first t) in
    let there : List Item = u ++ moves ∷ [] in
    let here : LiesAt old room u = cuts-last (LiesAt old room) t (first t).steps
    (claim_range-stays old room (frames_for_bytes place (48 * room)) (owner.Table which.Memory) t (refl, refl)) in
    let moved : LiesAt (Some place) (2 * room) there =
    (moves-of which.Memory u (moves ∷ []), rooms-of which.Memory u (moves ∷ []) ∙ ap (λ (n : ℕ). 2 * n) here.1) in
    let stays : LiesAt (Some place) (2 * room) (items_after_change there (last there)) =
    cuts-last (LiesAt (Some place) (2 * room)) there (last there).steps
    (free_old_place-stays (Some place) (2 * room) (old_frames room old) there moved) in
    ap (room_of which.Memory)
    (items_after_change-then t first (write_item moves >> last) (then-unrefused t first (write_item moves >> last) unrefused).0
    ∙ items_after_change-then u (write_item moves) last refl) ∙ stays.1

memory-room : (t : List Item) → (memory_growth t).refused ≡ None
    → room_of which.Memory (items_after_change t (memory_growth t)) ≡ 2 * room_of which.Memory t
unfolding memory_growth
memory-room t unrefused = memory-room_at t (best_place t (table_query (room_of which.Memory t) 0 (limit_of t))) unrefused

memory-well : (t : List Item) → Bounded which.Memory t → (memory_growth t).refused ≡ None
    → Well which.Memory t (items_after_change t (memory_growth t))
unfolding records_of
memory-well t bounded unrefused =
    let same : table_of which.Memory (items_after_change t (memory_growth t)) ≡ table_of which.Memory t =
    quiet-memory t (memory_growth t) (memory_growth-quiet.each t) in
    let few = ap (λ (f : Labels). length (records_for f)) same in
    record {
      doubled = record { room = memory-room t unrefused; few = omega (arith, few) };
      bounded = record {
        ends = subst (λ (f : Labels). IsEmptyFrom (2 ^ 64) f) (sym same) bounded.ends;
        limit = subst (λ (n : ℕ). n ≤ 2 ^ 64) (sym (quiet-limit t (memory_growth t) (memory_growth-quiet.each t))) bounded.limit;
      };
    }

-- the bounds that hold of the items of a boot
bounded-of : (w : Which) (items : List Item) → IsInAddressSpace items → Bounded w items
bounded-of w items space = record { ends = space.ends w; limit = space.limit }

pub reserved-doubles : (avoid : RangeView) (items : List Item) → IsInAddressSpace items → (reserved_growth avoid items).refused ≡ None
    → DoublesRoom which.Reserved items (items_after_change items (reserved_growth avoid items))
reserved-doubles avoid items space unrefused =
    (reserved-well avoid items (bounded-of which.Reserved items space) unrefused).doubled

pub memory-doubles : (items : List Item) → IsInAddressSpace items → (memory_growth items).refused ≡ None
    → DoublesRoom which.Memory items (items_after_change items (memory_growth items))
memory-doubles items space unrefused = (memory-well items (bounded-of which.Memory items space) unrefused).doubled

few-new : (w : Which) (range : RangeView) → end_of range ≤ 2 ^ 64 → (t : List Item) → Bounded w t
    → count_uncovered_pieces w range t ≤ record_count w t + 2
unfolding records_of
few-new w range ends t bounded = let few = few-pieces range (table_of w t) ends bounded.ends in omega (arith, few)

few-two : (w : Which) (t : List Item) → Bounded w t → max_records_added_by_split t ≤ record_count w t + 2
few-two w t bounded = omega arith

pub enough-claimed : (avoid range : RangeView) (items : List Item) → IsInAddressSpace items → TablesHaveRoom items → end_of range ≤ 2 ^ 64
    → HasRoomAfter which.Reserved (count_uncovered_pieces which.Reserved range) (reserved_growth avoid) items
enough-claimed avoid range items space fits ends =
    room-after which.Reserved (count_uncovered_pieces which.Reserved range) (reserved_growth avoid) (reserved-well avoid)
    (few-new which.Reserved range ends) items (bounded-of which.Reserved items space) (fits which.Reserved)

pub enough-freed : (avoid : RangeView) (items : List Item) → IsInAddressSpace items → TablesHaveRoom items
    → HasRoomAfter which.Reserved max_records_added_by_split (reserved_growth avoid) items
enough-freed avoid items space fits =
    room-after which.Reserved max_records_added_by_split (reserved_growth avoid) (reserved-well avoid) (few-two which.Reserved) items
    (bounded-of which.Reserved items space) (fits which.Reserved)

pub enough-added : (range : RangeView) (items : List Item) → IsInAddressSpace items → TablesHaveRoom items → end_of range ≤ 2 ^ 64
    → HasRoomAfter which.Memory (count_uncovered_pieces which.Memory range) memory_growth items
enough-added range items space fits ends =
    room-after which.Memory (count_uncovered_pieces which.Memory range) memory_growth memory-well (few-new which.Memory range ends) items
    (bounded-of which.Memory items space) (fits which.Memory)

pub enough-labelled : (items : List Item) → IsInAddressSpace items → TablesHaveRoom items
    → HasRoomAfter which.Memory max_records_added_by_split memory_growth items
enough-labelled items space fits =
    room-after which.Memory max_records_added_by_split memory_growth memory-well (few-two which.Memory) items
    (bounded-of which.Memory items space)
    (fits which.Memory)

-- after one growth apart from an unclaimed range, the table has room for the range, since it is
-- one piece
room-for-free : (kernel range : RangeView) (items : List Item) → IsInAddressSpace items → TablesHaveRoom items
    → TablesAreClaimed kernel items → 0 < range.size
    → end_of range ≤ 2 ^ 64 → IsUnclaimed (owner_of items) range → (reserved_growth range items).refused ≡ None
    → is_full which.Reserved (count_uncovered_pieces which.Reserved range) (items_after_change items (reserved_growth range items)) ≡ false
unfolding records_of
room-for-free kernel range items space fits placed some ends free unrefused =
    let u : List Item = items_after_change items (reserved_growth range items) in
    let well = (reserved-well range items (bounded-of which.Reserved items space) unrefused).doubled in
    let going : Going kernel range items u = cuts-last (Going kernel range items) items (reserved_growth range items).steps
    (reserved-cuts kernel range items items (record { placed = placed; aside = aside-same kernel range items })) in
    let one = one-piece range (table_of which.Reserved u) ends some
    (λ x le lt. ap without_owner (going.aside.free free x (covers-to range x le lt))) in
    let room = well.room in let few = well.few in let least = room_of-least which.Reserved items in let fit = fits which.Reserved in
    let all : record_count which.Reserved u + count_uncovered_pieces which.Reserved range u ≤ room_of which.Reserved u =
    omega (arith, one, room, few, least, fit) in
    grind (arith, nat_tests, all)

found-unrefused : (range : RangeView) (items : List Item) (found : Option ℕ)
    → place_beside_range range (room_of which.Reserved items) items ≡ found
    → IsSome found → (reserved_growth range items).refused ≡ None
unfolding reserved_growth reserved_growth_at
found-unrefused range items None is some = cc
found-unrefused range items (Some place) is some = rw is refl

-- so the range is claimed, unless the table is full and finds no place
pub free-claimed : (kernel range : RangeView) (who : Owner) (items : List Item) → IsInAddressSpace items → TablesHaveRoom items
    → TablesAreClaimed kernel items
    → 0 < range.size → end_of range ≤ 2 ^ 64 → IsUnclaimed (owner_of items) range
    → (is_full which.Reserved (count_uncovered_pieces which.Reserved range) items ≡ false)
    ⊎ IsSome (place_beside_range range (room_of which.Reserved items) items)
    → (claim_range range who items).refused ≡ None
unfolding claim_range
free-claimed kernel range who items space fits placed some ends free (inl idle) = rw (idle, append-nil items, idle) refl
free-claimed kernel range who items space fits placed some ends free (inr found) =
    elim (cases_Bool (is_full which.Reserved (count_uncovered_pieces which.Reserved range) items)) as (λ _.
    (claim_range range who items).refused ≡ None) [
      | inl full ↦
          let unrefused = found-unrefused range items (place_beside_range range (room_of which.Reserved items) items) refl found in
          rw (full, unrefused, room-for-free kernel range items space fits placed some ends free unrefused) refl
      | inr idle ↦ rw (idle, append-nil items, idle) refl
    ]
