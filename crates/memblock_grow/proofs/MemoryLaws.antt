-- The growth of the memory table: its new place, its items, and its effect on the tables and on
-- each byte.
use Rattle.std.proofs.Common.{◌≡◌, ℕ, ◌*◌, ◌^◌, ◌<◌, Option, Some, None, List, [], ◌∷◌, ◌++◌, Result, Ok, Err, IsErrAnd, refl, sym, ◌∙◌, ap, subst, arith}
use Rattle.std.specs.Option.{option_map, IfSome}
use Rattle.bm_base.specs.Range.{RangeView, end_of}
use Rattle.phys_store.specs.Bytes.{byte_of}
use Rattle.memblock_model.specs.declared.owner.Which.TheVariants as which
use Rattle.memblock_model.specs.declared.owner.Owner.TheVariants as owner
use Rattle.memblock_model.specs.declared.item.Item.{Item}
use Rattle.memblock_model.specs.declared.item.Item.TheVariants as item
use Rattle.memblock_model.specs.Items.{owner_of, limit_of}
use Rattle.memblock_model.specs.Tables.{room_of, moved_to}
use Rattle.memblock_model.specs.Search.{best_place}
use Rattle.memblock_ranges.specs.declared.region.Head.{Head}
use Rattle.memblock_ranges.specs.Tables.{TableView, TablesView, room_in, head_of, OverlapsTable}
use Rattle.growth_model.specs.declared.refusal.Refusal.{Refusal}
use Rattle.growth_model.specs.declared.refusal.Refusal.TheVariants as refusal
use Rattle.growth_model.specs.Change.{ChangeEffect, Change, ◌>>◌, write_item}
use Rattle.growth_model.specs.Growth.{round_up_to_frames, frames_for_bytes, table_query, old_frames, claim_range, free_old_place, memory_growth_at, memory_growth}
use Rattle.growth_model.specs.Ends.{EndsAsEffect, EndsAsChange}
use Rattle.growth_model.specs.Tables.{IsUnclaimed, TablesAreClaimed, OverlapsNoTable}
use Rattle.growth_model.specs.Bytes.{byte_with_tables, byte_without_table, TablesAreEncoded, Follows}
use Rattle.growth_model.proofs.EndLaws.{EndsAsChange-second, EndsAsChange-first, EndsAsChange-step, EndsAsChange-wanting, EndsAsChange-refused}
use Rattle.growth_model.proofs.SeatLaws.{frames-more}
use Rattle.growth_model.proofs.FoundLaws.{found-unclaimed, away-within, away-apart}
use Rattle.growth_model.proofs.PlacedMemoryLaws.{IsTaken, claim_range-taken}
use Rattle.growth_model.proofs.FollowLaws.{follows-grown, follows-then, follows-stands}
use Rattle.memblock_grow.specs.declared.places.AllocSettings.{AllocSettings}
use Rattle.memblock_grow.specs.Invariant.{TablesMatchItems, IsMemblock, AllowsFree, KeepsTables, BytesFollowItems}
use Rattle.memblock_grow.specs.Places.{frames_between}
use Rattle.memblock_grow.proofs.KeptLaws.{room-is, kept-grown}
use Rattle.memblock_grow.proofs.ChangeLaws.{handed}
use Rattle.memblock_grow.proofs.PlaceLaws.{mapped-some, mapped-none, between-is}
use Rattle.memblock_grow.proofs.ReservedLaws.{items_freeing_old_place-size}

-- the best place below the limit
pub record IsBest (items : List Item) (place : RangeView) : Type 0 where
  pub found : best_place items (table_query (room_of which.Memory items) 0 (limit_of items)) ≡ Some place.base
  pub is : place ≡ frames_for_bytes place.base (48 * room_of which.Memory items)

module _ {kernel : RangeView} {items : List Item} {t : TablesView} {at : AllocSettings} (kept : TablesMatchItems kernel items t at) where
  best_place-along : {head : Head} {o : Option RangeView} → head ≡ head_of t.memory → o ≡ frames_between t at.upward head.room 0 at.limit
      → o ≡ option_map (λ place. frames_for_bytes place (48 * room_of which.Memory items))
      (best_place items (table_query (room_of which.Memory items) 0 (limit_of items)))
  best_place-along said is = rw (is, said, sym kept.limit) (between-is kept 0 (limit_of items))

  pub best_place-found : {head : Head} {o : Option RangeView} {place : RangeView} → head ≡ head_of t.memory
      → o ≡ frames_between t at.upward head.room 0 at.limit → o ≡ Some place → IsBest items place
  best_place-found {place} said is some =
      let n = room_of which.Memory items in
      let found = best_place items (table_query n 0 (limit_of items)) in
      let known = mapped-some found (48 * n) place (sym (best_place-along said is) ∙ some) in
      record { found = known.found; is = known.is }

  pub memory-none : {head : Head} {o : Option RangeView} → head ≡ head_of t.memory
      → o ≡ frames_between t at.upward head.room 0 at.limit → o ≡ None
      → EndsAsChange {T = Unit {0}} (Err (refusal.NoGapForTable which.Memory head.room)) items items memory_growth
  unfolding memory_growth memory_growth_at
  memory-none said is none =
      let n = room_of which.Memory items in
      let found = best_place items (table_query n 0 (limit_of items)) in
      let nowhere : found ≡ None = mapped-none found (48 * n) (sym (best_place-along said is) ∙ none) in
      rw (ap (λ (h : Head). h.room) said ∙ room-is kept which.Memory, nowhere) (EndsAsChange-refused (Unit {0}) which.Memory n items)

-- the three changes of a growth that found a place
abbrev taking : RangeView → Change
taking place = claim_range place (owner.Table which.Memory)

abbrev leaving : List Item → Change
leaving items = free_old_place (old_frames (room_of which.Memory items) (moved_to which.Memory items))

abbrev moving : List Item → RangeView → Change
moving items place = write_item (item.Grown which.Memory place.base (2 * room_of which.Memory items))

module _ {items : List Item} {place : RangeView} (known : IsBest items place) where
  pub best_place-free : IsUnclaimed (owner_of items) place
  best_place-free =
      rw known.is (found-unclaimed items (table_query (room_of which.Memory items) 0 (limit_of items)) place.base known.found)

  memory-some : (taking place >> (moving items place >> leaving items)) items ≡ memory_growth items
  unfolding memory_growth memory_growth_at
  memory-some =
      ap (λ (e : RangeView). (taking e >> (moving items place >> leaving items)) items) known.is
      ∙ ap (λ (o : Option ℕ). memory_growth_at (room_of which.Memory items) (moved_to which.Memory items) o items) (sym known.found)

  by-growth : (new : List Item) (r : Result (Unit {0}) Refusal)
      → EndsAsChange r items new (taking place >> (moving items place >> leaving items))
      → EndsAsChange r items new memory_growth
  by-growth new r h = subst (λ (o : ChangeEffect). EndsAsEffect r items new o) memory-some h

  pub memory-fails : (new : List Item) (e : Refusal) (r : Result (Unit {0}) Refusal) → IsErrAnd r (λ (n : Refusal). n ≡ e)
      → EndsAsChange {T = Unit {0}} (Err e) items new (claim_range place (owner.Table which.Memory))
      → EndsAsChange r items new memory_growth
  memory-fails new e r is h = by-growth new r (rw (handed r e is)
      (EndsAsChange-first (Unit {0}) (Unit {0}) e items new (taking place) (moving items place >> leaving items) h))

  pub memory-wants : (mid new : List Item) (r : Result (Unit {0}) Refusal) → IsErrAnd r (λ (n : Refusal). n ≡ refusal.Memory)
      → EndsAsChange {T = Unit {0}} (Ok tt) items mid (claim_range place (owner.Table which.Memory)) → new ≡ mid
      → EndsAsChange r items new memory_growth
  memory-wants mid new r is h same =
      let rest = moving items place >> leaving items in
      by-growth new r (rw (handed r refusal.Memory is, same)
      (EndsAsChange-second {T = Unit {0}} {U = Unit {0}} tt (Err refusal.Memory) items mid mid (taking place) rest h
      (EndsAsChange-wanting (Unit {0}) mid rest (omega arith))))

  pub memory-done : (mid next new : List Item) (base room : ℕ) (old : Option RangeView) (r : Result (Unit {0}) Refusal) → base ≡ place.base
      → room ≡ 2 * room_of which.Memory items → old ≡ old_frames (room_of which.Memory items) (moved_to which.Memory items)
      → EndsAsChange {T = Unit {0}} (Ok tt) items mid (claim_range place (owner.Table which.Memory))
      → next ≡ mid ++ item.Grown which.Memory base room ∷ [] → EndsAsChange r next new (free_old_place old)
      → EndsAsChange r items new memory_growth
  memory-done mid next new base room old r here twice left was is h =
      let i : Item = item.Grown which.Memory place.base (2 * room_of which.Memory items) in
      let same : next ≡ mid ++ i ∷ [] = rw (is, here, twice) refl in
      let last : EndsAsChange r (mid ++ i ∷ []) new (leaving items) =
      subst (λ (l : List Item). EndsAsChange r l new (leaving items)) same
      (subst (λ (o : Option RangeView). EndsAsChange r next new (free_old_place o)) left h) in
      by-growth new r (EndsAsChange-second {T = Unit {0}} tt r items mid new (taking place) (moving items place >> leaving items) was
      (EndsAsChange-second {T = Unit {0}} tt r mid (mid ++ i ∷ []) new (moving items place) (leaving items)
      (EndsAsChange-step {T = Unit {0}} tt mid (i ∷ [])) last))

  -- after the claim of the new place
  pub best_place-taken : (kernel : RangeView) (mid : List Item) → TablesAreClaimed kernel items
      → EndsAsChange {T = Unit {0}} (Ok tt) items mid (claim_range place (owner.Table which.Memory))
      → IsTaken kernel mid (room_of which.Memory items) (moved_to which.Memory items) place.base
  best_place-taken kernel mid placed was =
      claim_range-taken {T = Unit {0}} tt kernel items mid place.base placed known.found
      (subst (λ (e : RangeView). EndsAsChange {T = Unit {0}} (Ok tt) items mid (claim_range e (owner.Table which.Memory))) known.is was)

-- the tables after the claim of the place, and after the move
pub record MovedMemory (items : List Item) (t k r : TablesView) (base : ℕ) (place : RangeView) : Type 0 where
  pub claimed : k.memory ≡ t.memory
  pub table : r.memory ≡ record k.memory { place = base; room = 2 * k.memory.room }
  pub other : r.reserved ≡ k.reserved
  pub told : (x : ℕ) → byte_of r.store x ≡ byte_with_tables r.memory r.reserved x (byte_without_table k.memory x (byte_of k.store x))
  pub here : base ≡ place.base
  pub is : place ≡ frames_for_bytes place.base (48 * room_of which.Memory items)
  pub ends : end_of place < 2 ^ 64

pub memory-apart : {kernel : RangeView} {items mid : List Item} {t k : TablesView} {at : AllocSettings} {base : ℕ} (place : RangeView)
    → TablesMatchItems kernel items t at → TablesMatchItems kernel mid k at → k.memory ≡ t.memory → base ≡ place.base
    → IsTaken kernel mid (room_of which.Memory items) (moved_to which.Memory items) place.base
    → ¬ OverlapsTable k (record { base = base; size = 48 * room_in which.Memory k })
memory-apart {kernel} {items} {mid} {k} {base} place kept after same here taken =
    let n = room_of which.Memory items in
    let small : RangeView = record { base = place.base; size = 48 * n } in
    let room : room_in which.Memory k ≡ n = ap (λ (s : TableView). s.room) same ∙ room-is kept which.Memory in
    subst (λ (m : ℕ). ¬ OverlapsTable k (record { base = base; size = 48 * m })) (sym room)
    (rw here (away-apart kernel small mid k after.memory after.reserved
    (away-within kernel (frames_for_bytes place.base (48 * n)) small mid (frames-more small) taken.away)))

module _ {kernel : RangeView} {items mid : List Item} {t k r : TablesView} {at : AllocSettings} {base : ℕ} {place : RangeView}
    (kept : TablesMatchItems kernel items t at) (m : MovedMemory items t k r base place) (keeps : KeepsTables items t mid k at)
    (room : ℕ) where
  memory-kept : TablesMatchItems kernel (mid ++ item.Grown which.Memory base room ∷ []) r at
  memory-kept =
      let after = keeps kernel kept in
      let same = sym (room-is after which.Memory) ∙ ap (λ (s : TableView). s.room) m.claimed ∙ room-is kept which.Memory in
      let size : place.size ≡ round_up_to_frames (48 * room_of which.Memory items) = ap (λ (e : RangeView). e.size) m.is in
      let ends = m.ends in
      let here = m.here in
      kept-grown after r which.Memory base room (rw same (omega (arith, size, ends, here))) m.table m.other

  memory-bytes : TablesAreEncoded t.memory t.reserved (byte_of t.store) → BytesFollowItems items t mid k at
      → Follows kernel items (mid ++ item.Grown which.Memory base room ∷ []) (byte_of t.store) (byte_of r.store)
  memory-bytes spelled bytes =
      follows-then _ _ _ _ _ _ _ (bytes kernel kept spelled)
      (follows-grown kernel mid which.Memory base room k.memory r.memory r.reserved _ _ (keeps kernel kept).memory memory-kept.memory
      memory-kept.reserved m.told)

-- a table's old place may be freed if it overlaps neither table
free-by : {kernel : RangeView} {is : List Item} {t : TablesView} {at : AllocSettings} (n : ℕ) (o : Option ℕ) {left : Option RangeView}
    → IsMemblock kernel is t at → ((q : ℕ) → o ≡ Some q → OverlapsNoTable kernel (frames_for_bytes q (24 * n)) is) → left ≡ old_frames n o
    → IfSome left (λ range. AllowsFree is t at range)
free-by n None whole away h = rw h tt
free-by {kernel} n (Some q) whole away h = rw h (kernel, whole, away q refl)

-- the tables after the claim and the move, with the items given by an equation
module _ (base room : ℕ) {items mid next : List Item} {t k r : TablesView} {at : AllocSettings} {place : RangeView}
    (m : MovedMemory items t k r base place) (keeps : KeepsTables items t mid k at)
    (is : next ≡ mid ++ item.Grown which.Memory base room ∷ []) where
  pub memory-keeps : KeepsTables items t next r at
  memory-keeps = λ kernel kept. rw is (memory-kept kept m keeps room)

  pub memory-tells : BytesFollowItems items t mid k at → BytesFollowItems items t next r at
  memory-tells bytes = λ kernel kept spelled. rw is (memory-bytes kept m keeps room spelled bytes)

  -- the invariant before the old place is freed
  module _ (bytes : BytesFollowItems items t mid k at) (twice : room ≡ 2 * room_of which.Memory items) {kernel : RangeView}
      (whole : IsMemblock kernel items t at)
      (taken : IsTaken kernel mid (room_of which.Memory items) (moved_to which.Memory items) place.base) where
    memory-stands : IsMemblock kernel next r at
    memory-stands =
        let moved = memory-keeps kernel whole.kept in
        record {
          image = whole.image;
          kept = moved;
          placed = λ _. rw (is, twice, m.here) taken.next;
          spelled = follows-stands _ _ _ _ _ _ _ moved.memory moved.reserved (memory-tells bytes kernel whole.kept whole.spelled);
        }

    pub memory-free : (left : Option RangeView) → left ≡ old_frames (room_of which.Memory items) (moved_to which.Memory items)
        → IfSome left (λ range. AllowsFree next r at range)
    memory-free left old =
        free-by (room_of which.Memory items) (moved_to which.Memory items) memory-stands
        (λ q was. rw (is, twice, m.here) (taken.left q was)) old

pub left-some : (items : List Item) (left : Option RangeView) → left ≡ old_frames (room_of which.Memory items) (moved_to which.Memory items)
    → IfSome left (λ range. 0 < range.size)
left-some items None h = tt
left-some items (Some range) h = items_freeing_old_place-size which.Memory items (moved_to which.Memory items) range (sym h)
