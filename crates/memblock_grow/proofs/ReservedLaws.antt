-- The growth of the reserved table: its new place, its items, and its effect on the tables and on
-- each byte.
use Rattle.std.proofs.Common.{◌≡◌, ℕ, ◌+◌, ◌*◌, ◌^◌, ◌<◌, ◌≤◌, ◌||◌, Option, Some, None, List, [], ◌∷◌, ◌++◌, length, Result, Ok, Err, IsErrAnd, refl, sym, ◌∙◌, ap, subst, append_assoc, arith}
use Rattle.std.specs.Option.{option_map}
use Rattle.bm_base.specs.Range.{RangeView, end_of, covers}
use Rattle.phys_store.specs.Bytes.{ExtentView, byte_of, is_prepared_at}
use Rattle.address_runs.specs.Runs.{value_at}
use Rattle.address_runs.specs.Edits.{cover_range, uncover_range}
use Rattle.memblock_model.specs.declared.owner.Which.{Which}
use Rattle.memblock_model.specs.declared.owner.Which.TheVariants as which
use Rattle.memblock_model.specs.declared.owner.Owner.TheVariants as owner
use Rattle.memblock_model.specs.declared.item.Item.{Item}
use Rattle.memblock_model.specs.declared.item.Item.TheVariants as item
use Rattle.memblock_model.specs.Labels.{Labels, plain_label}
use Rattle.memblock_model.specs.Items.{owner_of}
use Rattle.memblock_model.specs.Tables.{without_owner, records_for, uncovered_run_count, room_of, moved_to}
use Rattle.memblock_model.proofs.TableLaws.{room_of-least}
use Rattle.memblock_ranges.specs.declared.region.Head.{Head}
use Rattle.memblock_ranges.specs.Tables.{TablesView, table_in, room_in, head_of, OverlapsTable}
use Rattle.memblock_ranges.proofs.CountLaws.{one-piece}
use Rattle.growth_model.specs.declared.refusal.Refusal.{Refusal}
use Rattle.growth_model.specs.declared.refusal.Refusal.TheVariants as refusal
use Rattle.growth_model.specs.Change.{write_items}
use Rattle.growth_model.specs.Growth.{round_up_to_frames, frames_for_bytes, place_beside_range, items_freeing_old_place, old_frames, reserved_growth_items, reserved_growth_at, reserved_growth}
use Rattle.growth_model.specs.Ends.{EndsAsChange}
use Rattle.growth_model.specs.Tables.{IsUnclaimed, TablesAreClaimed}
use Rattle.growth_model.specs.Bytes.{byte_with_tables, byte_without_table, Follows}
use Rattle.growth_model.proofs.EndLaws.{EndsAsChange-step, EndsAsChange-refused, EndsAsChange-wanting}
use Rattle.growth_model.proofs.SeatLaws.{covers-to}
use Rattle.growth_model.proofs.FoundLaws.{beside-new, found-apart}
use Rattle.growth_model.proofs.FollowLaws.{follows-still, follows-item, follows-grown, follows-then}
use Rattle.memblock_grow.specs.declared.places.AllocSettings.{AllocSettings}
use Rattle.memblock_grow.specs.Invariant.{TablesMatchItems, ChangesOnlyTables, KeepsTables, BytesFollowItems}
use Rattle.memblock_grow.specs.Prepared.{Prepares}
use Rattle.memblock_grow.specs.Places.{frames_beside, old_place_frames}
use Rattle.memblock_grow.proofs.KeptLaws.{values-are, room-is, few-kept, few-covered, kept-same, kept-claim, kept-free, kept-grown}
use Rattle.memblock_grow.proofs.PlaceLaws.{mapped-some, mapped-none, beside-is, left-is}
use Rattle.memblock_grow.proofs.ChangeLaws.{handed}
use Rattle.memblock_grow.proofs.PreparedLaws.{prepares-growth, prepares-item}

-- the frames of a table aren't empty
pub frames-some : (w : Which) (items : List Item) {place : RangeView} → place ≡ frames_for_bytes place.base (48 * room_of w items)
    → 0 < place.size
frames-some w items {place} is =
    let least = room_of-least w items in
    let size : place.size ≡ round_up_to_frames (48 * room_of w items) = ap (λ (e : RangeView). e.size) is in
    omega (arith, least, size)

-- the frames that a table leaves, if any, aren't empty
pub items_freeing_old_place-size : (w : Which) (items : List Item) (o : Option ℕ) (range : RangeView)
    → old_frames (room_of w items) o ≡ Some range
    → 0 < range.size
items_freeing_old_place-size w items None range h = cc
items_freeing_old_place-size w items (Some p) range h =
    let is : frames_for_bytes p (24 * room_of w items) ≡ range = cc in
    let size : round_up_to_frames (24 * room_of w items) ≡ range.size = ap (λ (e : RangeView). e.size) is in
    let least = room_of-least w items in
    omega (arith, size, least)

-- the place that the search found apart from the range
pub record IsBeside (items : List Item) (avoid place : RangeView) : Type 0 where
  pub found : place_beside_range avoid (room_of which.Reserved items) items ≡ Some place.base
  pub is : place ≡ frames_for_bytes place.base (48 * room_of which.Reserved items)

module _ {kernel : RangeView} {items : List Item} {t : TablesView} {at : AllocSettings} (kept : TablesMatchItems kernel items t at) where
  room-least : (w : Which) → 128 ≤ room_in w t
  room-least w = omega (arith, room-is kept w, room_of-least w items)

  pub room-some : (w : Which) {head : Head} → head ≡ head_of (table_in w t) → 0 < head.room
  room-some w is = omega (arith, ap (λ (h : Head). h.room) is, room-least w)

  pub twice-is : (w : Which) {head : Head} → head ≡ head_of (table_in w t) → 2 * head.room ≡ 2 * room_of w items
  twice-is w is = ap (λ (h : Head). 2 * h.room) is ∙ ap (λ (n : ℕ). 2 * n) (room-is kept w)

  pub items_freeing_old_place-found : (w : Which) {head : Head} {o : Option RangeView} → head ≡ head_of (table_in w t)
      → o ≡ old_place_frames head.place head.room
      → o ≡ old_frames (room_of w items) (moved_to w items)
  items_freeing_old_place-found w said is = is ∙ ap (λ (h : Head). old_place_frames h.place h.room) said ∙ left-is kept w

  -- an unclaimed place is one piece
  place-one : (place : RangeView) → IsUnclaimed (owner_of items) place → 0 < place.size → end_of place < 2 ^ 64
      → uncovered_run_count place (value_at t.reserved.records) ≡ 1
  place-one place free some ends =
      one-piece place (value_at t.reserved.records) (omega arith) some
      (λ x low high. ap (λ (f : Labels). f x) (values-are kept which.Reserved) ∙ ap without_owner (free x (covers-to place x low high)))

  -- there is room for the claim of such a place, and for two more records
  pub claim-room : (p r : TablesView) {base : ℕ} (place : RangeView) → p.reserved ≡ t.reserved
      → r.reserved ≡ record p.reserved { place = base; room = 2 * p.reserved.room } → IsUnclaimed (owner_of items) place → 0 < place.size
      → end_of place < 2 ^ 64 → length r.reserved.records + uncovered_run_count place (value_at r.reserved.records) + 2 ≤ r.reserved.room
  claim-room p r place second table free some ends =
      let one = place-one place free some ends in
      let few = few-kept kept which.Reserved in
      let least = room-least which.Reserved in
      rw (table, second) (omega (arith, one, few, least))

  -- the place apart from the range, by the tables and by the items
  beside-along : (avoid : RangeView) {head : Head} {o : Option RangeView} → head ≡ head_of t.reserved
      → o ≡ frames_beside t at head.room avoid
      → o ≡ option_map (λ place. frames_for_bytes place (48 * room_of which.Reserved items))
      (place_beside_range avoid (room_of which.Reserved items) items)
  beside-along avoid said is = is ∙ ap (λ (h : Head). frames_beside t at h.room avoid) said ∙ beside-is kept avoid

  pub beside-found : {avoid place : RangeView} {head : Head} {o : Option RangeView} → head ≡ head_of t.reserved
      → o ≡ frames_beside t at head.room avoid → o ≡ Some place → IsBeside items avoid place
  beside-found {avoid} {place} said is some =
      let n = room_of which.Reserved items in
      let known = mapped-some (place_beside_range avoid n items) (48 * n) place (sym (beside-along avoid said is) ∙ some) in
      record { found = known.found; is = known.is }

  -- how a growth ends if no place was found
  pub growth-none : (avoid : RangeView) {head : Head} {o : Option RangeView} → head ≡ head_of t.reserved
      → o ≡ frames_beside t at head.room avoid → o ≡ None
      → EndsAsChange {T = Unit {0}} (Err (refusal.NoGapForTable which.Reserved head.room)) items items (reserved_growth avoid)
  unfolding reserved_growth reserved_growth_at
  growth-none avoid said is none =
      let m = room_of which.Reserved items in
      let nowhere : place_beside_range avoid m items ≡ None =
      mapped-none (place_beside_range avoid m items) (48 * m) (sym (beside-along avoid said is) ∙ none) in
      rw (ap (λ (h : Head). h.room) said ∙ room-is kept which.Reserved, nowhere) (EndsAsChange-refused (Unit {0}) which.Reserved m items)

-- a place was found: the items of the growth before the free
abbrev pub moved_items : List Item → ℕ → ℕ → RangeView → List Item
moved_items items base room place =
    (items ++ item.Grown which.Reserved base room ∷ []) ++ item.Claim place (owner.Table which.Reserved) ∷ []

abbrev pub freed_by : Option RangeView → List Item
freed_by None = []
freed_by (Some range) = item.Free range ∷ []

items_freeing_old_place-by : (n : ℕ) (o : Option ℕ) → items_freeing_old_place n o ≡ freed_by (old_frames n o)
items_freeing_old_place-by n None = refl
items_freeing_old_place-by n (Some p) = refl

module _ {items : List Item} {avoid place : RangeView} (known : IsBeside items avoid place) where
  pub beside-free : IsUnclaimed (owner_of items) place
  beside-free = rw known.is (beside-new items avoid (room_of which.Reserved items) place.base known.found).free

  -- the table may move to the place that was found: it overlaps neither table
  pub beside-apart : {kernel : RangeView} {t : TablesView} {at : AllocSettings} (p : TablesView) {base : ℕ}
      → TablesMatchItems kernel items t at
      → TablesAreClaimed kernel items → base ≡ place.base → p.memory ≡ t.memory → p.reserved ≡ t.reserved
      → ¬ OverlapsTable p (record { base = base; size = 48 * room_in which.Reserved p })
  beside-apart {kernel} p {base} kept placed here first second =
      let same = kept-same kept p first second in
      let n = room_of which.Reserved items in
      subst (λ (k : ℕ). ¬ OverlapsTable p (record { base = base; size = 48 * k })) (sym (room-is same which.Reserved))
      (rw here (found-apart kernel items p n place.base same.memory same.reserved placed
      (beside-new items avoid n place.base known.found).free))

  growth-some : reserved_growth avoid items
      ≡ write_items (reserved_growth_items (room_of which.Reserved items) (moved_to which.Reserved items) place.base) items
  unfolding reserved_growth reserved_growth_at
  growth-some =
      ap (λ (o : Option ℕ). reserved_growth_at (room_of which.Reserved items) (moved_to which.Reserved items) o items) known.found

  -- how a growth ends that ran out of memory before it wrote an item, and how one ends that didn't
  pub growth-wants : (new : List Item) (r : Result (Unit {0}) Refusal) → IsErrAnd r (λ (n : Refusal). n ≡ refusal.Memory) → new ≡ items
      → EndsAsChange r items new (reserved_growth avoid)
  growth-wants new r is same =
      rw (handed r refusal.Memory is, same, growth-some) (EndsAsChange-wanting (Unit {0}) items
      (write_items (reserved_growth_items (room_of which.Reserved items) (moved_to which.Reserved items) place.base)) (omega arith))

  pub written : (new : List Item) (base room : ℕ) (old : Option RangeView) → base ≡ place.base → room ≡ 2 * room_of which.Reserved items
      → old ≡ old_frames (room_of which.Reserved items) (moved_to which.Reserved items)
      → new ≡ moved_items items base room place ++ freed_by old → EndsAsChange {T = Unit {0}} (Ok tt) items new (reserved_growth avoid)
  unfolding reserved_growth_items
  written new base room old here twice items_freeing_old_place is =
      let n = room_of which.Reserved items in
      let g : Item = item.Grown which.Reserved base room in
      let c : Item = item.Claim place (owner.Table which.Reserved) in
      let all : new ≡ items ++ reserved_growth_items n (moved_to which.Reserved items) place.base =
      is ∙ append_assoc (items ++ g ∷ []) (c ∷ []) (freed_by old) ∙ append_assoc items (g ∷ []) (c ∷ freed_by old)
      ∙ rw (here, twice, items_freeing_old_place, items_freeing_old_place-by n (moved_to which.Reserved items))
      (ap (λ (e : RangeView). items ++ item.Grown which.Reserved place.base
      (2 * n) ∷ (item.Claim e (owner.Table which.Reserved) ∷ freed_by (old_frames n (moved_to which.Reserved items)))) known.is) in
      rw (growth-some, all) (EndsAsChange-step {T = Unit {0}} tt items (reserved_growth_items n (moved_to which.Reserved items) place.base))

-- the tables after the move, and after the claim of the new place
pub record Moved (items : List Item) (t p r v : TablesView) (base : ℕ) (place : RangeView) : Type 0 where
  pub first : p.memory ≡ t.memory
  pub second : p.reserved ≡ t.reserved
  pub bytes : (x : ℕ) → byte_of p.store x ≡ byte_of t.store x
  pub table : r.reserved ≡ record p.reserved { place = base; room = 2 * p.reserved.room }
  pub other : r.memory ≡ p.memory
  pub told : (x : ℕ) → byte_of r.store x ≡ byte_with_tables r.memory r.reserved x (byte_without_table p.reserved x (byte_of p.store x))
  pub claimed : v.reserved ≡ record r.reserved { records = records_for (cover_range place plain_label (value_at r.reserved.records)) }
  pub still : v.memory ≡ r.memory
  pub after : ChangesOnlyTables r v
  pub here : base ≡ place.base
  pub is : place ≡ frames_for_bytes place.base (48 * room_of which.Reserved items)
  pub ends : end_of place < 2 ^ 64

module _ {kernel : RangeView} {items : List Item} {t p r v : TablesView} {at : AllocSettings} {base : ℕ} {place : RangeView}
    (kept : TablesMatchItems kernel items t at) (m : Moved items t p r v base place) (free : IsUnclaimed (owner_of items) place)
    (room : ℕ) where
  before : TablesMatchItems kernel items p at
  before = kept-same kept p m.first m.second

  fits : length r.reserved.records + uncovered_run_count place (value_at r.reserved.records) + 2 ≤ r.reserved.room
  fits = claim-room kept p r place m.second m.table free (frames-some which.Reserved items m.is) m.ends

  moved-kept : TablesMatchItems kernel (items ++ item.Grown which.Reserved base room ∷ []) r at
  moved-kept =
      let size : place.size ≡ round_up_to_frames (48 * room_of which.Reserved items) = ap (λ (e : RangeView). e.size) m.is in
      let ends = m.ends in
      let here = m.here in
      kept-grown before r which.Reserved base room (omega (arith, size, ends, here)) m.table m.other

  claimed-kept : TablesMatchItems kernel (moved_items items base room place) v at
  claimed-kept = kept-claim moved-kept v place (owner.Table which.Reserved) m.ends (omega (arith, fits)) m.claimed m.still

  claimed-room : length v.reserved.records + 2 ≤ v.reserved.room
  claimed-room = let few = few-covered moved-kept which.Reserved place m.ends in rw m.claimed (omega (arith, few, fits))

  claimed-bytes : Follows kernel items (moved_items items base room place) (byte_of t.store) (byte_of v.store)
  claimed-bytes =
      follows-then _ _ _ _ _ _ _
      (follows-grown kernel items which.Reserved base room p.reserved r.memory r.reserved _ _ before.reserved moved-kept.memory
      moved-kept.reserved
      (λ x. m.told x ∙ ap (λ (b : ℕ). byte_with_tables r.memory r.reserved x (byte_without_table p.reserved x b)) (m.bytes x)))
      (follows-item kernel _ (item.Claim place (owner.Table which.Reserved)) v.memory v.reserved _ _ (λ x. refl) claimed-kept.memory
      claimed-kept.reserved m.after)

-- what is true after the claim of the new place
pub record Claimed (items longer : List Item) (t v : TablesView) (at : AllocSettings) : Type 0 where
  pub kept : KeepsTables items t longer v at
  pub bytes : BytesFollowItems items t longer v at
  pub room : (kernel : RangeView) → TablesMatchItems kernel items t at → length v.reserved.records + 2 ≤ v.reserved.room

pub claimed : (room : ℕ) {items longer : List Item} {t p r v : TablesView} {at : AllocSettings} {base : ℕ} {place : RangeView}
    → longer ≡ moved_items items base room place → Moved items t p r v base place → IsUnclaimed (owner_of items) place
    → Claimed items longer t v at
claimed room is m free = record {
  kept = λ kernel kept. rw is (claimed-kept kept m free room);
  bytes = λ kernel kept spelled. rw is (claimed-bytes kept m free room);
  room = λ kernel kept. claimed-room kept m free room;
}

-- the state after the old place is freed
module _ (range : RangeView) {items longer new : List Item} {t v : TablesView} (u : TablesView) {at : AllocSettings}
    (is : new ≡ longer ++ item.Free range ∷ []) (c : Claimed items longer t v at)
    (table : u.reserved ≡ record v.reserved { records = records_for (uncover_range range (value_at v.reserved.records)) })
    (other : u.memory ≡ v.memory) (ends : end_of range < 2 ^ 64) where
  freed-kept : (kernel : RangeView) → TablesMatchItems kernel items t at → TablesMatchItems kernel (longer ++ item.Free range ∷ []) u at
  freed-kept kernel kept = kept-free (c.kept kernel kept) u range ends (c.room kernel kept) table other

  pub freed-keeps : KeepsTables items t new u at
  freed-keeps = λ kernel kept. rw is (freed-kept kernel kept)

  pub freed-tells : ChangesOnlyTables v u → BytesFollowItems items t new u at
  freed-tells told = λ kernel kept spelled.
      let after = freed-kept kernel kept in
      rw is (follows-then _ _ _ _ _ _ _ (c.bytes kernel kept spelled)
      (follows-item kernel longer (item.Free range) u.memory u.reserved _ _ (λ x. refl) after.memory after.reserved told))

-- if no item was written and no byte changed, the bytes follow the items
pub still-bytes : {items longer : List Item} {t : TablesView} (p : TablesView) {at : AllocSettings} → longer ≡ items
    → ((x : ℕ) → byte_of p.store x ≡ byte_of t.store x) → BytesFollowItems items t longer p at
still-bytes p none same = λ kernel kept spelled. rw none (follows-still _ _ _ _ _ _ kept.memory kept.reserved spelled same)

-- the move prepares the frames of the place, and their claim prepares nothing
pub prepares-moved : (base room : ℕ) {items longer : List Item} {place : RangeView} {s t : List ExtentView}
    → longer ≡ moved_items items base room place → base ≡ place.base → room ≡ 2 * room_of which.Reserved items
    → place ≡ frames_for_bytes place.base (48 * room_of which.Reserved items)
    → ((x : ℕ) → is_prepared_at t x ≡ (covers place x || is_prepared_at s x)) → Prepares items longer s t
prepares-moved base room {items} {place} {t} is here twice frames each =
    prepares-item (item.Claim place (owner.Table which.Reserved)) {t = t} (prepares-growth which.Reserved (room_of which.Reserved items)
    {longer = items ++ item.Grown which.Reserved base room ∷ []} {t = t} refl here twice frames each) is (λ x. refl) (λ x. refl)
