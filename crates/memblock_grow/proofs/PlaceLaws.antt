-- The places that a search in the tables finds are those of the items, and so is the old place of
-- a table.
use Rattle.std.proofs.Common.{◌≡◌, ◌≢◌, ℕ, ◌+◌, ◌*◌, ◌^◌, ◌<◌, ◌≤◌, ◌==◌, Bool, true, false, if◌then◌else◌, Option, Some, None, List, [], ◌∷◌, refl, sym, ◌∙◌, ap, fold, arith}
use Rattle.std.proofs.lemmas.Bool.{false_from_ne_true, eq-eqb}
use Rattle.std.proofs.lemmas.Bool.Decides.{nat_tests}
use Rattle.std.specs.Prelude.{unwrap_or}
use Rattle.std.specs.Option.{option_map, SomeIff}
use Rattle.bm_base.specs.Range.{RangeView}
use Rattle.address_runs.specs.Runs.{value_at}
use Rattle.memblock_model.specs.declared.owner.Which.{Which}
use Rattle.memblock_model.specs.declared.owner.Which.TheVariants as which
use Rattle.memblock_model.specs.declared.query.Query.{Query}
use Rattle.memblock_model.specs.declared.item.Item.{Item}
use Rattle.memblock_model.specs.declared.item.Item.TheVariants as item
use Rattle.memblock_model.specs.Labels.{Labels}
use Rattle.memblock_model.specs.Same.{same_which}
use Rattle.memblock_model.specs.Tables.{room_of, room_after, moved_to, moved_after, built_in_place}
use Rattle.memblock_model.specs.Search.{is_allowed_mirror, fits_in, best_place_in, top_place, best_place}
use Rattle.memblock_model.proofs.SearchLaws.{outermost_fit-mirrorless, best_place_in-fits, best_place_in-fails, fits_in-parts}
use Rattle.memblock_ranges.specs.Tables.{TablesView, room_in, place_in}
use Rattle.boot_journal.specs.Mirrors.{has_mirrors}
use Rattle.boot_journal.proofs.MirrorLaws.{unmirrored}
use Rattle.growth_model.specs.Request.{Attempt}
use Rattle.growth_model.specs.Growth.{round_up_to_frames, frames_for_bytes, table_query, place_beside_range, old_frames}
use Rattle.memblock_grow.specs.declared.places.AllocSettings.{AllocSettings}
use Rattle.memblock_grow.specs.Invariant.{TablesMatchItems}
use Rattle.memblock_grow.specs.Places.{MirrorsComeFromItems, top_place_in_tables, mirrored_place_in_tables, best_place_in_tables, frames_between, frames_beside, old_place_frames}
use Rattle.memblock_grow.proofs.KeptLaws.{values-are, room-is, place-is}

-- a window that is too small has no place
pub best_place_in-large : (up : Bool) (memory reserved : Labels) (q : Query) → q.hi < q.size → best_place_in up memory reserved q ≡ None
best_place_in-large up memory reserved q small =
    best_place_in-fails up memory reserved q (λ b lt. false_from_ne_true (fits_in false memory reserved q b) (λ fits.
    let high = (fits_in-parts false memory reserved q b fits).high in omega (arith, high, small)))

-- the place that is found ends in the window
pub best_place_in-high : (up : Bool) (memory reserved : Labels) (q : Query) (place : ℕ) → best_place_in up memory reserved q ≡ Some place
    → place + q.size ≤ q.hi
best_place_in-high up memory reserved q place found =
    (fits_in-parts false memory reserved q place (best_place_in-fits up memory reserved q place found)).high

-- without an item that mirrors memory no search finds mirrored memory
pub top_place-mirrorless : (items : List Item) (t : TablesView) (up : Bool) (q : Query) → MirrorsComeFromItems items t
    → has_mirrors items ≡ false
    → mirrored_place_in_tables t up q ≡ None
top_place-mirrorless items t up q knows none =
    outermost_fit-mirrorless up (value_at t.memory.records) (value_at t.reserved.records) q (knows none)

module _ {kernel : RangeView} {items : List Item} {t : TablesView} {at : AllocSettings} (kept : TablesMatchItems kernel items t at) where
  -- the memory table has mirrored memory only if an item mirrors memory
  pub knows-mirrors : MirrorsComeFromItems items t
  knows-mirrors none x = ap (λ (f : Labels). is_allowed_mirror true (f x)) (values-are kept which.Memory) ∙ unmirrored items none x

  -- the top and the best place in the tables are those of the items
  pub top_place-is : (a : Attempt) → top_place_in_tables t at.upward a ≡ top_place items a.query a.mirror
  unfolding top_place
  top_place-is a = rw (values-are kept which.Memory, values-are kept which.Reserved, kept.upward) refl

  pub best_place-is : (q : Query) → best_place_in_tables t at.upward q ≡ best_place items q
  unfolding best_place
  best_place-is q = rw (values-are kept which.Memory, values-are kept which.Reserved, kept.upward) refl

  pub between-is : (lo hi : ℕ) → frames_between t at.upward (room_in which.Memory t) lo hi
      ≡ option_map (λ place. frames_for_bytes place (48 * room_of which.Memory items))
      (best_place items (table_query (room_of which.Memory items) lo hi))
  between-is lo hi = rw (room-is kept which.Memory, best_place-is (table_query (room_of which.Memory items) lo hi)) refl

  pub beside-is : (avoid : RangeView) → frames_beside t at (room_in which.Reserved t) avoid
      ≡ option_map (λ place. frames_for_bytes place (48 * room_of which.Reserved items))
      (place_beside_range avoid (room_of which.Reserved items) items)
  beside-is avoid = rw (room-is kept which.Reserved, best_place-is, best_place-is, kept.limit) refl

-- frames at a place that was found
pub record IsPlaceOf (o : Option ℕ) (n : ℕ) (place : RangeView) : Type 0 where
  pub found : o ≡ Some place.base
  pub is : place ≡ frames_for_bytes place.base n

pub mapped-some : (o : Option ℕ) (n : ℕ) (place : RangeView) → option_map (λ (p : ℕ). frames_for_bytes p n) o ≡ Some place
    → IsPlaceOf o n place
mapped-some None n place h = cc
mapped-some (Some p) n place h =
    let is : frames_for_bytes p n ≡ place = cc in
    let base : p ≡ place.base = ap (λ (e : RangeView). e.base) is in
    record {
      found = ap (λ (x : ℕ). Some x) base;
      is = sym is ∙ ap (λ (x : ℕ). frames_for_bytes x n) base;
    }

pub mapped-none : (o : Option ℕ) (n : ℕ) → option_map (λ (p : ℕ). frames_for_bytes p n) o ≡ None → o ≡ None
mapped-none None n h = refl
mapped-none (Some p) n h = cc

-- a table has moved exactly if its room isn't the first
Moved : ℕ → Option ℕ → Type 0
Moved n None = n ≡ 128
Moved n (Some p) = 256 ≤ n

moved-by : (same : Bool) (n : ℕ) (o : Option ℕ) (place : ℕ) → Moved n o → Moved (if same then 2 * n else n) (if same then Some place else o)
unfolding Moved
moved-by false n o place h = h
moved-by true n None place h = omega arith
moved-by true n (Some p) place h = omega arith

moved-after : (w : Which) (n : ℕ) (o : Option ℕ) (i : Item) → Moved n o → Moved (room_after w n i) (moved_after w o i)
moved-after w n o (item.Grown v place room) h = moved-by (same_which w v) n o place h
moved-after w n o i h = h

moved-fold : (w : Which) (n : ℕ) (o : Option ℕ) (items : List Item) → Moved n o
    → Moved (fold (room_after w) n items) (fold (moved_after w) o items)
moved-fold w n o [] h = h
moved-fold w n o (i ∷ is) h = moved-fold w (room_after w n i) (moved_after w o i) is (moved-after w n o i h)

moved-is : (w : Which) (items : List Item) → Moved (room_of w items) (moved_to w items)
unfolding Moved
moved-is w items = moved-fold w 128 None items refl

left-by : (n built : ℕ) (o : Option ℕ) → Moved n o → old_place_frames (unwrap_or o built) n ≡ old_frames n o
unfolding Moved
left-by n built None h = let first : (n == 128) ≡ true = eq-eqb n 128 h in rw first refl
left-by n built (Some p) h = let later : (n == 128) ≡ false = grind (arith, nat_tests) in rw later refl

far-by : (n built : ℕ) (o : Option ℕ) → Moved n o → n ≢ 128 → ((p : ℕ) → o ≡ Some p → p + round_up_to_frames (24 * n) < 2 ^ 64)
    → unwrap_or o built + round_up_to_frames (24 * n) < 2 ^ 64
unfolding Moved
far-by n built None h other far = absurd (other h)
far-by n built (Some p) h other far = far p refl

module _ {kernel : RangeView} {items : List Item} {t : TablesView} {at : AllocSettings} (kept : TablesMatchItems kernel items t at) where
  -- the frames that a table leaves are those of its old place by the items
  pub left-is : (w : Which) → old_place_frames (place_in w t) (room_in w t) ≡ old_frames (room_of w items) (moved_to w items)
  left-is w =
      rw (place-is kept w, room-is kept w) (left-by (room_of w items) (built_in_place w kernel) (moved_to w items) (moved-is w items))

  pub left-far : (w : Which) → room_in w t ≢ 128 → place_in w t + round_up_to_frames (24 * room_in w t) < 2 ^ 64
  left-far w other =
      let here = far-by (room_of w items) (built_in_place w kernel) (moved_to w items) (moved-is w items) (λ e. other (room-is kept w ∙ e))
      (kept.far w) in
      rw (place-is kept w, room-is kept w) here

-- what the search for a table's frames returns if their size is too large, and if it isn't
pub between-none : (t : TablesView) (up : Bool) (room lo hi : ℕ) → hi < 2 ^ 64 → ¬ (round_up_to_frames (48 * room) < 2 ^ 64)
    → None ≡ frames_between t up room lo hi
between-none t up room lo hi small large =
    let high : hi < round_up_to_frames (48 * room) = omega (arith, large) in
    rw (best_place_in-large up (value_at t.memory.records) (value_at t.reserved.records) (table_query room lo hi) high) refl

abbrev sized : ℕ → ℕ → ℕ → Query
sized lo hi size = record { lo = lo; hi = hi; size = size; align = 4096; node = None }

new_some : (o : Option RangeView) (base size : ℕ) → SomeIff o (base + size < 2 ^ 64) (record { base = base; size = size })
    → base + size < 2 ^ 64 → o ≡ Some (record { base = base; size = size })
new_some None base size h small = absurd (h small)
new_some (Some e) base size h small = ap (λ (x : RangeView). Some x) h.1

pub between-some : (t : TablesView) (up : Bool) (room lo hi size base : ℕ) (o : Option RangeView) → size ≡ round_up_to_frames (48 * room)
    → best_place_in_tables t up (sized lo hi size) ≡ Some base → SomeIff o (base + size < 2 ^ 64) (record { base = base; size = size })
    → hi < 2 ^ 64
    → o ≡ frames_between t up room lo hi
between-some t up room lo hi size base o is found new small =
    let high : base + size ≤ hi =
    best_place_in-high up (value_at t.memory.records) (value_at t.reserved.records) (sized lo hi size) base found in
    new_some o base size new (omega arith) ∙ rw (is, rw is at found) refl
