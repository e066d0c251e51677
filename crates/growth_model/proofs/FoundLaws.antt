-- A place that a search found: no one has its bytes, so it overlaps no table.
use Rattle.std.proofs.Common.{◌≡◌, ℕ, ◌+◌, ◌*◌, ◌%◌, ◌<◌, ◌≤◌, Bool, true, false, ◌==◌, if◌then◌else◌, min, Option, Some, None, List, [], ◌∷◌, ◌++◌, refl, ap, subst, inl, inr, arith}
use Rattle.std.proofs.lemmas.Bool.{and_parts}
use Rattle.bm_base.specs.Range.{RangeView, end_of, covers, Meet}
use Rattle.memblock_model.specs.declared.owner.Which.{Which}
use Rattle.memblock_model.specs.declared.owner.Which.TheVariants as which
use Rattle.memblock_model.specs.declared.owner.Owner.{Owner}
use Rattle.memblock_model.specs.declared.query.Query.{Query}
use Rattle.memblock_model.specs.declared.item.Item.{Item}
use Rattle.memblock_model.specs.Items.{owner_of, limit_of}
use Rattle.memblock_model.specs.Tables.{without_owner, table_of, table_bytes}
use Rattle.memblock_model.specs.Items.{upward_of}
use Rattle.memblock_model.specs.Search.{top_place, best_place}
use Rattle.memblock_model.proofs.SearchLaws.{IsPlace, either, outermost_fit-fits, best_place_in-fits, fits_in-parts}
use Rattle.memblock_ranges.specs.Tables.{TablesView, bytes_of, table_range_in, OverlapsTable}
use Rattle.growth_model.specs.Growth.{round_up_to_frames, frames_for_bytes, table_query, place_beside_range}
use Rattle.memblock_model.specs.declared.query.Request.{Request}
use Rattle.growth_model.specs.Request.{Attempt, attempt, any_node_attempt, node_attempts, attempts_from, attempts, first_found_place, place_for}
use Rattle.growth_model.specs.Tables.{AreDisjoint, IsUnclaimed, TablesAreClaimed, OverlapsNoTable}
use Rattle.growth_model.specs.Bytes.{table_from_items}
use Rattle.growth_model.proofs.SeatLaws.{covers-from, frames-more, unclaimed-clear}

-- a best place fits, and so does a top one
pub found-fits : (items : List Item) (q : Query) (place : ℕ) → best_place items q ≡ Some place
    → IsPlace false (table_of which.Memory items) (table_of which.Reserved items) q place
unfolding best_place
found-fits items q place found = fits_in-parts false _ _ q place (best_place_in-fits _ _ _ q place found)

pub top_place-fits : (items : List Item) (q : Query) (mirror : Bool) (place : ℕ) → top_place items q mirror ≡ Some place
    → IsPlace mirror (table_of which.Memory items) (table_of which.Reserved items) q place
unfolding top_place
top_place-fits items q mirror place found =
    fits_in-parts mirror _ _ q place (outermost_fit-fits (record { mirror = mirror; up = upward_of items }) _ _ q place found)

pub no_owner : (o : Option Owner) → without_owner o ≡ None → o ≡ None
no_owner None e = refl
no_owner (Some o) e = cc

-- no byte of a place that fits has an owner
fits-unclaimed : (items : List Item) (q : Query) (mirror : Bool) (place : ℕ)
    → IsPlace mirror (table_of which.Memory items) (table_of which.Reserved items) q place
    → IsUnclaimed (owner_of items) (record { base = place; size = q.size })
fits-unclaimed items q mirror place known x at =
    let inside = covers-from (record { base = place; size = q.size }) x at in
    no_owner (owner_of items x) (known.free x inside.0 inside.1)

pub found-unclaimed : (items : List Item) (q : Query) (place : ℕ) → best_place items q ≡ Some place
    → IsUnclaimed (owner_of items) (record { base = place; size = q.size })
found-unclaimed items q place found = fits-unclaimed items q false place (found-fits items q place found)

-- a new place for a table that has this room: aligned, unclaimed, below 2^64, and apart from the
-- range
pub record IsNew (items : List Item) (avoid : RangeView) (room place : ℕ) : Type 0 where
  pub aligned : place % 4096 ≡ 0
  pub free : IsUnclaimed (owner_of items) (frames_for_bytes place (48 * room))
  pub within : place + round_up_to_frames (48 * room) ≤ limit_of items
  pub clear : AreDisjoint avoid (frames_for_bytes place (48 * room))

new_between : (items : List Item) (avoid : RangeView) (room lo hi place : ℕ) → hi ≤ limit_of items
    → ((x : ℕ) → avoid.base ≤ x → x < end_of avoid → lo ≤ x → x < hi → ⊥) → best_place items (table_query room lo hi) ≡ Some place
    → IsNew items avoid room place
new_between items avoid room lo hi place within beside found =
    let known = found-fits items (table_query room lo hi) place found in
    let low = known.low in let high = known.high in
    record {
      aligned = known.aligned;
      free = found-unclaimed items (table_query room lo hi) place found;
      within = omega arith;
      clear = λ x at_a at_p. let a = covers-from avoid x at_a in
          let p = covers-from (frames_for_bytes place (48 * room)) x at_p in beside x a.0 a.1 (omega arith) (omega arith);
    }

pub beside-new : (items : List Item) (avoid : RangeView) (room place : ℕ) → place_beside_range avoid room items ≡ Some place
    → IsNew items avoid room place
beside-new items avoid room place found =
    let after = end_of avoid in let limit = limit_of items in let before = min avoid.base limit in
    elim (either (best_place items (table_query room after limit)) (best_place items (table_query room 0 before)) place found)
    as (λ _. IsNew items avoid room place) [
      | inl above ↦ new_between items avoid room after limit place (omega arith) (λ x from under low high. omega arith) above
      | inr below ↦ new_between items avoid room 0 before place (omega arith) (λ x from under low high. omega arith) below
    ]

-- a query that an allocation tries
pub record IsTried (r : Request) (limit : ℕ) (q : Query) : Type 0 where
  pub sized : q.size ≡ r.size
  pub aligned : q.align ≡ r.align
  pub high : q.hi ≤ limit

abbrev AreTried : Request → ℕ → List Attempt → Type 0
AreTried r limit [] = Unit {0}
AreTried r limit (a ∷ rest) = IsTried r limit a.query × AreTried r limit rest

tried_append : (r : Request) (limit : ℕ) (ps qs : List Attempt) → AreTried r limit ps → AreTried r limit qs → AreTried r limit (ps ++ qs)
tried_append r limit [] qs h k = k
tried_append r limit (p ∷ ps) qs h k = (h.0, tried_append r limit ps qs h.1 k)

tried_if : (r : Request) (limit : ℕ) (b : Bool) (ps qs : List Attempt) → AreTried r limit ps → AreTried r limit qs
    → AreTried r limit (if b then ps else qs)
tried_if r limit true ps qs h k = h
tried_if r limit false ps qs h k = k

tried_attempt : (r : Request) (limit lo : ℕ) (mirror : Bool) (wanted : Option ℕ) → IsTried r limit (attempt r limit lo mirror wanted).query
tried_attempt r limit lo mirror wanted = record { sized = refl; aligned = refl; high = omega arith }

tried_anywhere : (r : Request) (limit lo : ℕ) (mirror : Bool) (wanted : Option ℕ)
    → AreTried r limit (any_node_attempt r limit lo mirror wanted)
tried_anywhere r limit lo mirror None = tt
tried_anywhere r limit lo mirror (Some node) =
    tried_if r limit r.exact [] (attempt r limit lo mirror None ∷ []) tt (tried_attempt r limit lo mirror None, tt)

tried_nodes : (r : Request) (limit lo : ℕ) (mirror : Bool) → AreTried r limit (node_attempts r limit lo mirror)
tried_nodes r limit lo mirror = (tried_attempt r limit lo mirror r.node, tried_anywhere r limit lo mirror r.node)

tried_round : (r : Request) (limit lo : ℕ) → AreTried r limit (attempts_from r limit lo)
tried_round r limit lo =
    tried_append r limit (node_attempts r limit lo true) (node_attempts r limit lo false) (tried_nodes r limit lo true)
    (tried_nodes r limit lo false)

tried_all : (r : Request) (limit : ℕ) → AreTried r limit (attempts r limit)
tried_all r limit = tried_append r limit (attempts_from r limit r.min) (if r.min == 0 then [] else attempts_from r limit 0)
    (tried_round r limit r.min) (tried_if r limit (r.min == 0) [] (attempts_from r limit 0) tt (tried_round r limit 0))

-- one of its searches found the place
pub record IsFound (r : Request) (items : List Item) (limit place : ℕ) : Type 0 where
  pub attempt : Attempt
  pub tried : IsTried r limit attempt.query
  pub found : top_place items attempt.query attempt.mirror ≡ Some place

first_found : (r : Request) (items : List Item) (limit place : ℕ) (all : List Attempt) → AreTried r limit all
    → first_found_place items all ≡ Some place → IsFound r items limit place
first_found r items limit place [] tried h = cc
first_found r items limit place (a ∷ rest) tried h =
    elim (either (top_place items a.query a.mirror) (first_found_place items rest) place h) as (λ _. IsFound r items limit place) [
      | inl here ↦ record { attempt = a; tried = tried.0; found = here }
      | inr later ↦ first_found r items limit place rest tried.1 later
    ]

pub place-found : (r : Request) (items : List Item) (place : ℕ) → place_for r items ≡ Some place
    → IsFound r items (limit_of items) place
place-found r items place h = first_found r items (limit_of items) place (attempts r (limit_of items)) (tried_all r (limit_of items)) h

-- the place of an allocation is unclaimed, and ends at or below the limit
pub place-unclaimed : (r : Request) (items : List Item) (place : ℕ) → place_for r items ≡ Some place
    → IsUnclaimed (owner_of items) (record { base = place; size = r.size })
place-unclaimed r items place h =
    let was = place-found r items place h in
    subst (λ (n : ℕ). IsUnclaimed (owner_of items) (record { base = place; size = n })) was.tried.sized
    (fits-unclaimed items was.attempt.query was.attempt.mirror place
    (top_place-fits items was.attempt.query was.attempt.mirror place was.found))

pub place-within : (r : Request) (items : List Item) (place : ℕ) → place_for r items ≡ Some place → place + r.size ≤ limit_of items
place-within r items place h =
    let was = place-found r items place h in
    let high = (top_place-fits items was.attempt.query was.attempt.mirror place was.found).high in
    let tried = was.tried in
    omega arith

-- unclaimed bytes overlap no table
pub unclaimed-away : (kernel a : RangeView) (items : List Item) → TablesAreClaimed kernel items → IsUnclaimed (owner_of items) a
    → OverlapsNoTable kernel a items
unclaimed-away kernel a items placed free = (
  unclaimed-clear (owner_of items) a (table_bytes which.Memory kernel items) free placed.seats.first,
  unclaimed-clear (owner_of items) a (table_bytes which.Reserved kernel items) free placed.seats.second,
)

pub found-away : (kernel : RangeView) (items : List Item) (q : Query) (place : ℕ) → TablesAreClaimed kernel items
    → best_place items q ≡ Some place
    → OverlapsNoTable kernel (record { base = place; size = q.size }) items
found-away kernel items q place placed found =
    unclaimed-away kernel (record { base = place; size = q.size }) items placed (found-unclaimed items q place found)

-- a part of a range that overlaps no table overlaps none
pub away-within : (kernel a b : RangeView) (items : List Item) → ((x : ℕ) → covers b x ≡ true → covers a x ≡ true)
    → OverlapsNoTable kernel a items
    → OverlapsNoTable kernel b items
away-within kernel a b items inside away = (λ x at. away.0 x (inside x at), λ x at. away.1 x (inside x at))

-- such a range and the tables as they are stored have no byte in common, and the other way round
away_at : (kernel a : RangeView) (items : List Item) (w : Which) → OverlapsNoTable kernel a items → Meet (table_bytes w kernel items) a → ⊥
away_at kernel a items which.Memory away (x, both) = let parts = and_parts _ _ both in away.0 x parts.1 parts.0
away_at kernel a items which.Reserved away (x, both) = let parts = and_parts _ _ both in away.1 x parts.1 parts.0

live_bytes : (kernel : RangeView) (items : List Item) (t : TablesView) (w : Which) → t.memory ≡ table_from_items which.Memory kernel items
    → t.reserved ≡ table_from_items which.Reserved kernel items → table_range_in w t ≡ table_bytes w kernel items
live_bytes kernel items t which.Memory memory reserved = ap bytes_of memory
live_bytes kernel items t which.Reserved memory reserved = ap bytes_of reserved

pub away-apart : (kernel a : RangeView) (items : List Item) (t : TablesView) → t.memory ≡ table_from_items which.Memory kernel items
    → t.reserved ≡ table_from_items which.Reserved kernel items → OverlapsNoTable kernel a items → ¬ OverlapsTable t a
away-apart kernel a items t memory reserved away (w, meet) =
    away_at kernel a items w away (subst (λ (e : RangeView). Meet e a) (live_bytes kernel items t w memory reserved) meet)

-- the place that was found for a table with twice the room satisfies what `Tables::relocate`
-- requires
pub found-apart : (kernel : RangeView) (items : List Item) (t : TablesView) (room place : ℕ)
    → t.memory ≡ table_from_items which.Memory kernel items
    → t.reserved ≡ table_from_items which.Reserved kernel items → TablesAreClaimed kernel items
    → IsUnclaimed (owner_of items) (frames_for_bytes place (48 * room)) → ¬ OverlapsTable t (record { base = place; size = 48 * room })
found-apart kernel items t room place memory reserved placed free =
    let range : RangeView = record { base = place; size = 48 * room } in
    away-apart kernel range items t memory reserved (away-within kernel (frames_for_bytes place (48 * room)) range items (frames-more range)
    (unclaimed-away kernel (frames_for_bytes place (48 * room)) items placed free))
