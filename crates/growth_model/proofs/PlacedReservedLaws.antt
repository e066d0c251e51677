-- Both tables lie in claimed memory, apart from each other, throughout a growth of the reserved
-- table, a claim and a free.
use Rattle.std.proofs.Common.{◌≡◌, ℕ, ◌*◌, true, Option, Some, None, List, [], ◌∷◌, ◌++◌, refl, sym, subst, inl, inr, arith}
use Rattle.std.proofs.lemmas.Bool.{cases_Bool, false_from_ne_true}
use Rattle.std.proofs.lemmas.Bool.Decides.{nat_tests}
use Rattle.bm_base.specs.Range.{RangeView, covers}
use Rattle.address_runs.specs.Edits.{uncover_range, replace_in_range}
use Rattle.memblock_model.specs.declared.owner.Which.{Which}
use Rattle.memblock_model.specs.declared.owner.Which.TheVariants as which
use Rattle.memblock_model.specs.declared.owner.Owner.{Owner}
use Rattle.memblock_model.specs.declared.item.Item.{Item}
use Rattle.memblock_model.specs.declared.item.Item.TheVariants as item
use Rattle.memblock_model.specs.Items.{Owners, owner_of, limit_of}
use Rattle.memblock_model.specs.Tables.{room_after, room_of, moved_after, moved_to, table_bytes}
use Rattle.growth_model.specs.Change.{items_after_change, write_item}
use Rattle.growth_model.specs.Growth.{frames_for_bytes, place_beside_range, reserved_growth_items, reserved_growth_at, reserved_growth, count_uncovered_pieces, max_records_added_by_split, make_table_room, claim_range, free_range}
use Rattle.growth_model.specs.Tables.{AreDisjoint, IsUnclaimed, AreTablePlaces, TablesAreClaimed, OverlapsNoTable}
use Rattle.growth_model.proofs.CutLaws.{EachCut, cuts-last, cuts-then, cuts-grown, cuts-map, items_after_change-then, then-unrefused}
use Rattle.growth_model.proofs.FoundLaws.{IsNew, beside-new}
use Rattle.growth_model.proofs.PlacedLaws.{live_by, table_bytes-is, table_bytes-same, placed-more, owners-of, moves-of, rooms-of, limits-of, MayTake, claim-placed, free-placed, Aside, aside-same, aside-on, Going, away-still, take-still, for_table, move-seats, leave-seats}

-- unclaimed bytes stay so when others are claimed, and when any are freed
claim-unclaimed : (own : Owners) (a r : RangeView) (o : Owner) → AreDisjoint a r → IsUnclaimed own a
    → IsUnclaimed (replace_in_range r o own) a
claim-unclaimed own a r o clear free x at = rw (false_from_ne_true (covers r x) (λ in_r. clear x at in_r)) (free x at)

free-unclaimed : (own : Owners) (a r : RangeView) → IsUnclaimed own a → IsUnclaimed (uncover_range r own) a
free-unclaimed own a r free x at =
    elim (cases_Bool (covers r x)) as (λ _. uncover_range r own x ≡ None) [ inl in_r ↦ rw in_r refl | inr other ↦ rw other (free x at) ]

-- the items after one growth of the reserved table from its old place
abbrev pub grew : List Item → Option ℕ → ℕ → List Item
grew t old place = t ++ reserved_growth_items (room_of which.Reserved t) old place

abbrev pub new_place : List Item → ℕ → RangeView
new_place t place = frames_for_bytes place (48 * room_of which.Reserved t)

abbrev pub claimed_place : List Item → ℕ → Owners
claimed_place t place = replace_in_range (new_place t place) (for_table which.Reserved) (owner_of t)

-- such a growth moves the reserved table and doubles its room, and doesn't change the other table
pub reserved-moves : (w : Which) (t : List Item) (room : ℕ) (old : Option ℕ) (place : ℕ)
    → moved_to w (t ++ reserved_growth_items room old place) ≡ moved_after w (moved_to w t) (item.Grown which.Reserved place (2 * room))
unfolding reserved_growth_items
reserved-moves w t room None place = moves-of w t (reserved_growth_items room None place)
reserved-moves w t room (Some q) place = moves-of w t (reserved_growth_items room (Some q) place)

pub reserved-rooms : (w : Which) (t : List Item) (room : ℕ) (old : Option ℕ) (place : ℕ)
    → room_of w (t ++ reserved_growth_items room old place) ≡ room_after w (room_of w t) (item.Grown which.Reserved place (2 * room))
unfolding reserved_growth_items
reserved-rooms w t room None place = rooms-of w t (reserved_growth_items room None place)
reserved-rooms w t room (Some q) place = rooms-of w t (reserved_growth_items room (Some q) place)

grew-live : (kernel : RangeView) (t : List Item) (old : Option ℕ) (place : ℕ)
    → table_bytes which.Reserved kernel (grew t old place) ≡ live_by which.Reserved kernel (Some place) (2 * room_of which.Reserved t)
grew-live kernel t old place = table_bytes-is which.Reserved kernel (grew t old place) (Some place) (2 * room_of which.Reserved t)
    (reserved-moves which.Reserved t (room_of which.Reserved t) old place)
    (reserved-rooms which.Reserved t (room_of which.Reserved t) old place)

grew-memory : (kernel : RangeView) (t : List Item) (old : Option ℕ) (place : ℕ)
    → table_bytes which.Memory kernel (grew t old place) ≡ table_bytes which.Memory kernel t
grew-memory kernel t old place = table_bytes-same which.Memory kernel t (grew t old place)
    (reserved-moves which.Memory t (room_of which.Reserved t) old place)
    (reserved-rooms which.Memory t (room_of which.Reserved t) old place)

pub grew-limit : (t : List Item) (old : Option ℕ) (place : ℕ) → limit_of (grew t old place) ≡ limit_of t
unfolding reserved_growth_items
grew-limit t None place = limits-of t (reserved_growth_items (room_of which.Reserved t) None place)
grew-limit t (Some q) place = limits-of t (reserved_growth_items (room_of which.Reserved t) (Some q) place)

pub grew-owners-first : (t : List Item) (place : ℕ) → owner_of (grew t None place) ≡ claimed_place t place
unfolding reserved_growth_items
grew-owners-first t place = owners-of t (reserved_growth_items (room_of which.Reserved t) None place)

pub grew-owners-again : (t : List Item) (q place : ℕ)
    → owner_of (grew t (Some q) place) ≡ uncover_range (frames_for_bytes q (24 * room_of which.Reserved t)) (claimed_place t place)
unfolding reserved_growth_items
grew-owners-again t q place = owners-of t (reserved_growth_items (room_of which.Reserved t) (Some q) place)

-- the bytes of a table at a place are in the frames at that place
pub place-inside : (room place x : ℕ) → covers (record { base = place; size = 24 * (2 * room) }) x ≡ true
    → covers (frames_for_bytes place (48 * room)) x ≡ true
place-inside room place x at = grind (arith, nat_tests, at)

grew-aside : (kernel a : RangeView) (t : List Item) (old : Option ℕ) (place : ℕ) → IsNew t a (room_of which.Reserved t) place
    → (IsUnclaimed (owner_of t) a → IsUnclaimed (owner_of (grew t old place)) a) → Aside kernel a t (grew t old place)
grew-aside kernel a t old place new free = record {
  place = reserved-moves which.Memory t (room_of which.Reserved t) old place;
  wide = reserved-rooms which.Memory t (room_of which.Reserved t) old place;
  bound = grew-limit t old place;
  free = free;
  clear = λ _. subst (λ (e : RangeView). AreDisjoint a e) (sym (grew-live kernel t old place))
      (λ x at_a at_n. new.clear x at_a (place-inside (room_of which.Reserved t) place x at_n));
}

-- one growth of the reserved table apart from the range, from its old place
grew-going : (kernel a : RangeView) (t : List Item) (old : Option ℕ) (place : ℕ) → moved_to which.Reserved t ≡ old
    → IsNew t a (room_of which.Reserved t) place → TablesAreClaimed kernel t → Going kernel a t (grew t old place)
grew-going kernel a t None place was new placed =
    let room = room_of which.Reserved t in
    let memory = table_bytes which.Memory kernel t in
    let more = reserved_growth_items room None place in
    record {
      placed = placed-more kernel t more (claimed_place t place) memory (live_by which.Reserved kernel (Some place) (2 * room)) placed
          (grew-owners-first t place) (grew-memory kernel t None place) (grew-live kernel t None place)
          (move-seats (owner_of t) memory
          (table_bytes which.Reserved kernel t) which.Reserved room place new.aligned new.free placed.seats);
      aside = grew-aside kernel a t None place new (λ free.
          subst (λ (f : Owners). IsUnclaimed f a) (sym (grew-owners-first t place))
          (claim-unclaimed (owner_of t) a (new_place t place) (for_table which.Reserved) new.clear free));
    }
grew-going kernel a t (Some q) place was new placed =
    let room = room_of which.Reserved t in
    let memory = table_bytes which.Memory kernel t in
    let more = reserved_growth_items room (Some q) place in
    let before : table_bytes which.Reserved kernel t ≡ live_by which.Reserved kernel (Some q) room =
    table_bytes-is which.Reserved kernel t (Some q) room was refl in
    let seats : AreTablePlaces (owner_of t) memory (live_by which.Reserved kernel (Some q) room) =
    subst (λ (e : RangeView). AreTablePlaces (owner_of t) memory e) before placed.seats in
    record {
      placed = placed-more kernel t more (uncover_range (frames_for_bytes q (24 * room)) (claimed_place t place)) memory
          (live_by which.Reserved kernel (Some place) (2 * room)) placed
          (grew-owners-again t q place) (grew-memory kernel t (Some q) place) (grew-live kernel t (Some q) place)
          (leave-seats (owner_of t) memory (live_by which.Reserved kernel (Some q) room) which.Reserved room place new.aligned new.free
          seats);
      aside = grew-aside kernel a t (Some q) place new (λ free.
          subst (λ (f : Owners). IsUnclaimed f a) (sym (grew-owners-again t q place))
          (free-unclaimed (claimed_place t place) a (frames_for_bytes q (24 * room))
          (claim-unclaimed (owner_of t) a (new_place t place) (for_table which.Reserved) new.clear free)));
    }

going-on : (kernel a : RangeView) (items t u : List Item) → Going kernel a items t → Going kernel a t u → Going kernel a items u
going-on kernel a items t u h k = record { placed = k.placed; aside = aside-on kernel a items t u h.aside k.aside }

growth-at : (kernel a : RangeView) (items t : List Item) (found : Option ℕ) → place_beside_range a (room_of which.Reserved t) t ≡ found
    → Going kernel a items t
    → EachCut (Going kernel a items) t (reserved_growth_at (room_of which.Reserved t) (moved_to which.Reserved t) found t).steps
unfolding reserved_growth_at
growth-at kernel a items t None found going = going
growth-at kernel a items t (Some place) found going = (
  going,
  going-on kernel a items t (grew t (moved_to which.Reserved t) place) going
      (grew-going kernel a t (moved_to which.Reserved t) place refl (beside-new t a (room_of which.Reserved t) place found) going.placed),
)

-- both tables lie in claimed memory throughout one growth of the reserved table
pub reserved-cuts : (kernel a : RangeView) (items t : List Item) → Going kernel a items t
    → EachCut (Going kernel a items) t (reserved_growth a t).steps
unfolding reserved_growth
reserved-cuts kernel a items t going = growth-at kernel a items t (place_beside_range a (room_of which.Reserved t) t) refl going

-- both tables lie in claimed memory throughout the growths before a claim or a free
pub room-cuts : (kernel a : RangeView) (more : List Item → ℕ) (items : List Item) → TablesAreClaimed kernel items
    → EachCut (Going kernel a items) items (make_table_room which.Reserved more (reserved_growth a) items).steps
room-cuts kernel a more items placed =
    cuts-grown (Going kernel a items) which.Reserved more (reserved_growth a) items (λ t going. reserved-cuts kernel a items t going)
    (record { placed = placed; aside = aside-same kernel a items })

-- the items after the growths that make room in the reserved table
abbrev pub roomy : RangeView → (List Item → ℕ) → List Item → List Item
roomy a more items = items_after_change items (make_table_room which.Reserved more (reserved_growth a) items)

pub room-going : (kernel a : RangeView) (more : List Item → ℕ) (items : List Item) → TablesAreClaimed kernel items
    → Going kernel a items (roomy a more items)
room-going kernel a more items placed =
    cuts-last (Going kernel a items) items (make_table_room which.Reserved more (reserved_growth a) items).steps
    (room-cuts kernel a more items placed)

room-placed : (kernel a : RangeView) (more : List Item → ℕ) (items : List Item) → TablesAreClaimed kernel items
    → EachCut (TablesAreClaimed kernel) items (make_table_room which.Reserved more (reserved_growth a) items).steps
room-placed kernel a more items placed =
    cuts-map (Going kernel a items) (TablesAreClaimed kernel) items (make_table_room which.Reserved more (reserved_growth a) items).steps
    (λ t going. going.placed) (room-cuts kernel a more items placed)

-- both tables lie in claimed memory throughout a claim
pub claim_range-cuts : (kernel : RangeView) (items : List Item) (r : RangeView) (o : Owner) → MayTake kernel items r o
    → TablesAreClaimed kernel items
    → EachCut (TablesAreClaimed kernel) items (claim_range r o items).steps
unfolding claim_range
claim_range-cuts kernel items r o may placed =
    let more = count_uncovered_pieces which.Reserved r in
    let going = room-going kernel r more items placed in
    cuts-then (TablesAreClaimed kernel) items (make_table_room which.Reserved more (reserved_growth r)) (write_item (item.Claim r o))
    (room-placed kernel r more items placed)
    (λ _. (going.placed, claim-placed kernel (roomy r more items) r o (take-still kernel r o items _ going.aside may) going.placed))

-- both tables lie in claimed memory throughout a free of a range that overlaps no table
pub free_range-cuts : (kernel : RangeView) (items : List Item) (r : RangeView) → OverlapsNoTable kernel r items
    → TablesAreClaimed kernel items
    → EachCut (TablesAreClaimed kernel) items (free_range r items).steps
unfolding free_range
free_range-cuts kernel items r away placed =
    let going = room-going kernel r max_records_added_by_split items placed in
    cuts-then (TablesAreClaimed kernel) items (make_table_room which.Reserved max_records_added_by_split (reserved_growth r))
    (write_item (item.Free r))
    (room-placed kernel r max_records_added_by_split items placed)
    (λ _. (
      going.placed,
      free-placed kernel (roomy r max_records_added_by_split items) r
          (away-still kernel r items _ going.aside away) going.placed,
    ))

-- a claim that wasn't refused wrote its item after growths apart from its range
pub claim_range-after : (items : List Item) (r : RangeView) (o : Owner) → (claim_range r o items).refused ≡ None
    → items_after_change items (claim_range r o items) ≡ roomy r (count_uncovered_pieces which.Reserved r) items ++ item.Claim r o ∷ []
unfolding claim_range
claim_range-after items r o unrefused =
    let growths = make_table_room which.Reserved (count_uncovered_pieces which.Reserved r) (reserved_growth r) in
    let both = then-unrefused items growths (write_item (item.Claim r o)) unrefused in
    items_after_change-then items growths (write_item (item.Claim r o)) both.0
