-- Both tables lie in claimed memory, apart from each other, throughout growths of the reserved
-- table, claims and frees.
use Rattle.std.proofs.Common.{◌≡◌, ◌⊎◌, ℕ, ◌*◌, ◌%◌, Bool, true, Option, Some, None, List, [], ◌∷◌, ◌++◌, refl, sym, ◌∙◌, ap, subst, inl, inr, arith}
use Rattle.std.specs.Prelude.{unwrap_or}
use Rattle.std.specs.List.{fold}
use Rattle.std.proofs.lemmas.List.Sums.{fold-append}
use Rattle.bm_base.specs.Range.{RangeView}
use Rattle.address_runs.specs.Edits.{uncover_range, replace_in_range}
use Rattle.memblock_model.specs.declared.owner.Which.{Which}
use Rattle.memblock_model.specs.declared.owner.Which.TheVariants as which
use Rattle.memblock_model.specs.declared.owner.Owner.{Owner}
use Rattle.memblock_model.specs.declared.owner.Owner.TheVariants as owner
use Rattle.memblock_model.specs.declared.item.Item.{Item}
use Rattle.memblock_model.specs.declared.item.Item.TheVariants as item
use Rattle.memblock_model.specs.Items.{Owners, owners_after, no_owners, owner_of, limit_after, limit_of}
use Rattle.memblock_model.specs.Tables.{room_after, room_of, moved_after, moved_to, built_in_place, table_bytes}
use Rattle.growth_model.specs.Growth.{frames_for_bytes}
use Rattle.growth_model.specs.Tables.{may_hold_table, AreDisjoint, IsUnclaimed, AreTablePlaces, TablesAreClaimed, OverlapsNoTable}
use Rattle.growth_model.proofs.SeatLaws.{frames, AreTablePlaces-claim, AreTablePlaces-clear, AreTablePlaces-free, AreTablePlaces-move, AreTablePlaces-leave}

-- a table's bytes, from its newest place and its room
abbrev pub live_by : Which → RangeView → Option ℕ → ℕ → RangeView
live_by w kernel place room = record { base = unwrap_or place (built_in_place w kernel); size = 24 * room }

pub table_bytes-is : (w : Which) (kernel : RangeView) (items : List Item) (place : Option ℕ) (room : ℕ) → moved_to w items ≡ place
    → room_of w items ≡ room → table_bytes w kernel items ≡ live_by w kernel place room
table_bytes-is w kernel items place room at wide = rw (at, wide) refl

pub table_bytes-same : (w : Which) (kernel : RangeView) (items t : List Item) → moved_to w t ≡ moved_to w items
    → room_of w t ≡ room_of w items
    → table_bytes w kernel t ≡ table_bytes w kernel items
table_bytes-same w kernel items t at wide = table_bytes-is w kernel t (moved_to w items) (room_of w items) at wide

pub AreTablePlaces-same : (own now : Owners) (m n r s : RangeView) → now ≡ own → n ≡ m → s ≡ r → AreTablePlaces own m r
    → AreTablePlaces now n s
AreTablePlaces-same own now m n r s owners memory reserved known = rw (owners, memory, reserved) known

-- what must be true of further items so that both tables still lie in claimed memory after them
pub placed-more : (kernel : RangeView) (items more : List Item) (own : Owners) (m r : RangeView) → TablesAreClaimed kernel items
    → owner_of (items ++ more) ≡ own → table_bytes which.Memory kernel (items ++ more) ≡ m
    → table_bytes which.Reserved kernel (items ++ more) ≡ r
    → AreTablePlaces own m r → TablesAreClaimed kernel (items ++ more)
placed-more kernel items more own m r placed owners memory reserved seats = record {
  rest = placed.rest ++ more;
  first = ap (λ (t : List Item). t ++ more) placed.first;
  seats = AreTablePlaces-same own (owner_of (items ++ more)) m (table_bytes which.Memory kernel (items ++ more)) r
      (table_bytes which.Reserved kernel (items ++ more)) owners memory reserved seats;
}

-- the owners after further items, and the places and rooms of the tables
pub owners-of : (items more : List Item) → owner_of (items ++ more) ≡ fold owners_after (owner_of items) more
owners-of items more = fold-append owners_after no_owners items more

pub moves-of : (w : Which) (items more : List Item) → moved_to w (items ++ more) ≡ fold (moved_after w) (moved_to w items) more
moves-of w items more = fold-append (moved_after w) None items more

pub rooms-of : (w : Which) (items more : List Item) → room_of w (items ++ more) ≡ fold (room_after w) (room_of w items) more
rooms-of w items more = fold-append (room_after w) 128 items more

pub limits-of : (items more : List Item) → limit_of (items ++ more) ≡ fold limit_after (limit_of items) more
limits-of items more = fold-append limit_after 0 items more

-- a table's bytes stay where they are after an item that moves no table
pub stays : (w : Which) (kernel : RangeView) (items : List Item) (i : Item) → moved_after w (moved_to w items) i ≡ moved_to w items
    → room_after w (room_of w items) i ≡ room_of w items → table_bytes w kernel (items ++ i ∷ []) ≡ table_bytes w kernel items
stays w kernel items i at wide = table_bytes-same w kernel items (items ++ i ∷ []) (moves-of w items (i ∷ []) ∙ at)
    (rooms-of w items (i ∷ []) ∙ wide)

-- after an item that moves no table, both tables still lie in claimed memory if the owners of
-- their bytes are still suitable
still-placed : (kernel : RangeView) (items : List Item) (i : Item)
    → ((w : Which) → moved_after w (moved_to w items) i ≡ moved_to w items)
    → ((w : Which) → room_after w (room_of w items) i ≡ room_of w items) → TablesAreClaimed kernel items
    → AreTablePlaces (owners_after (owner_of items) i) (table_bytes which.Memory kernel items) (table_bytes which.Reserved kernel items)
    → TablesAreClaimed kernel (items ++ i ∷ [])
still-placed kernel items i at wide placed seats =
    placed-more kernel items (i ∷ []) (owners_after (owner_of items) i) (table_bytes which.Memory kernel items)
    (table_bytes which.Reserved kernel items) placed (owners-of items (i ∷ []))
    (stays which.Memory kernel items i (at which.Memory) (wide which.Memory))
    (stays which.Reserved kernel items i (at which.Reserved) (wide which.Reserved)) seats

-- a claim may be made for an owner in whose memory a table may lie, or of bytes that overlap no
-- table
abbrev pub MayTake : RangeView → List Item → RangeView → Owner → Type 0
MayTake kernel items range who = (may_hold_table (Some who) ≡ true) ⊎ OverlapsNoTable kernel range items

pub claim-placed : (kernel : RangeView) (items : List Item) (r : RangeView) (o : Owner) → MayTake kernel items r o
    → TablesAreClaimed kernel items
    → TablesAreClaimed kernel (items ++ item.Claim r o ∷ [])
claim-placed kernel items r o may placed =
    still-placed kernel items (item.Claim r o) (λ w. refl) (λ w. refl) placed
    (elim may as (λ _.
    AreTablePlaces (replace_in_range r o (owner_of items)) (table_bytes which.Memory kernel items)
    (table_bytes which.Reserved kernel items)) [
      | inl kept ↦
          AreTablePlaces-claim (owner_of items) (table_bytes which.Memory kernel items)
          (table_bytes which.Reserved kernel items) r o kept placed.seats
      | inr away ↦
          AreTablePlaces-clear (owner_of items) (table_bytes which.Memory kernel items)
          (table_bytes which.Reserved kernel items) r o away.0 away.1
          placed.seats
    ])

pub free-placed : (kernel : RangeView) (items : List Item) (r : RangeView) → OverlapsNoTable kernel r items → TablesAreClaimed kernel items
    → TablesAreClaimed kernel (items ++ item.Free r ∷ [])
free-placed kernel items r away placed =
    still-placed kernel items (item.Free r) (λ w. refl) (λ w. refl) placed
    (AreTablePlaces-free (owner_of items) (table_bytes which.Memory kernel items)
    (table_bytes which.Reserved kernel items) r away.0 away.1 placed.seats)

pub mem-placed : (kernel : RangeView) (items : List Item) (r : RangeView) → TablesAreClaimed kernel items
    → TablesAreClaimed kernel (items ++ item.Mem r ∷ [])
mem-placed kernel items r placed = still-placed kernel items (item.Mem r) (λ w. refl) (λ w. refl) placed placed.seats

pub node-placed : (kernel : RangeView) (items : List Item) (r : RangeView) (node : ℕ) → TablesAreClaimed kernel items
    → TablesAreClaimed kernel (items ++ item.Node r node ∷ [])
node-placed kernel items r node placed = still-placed kernel items (item.Node r node) (λ w. refl) (λ w. refl) placed placed.seats

pub mirror-placed : (kernel : RangeView) (items : List Item) (r : RangeView) → TablesAreClaimed kernel items
    → TablesAreClaimed kernel (items ++ item.Mirror r ∷ [])
mirror-placed kernel items r placed = still-placed kernel items (item.Mirror r) (λ w. refl) (λ w. refl) placed placed.seats

pub trim-placed : (kernel : RangeView) (items : List Item) → TablesAreClaimed kernel items
    → TablesAreClaimed kernel (items ++ item.Trim ∷ [])
trim-placed kernel items placed = still-placed kernel items item.Trim (λ w. refl) (λ w. refl) placed placed.seats

pub limit-placed : (kernel : RangeView) (items : List Item) (at : ℕ) → TablesAreClaimed kernel items
    → TablesAreClaimed kernel (items ++ item.Limit at ∷ [])
limit-placed kernel items at placed = still-placed kernel items (item.Limit at) (λ w. refl) (λ w. refl) placed placed.seats

pub upward-placed : (kernel : RangeView) (items : List Item) (on : Bool) → TablesAreClaimed kernel items
    → TablesAreClaimed kernel (items ++ item.Upward on ∷ [])
upward-placed kernel items on placed = still-placed kernel items (item.Upward on) (λ w. refl) (λ w. refl) placed placed.seats

-- from the items on, the reserved table grew apart from the range: the memory table and the limit
-- are unchanged, and a range that overlapped no table still doesn't
pub record Aside (kernel a : RangeView) (items t : List Item) : Type 0 where
  pub place : moved_to which.Memory t ≡ moved_to which.Memory items
  pub wide : room_of which.Memory t ≡ room_of which.Memory items
  pub bound : limit_of t ≡ limit_of items
  pub free : IsUnclaimed (owner_of items) a → IsUnclaimed (owner_of t) a
  pub clear : AreDisjoint a (table_bytes which.Reserved kernel items) → AreDisjoint a (table_bytes which.Reserved kernel t)

pub aside-same : (kernel a : RangeView) (items : List Item) → Aside kernel a items items
aside-same kernel a items = record { place = refl; wide = refl; bound = refl; free = λ h. h; clear = λ h. h }

pub aside-on : (kernel a : RangeView) (items t u : List Item) → Aside kernel a items t → Aside kernel a t u → Aside kernel a items u
aside-on kernel a items t u h k = record {
  place = k.place ∙ h.place;
  wide = k.wide ∙ h.wide;
  bound = k.bound ∙ h.bound;
  free = λ f. k.free (h.free f);
  clear = λ f. k.clear (h.clear f);
}

pub record Going (kernel a : RangeView) (items t : List Item) : Type 0 where
  pub placed : TablesAreClaimed kernel t
  pub aside : Aside kernel a items t

-- the range still overlaps no table, and may still be claimed
pub away-still : (kernel a : RangeView) (items t : List Item) → Aside kernel a items t → OverlapsNoTable kernel a items
    → OverlapsNoTable kernel a t
away-still kernel a items t aside away = (
  subst (λ (e : RangeView). AreDisjoint a e)
      (sym (table_bytes-same which.Memory kernel items t aside.place aside.wide)) away.0,
  aside.clear away.1,
)

pub take-still : (kernel a : RangeView) (o : Owner) (items t : List Item) → Aside kernel a items t → MayTake kernel items a o
    → MayTake kernel t a o
take-still kernel a o items t aside (inl kept) = inl kept
take-still kernel a o items t aside (inr away) = inr (away-still kernel a items t aside away)

-- the new place of the reserved table, with twice the room; its frames are those that are claimed
-- for it
abbrev place_for_twice : ℕ → ℕ → RangeView
place_for_twice room place = record { base = place; size = 24 * (2 * room) }

same-frames : (room place : ℕ) → frames (place_for_twice room place) ≡ frames_for_bytes place (48 * room)
same-frames room place = let e : 24 * (2 * room) ≡ 48 * room = omega arith in ap (λ (n : ℕ). frames_for_bytes place n) e

abbrev pub for_table : Which → Owner
for_table w = owner.Table w

module _ (own : Owners) (m r : RangeView) (w : Which) (room place : ℕ) where
  free-frames : IsUnclaimed own (frames_for_bytes place (48 * room)) → IsUnclaimed own (frames (place_for_twice room place))
  free-frames free = subst (λ (e : RangeView). IsUnclaimed own e) (sym (same-frames room place)) free

  pub move-seats : place % 4096 ≡ 0 → IsUnclaimed own (frames_for_bytes place (48 * room)) → AreTablePlaces own m r
      → AreTablePlaces (replace_in_range (frames_for_bytes place (48 * room)) (for_table w) own) m (place_for_twice room place)
  move-seats aligned free seats =
      subst (λ (e : RangeView). AreTablePlaces (replace_in_range e (for_table w) own) m (place_for_twice room place))
      (same-frames room place)
      (AreTablePlaces-move own m r (place_for_twice room place) (for_table w) refl aligned (free-frames free) seats)

  pub leave-seats : place % 4096 ≡ 0 → IsUnclaimed own (frames_for_bytes place (48 * room)) → AreTablePlaces own m r
      → AreTablePlaces (uncover_range (frames r) (replace_in_range (frames_for_bytes place (48 * room)) (for_table w) own)) m
      (place_for_twice room place)
  leave-seats aligned free seats =
      subst (λ (e : RangeView). AreTablePlaces (uncover_range (frames r) (replace_in_range e (for_table w) own)) m
      (place_for_twice room place))
      (same-frames room place)
      (AreTablePlaces-leave own m r (place_for_twice room place) (for_table w) refl aligned (free-frames free) seats)
