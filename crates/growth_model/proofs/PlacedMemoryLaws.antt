-- Both tables lie in claimed memory, apart from each other, throughout a growth of the memory
-- table, and throughout the changes that may need one.
use Rattle.std.proofs.Common.{◌≡◌, ℕ, ◌*◌, ◌%◌, true, Option, Some, None, List, [], ◌∷◌, ◌++◌, Ok, refl, sym, ◌∙◌, ap, subst, inl, inr, arith}
use Rattle.bm_base.specs.Range.{RangeView, covers}
use Rattle.address_runs.specs.Edits.{replace_in_range}
use Rattle.memblock_model.specs.declared.owner.Which.TheVariants as which
use Rattle.memblock_model.specs.declared.owner.Owner.{Owner}
use Rattle.memblock_model.specs.declared.item.Item.{Item}
use Rattle.memblock_model.specs.declared.item.Item.TheVariants as item
use Rattle.memblock_model.specs.Items.{owner_of, limit_of}
use Rattle.memblock_model.specs.Tables.{room_of, moved_to, table_bytes}
use Rattle.memblock_model.specs.Search.{best_place}
use Rattle.memblock_model.specs.declared.query.Request.{Request}
use Rattle.growth_model.specs.Change.{items_after_change, write_item, ◌>>◌}
use Rattle.growth_model.specs.Growth.{frames_for_bytes, table_query, count_uncovered_pieces, max_records_added_by_split, make_table_room, claim_range, old_frames, free_old_place, memory_growth_at, memory_growth, add_range, set_range_node, set_range_mirror}
use Rattle.growth_model.specs.Request.{place_for}
use Rattle.growth_model.specs.Ends.{EndsAsChange}
use Rattle.growth_model.specs.Tables.{AreDisjoint, IsUnclaimed, AreTablePlaces, TablesAreClaimed, OverlapsNoTable}
use Rattle.growth_model.proofs.CutLaws.{EachCut, cuts-last, cuts-then, cuts-grown}
use Rattle.growth_model.proofs.SeatLaws.{frames, apart-clear, old-clear, AreTablePlaces-swap}
use Rattle.growth_model.proofs.FoundLaws.{found-fits, found-unclaimed, place-unclaimed, unclaimed-away}
use Rattle.growth_model.proofs.PlacedLaws.{live_by, table_bytes-is, stays, placed-more, owners-of, moves-of, rooms-of, claim-placed, mem-placed, node-placed, mirror-placed, for_table, move-seats}
use Rattle.growth_model.proofs.PlacedReservedLaws.{roomy, room-going, claim_range-cuts, free_range-cuts, claim_range-after, place-inside}

-- a place for the memory table to grow to: aligned and unclaimed
pub record IsFree (t : List Item) (place : ℕ) : Type 0 where
  pub aligned : place % 4096 ≡ 0
  pub free : IsUnclaimed (owner_of t) (frames_for_bytes place (48 * room_of which.Memory t))

-- after the claim of the new place, and after the move
abbrev pub taken : List Item → ℕ → List Item
taken t place = t ++ item.Claim (frames_for_bytes place (48 * room_of which.Memory t)) (for_table which.Memory) ∷ []

abbrev pub moved : List Item → ℕ → List Item
moved t place = taken t place ++ item.Grown which.Memory place (2 * room_of which.Memory t) ∷ []

abbrev new_live : List Item → ℕ → RangeView
new_live t place = record { base = place; size = 24 * (2 * room_of which.Memory t) }

module _ (kernel : RangeView) (t : List Item) (place : ℕ) where
  abbrev a : RangeView
  a = frames_for_bytes place (48 * room_of which.Memory t)

  abbrev u : List Item
  u = taken t place

  abbrev claims : Item
  claims = item.Claim a (for_table which.Memory)

  abbrev grows : Item
  grows = item.Grown which.Memory place (2 * room_of which.Memory t)

  moved-owners : owner_of (moved t place) ≡ replace_in_range a (for_table which.Memory) (owner_of t)
  moved-owners = owners-of u (grows ∷ []) ∙ owners-of t (claims ∷ [])

  moved-memory : table_bytes which.Memory kernel (moved t place) ≡ new_live t place
  moved-memory = table_bytes-is which.Memory kernel (moved t place) (Some place) (2 * room_of which.Memory t)
      (moves-of which.Memory u (grows ∷ []))
      (rooms-of which.Memory u (grows ∷ []) ∙ ap (λ (n : ℕ). 2 * n) (rooms-of which.Memory t (claims ∷ [])))

  moved-reserved : table_bytes which.Reserved kernel (moved t place) ≡ table_bytes which.Reserved kernel t
  moved-reserved = stays which.Reserved kernel u grows refl refl ∙ stays which.Reserved kernel t claims refl refl

  pub taken-placed : TablesAreClaimed kernel t → TablesAreClaimed kernel u
  taken-placed placed = claim-placed kernel t a (for_table which.Memory) (inl refl) placed

  -- the new place overlaps no table yet
  taken-away : IsFree t place → TablesAreClaimed kernel t → OverlapsNoTable kernel a u
  taken-away new placed =
      let away = unclaimed-away kernel a t placed new.free in (
        subst (λ (e : RangeView). AreDisjoint a e) (sym (stays which.Memory kernel t claims refl refl)) away.0,
        subst (λ (e : RangeView). AreDisjoint a e) (sym (stays which.Reserved kernel t claims refl refl)) away.1,
      )

  pub moved-placed : IsFree t place → TablesAreClaimed kernel t → TablesAreClaimed kernel (moved t place)
  moved-placed new placed =
      placed-more kernel u (grows ∷ []) (replace_in_range a (for_table which.Memory) (owner_of t)) (new_live t place)
      (table_bytes which.Reserved kernel t) (taken-placed placed) moved-owners moved-memory moved-reserved
      (AreTablePlaces-swap (replace_in_range a (for_table which.Memory) (owner_of t)) (table_bytes which.Reserved kernel t)
      (new_live t place)
      (move-seats (owner_of t) (table_bytes which.Reserved kernel t) (table_bytes which.Memory kernel t) which.Memory
      (room_of which.Memory t) place
      new.aligned new.free
      (AreTablePlaces-swap (owner_of t) (table_bytes which.Memory kernel t) (table_bytes which.Reserved kernel t) placed.seats)))

  -- after the move the frames of the old place overlap no table
  pub old-away : (q : ℕ) → moved_to which.Memory t ≡ Some q → IsFree t place → TablesAreClaimed kernel t
      → OverlapsNoTable kernel (frames_for_bytes q (24 * room_of which.Memory t)) (moved t place)
  old-away q was new placed =
      let room = room_of which.Memory t in
      let before : RangeView = live_by which.Memory kernel (Some q) room in
      let is : table_bytes which.Memory kernel t ≡ before = table_bytes-is which.Memory kernel t (Some q) room was refl in
      let seats : AreTablePlaces (owner_of t) before (table_bytes which.Reserved kernel t) =
      subst (λ (e : RangeView). AreTablePlaces (owner_of t) e (table_bytes which.Reserved kernel t)) is placed.seats in
      let twice : RangeView = new_live t place in
      let e : 48 * room ≡ 24 * (2 * room) = omega arith in
      let free : IsUnclaimed (owner_of t) (frames twice) =
      subst (λ (n : ℕ). IsUnclaimed (owner_of t) (frames_for_bytes place n)) e new.free in
      let first : AreDisjoint (frames before) twice = λ x at_b at_n.
      old-clear (owner_of t) before twice new.aligned free seats.first x at_b
      (subst (λ (n : ℕ). covers (frames_for_bytes place n) x ≡ true) e (place-inside room place x at_n)) in
      let second : AreDisjoint (frames before) (table_bytes which.Reserved kernel t) =
      apart-clear before (table_bytes which.Reserved kernel t) seats.first.aligned seats.apart in (
        subst (λ (n : RangeView). AreDisjoint (frames before) n) (sym moved-memory) first,
        subst (λ (n : RangeView). AreDisjoint (frames before) n) (sym moved-reserved) second,
      )

-- after the claim of the new place of the memory table, which had this room and place: what the
-- move and the free of the old place require
pub record IsTaken (kernel : RangeView) (u : List Item) (room : ℕ) (old : Option ℕ) (place : ℕ) : Type 0 where
  pub placed : TablesAreClaimed kernel u
  pub wide : room_of which.Memory u ≡ room
  pub was : moved_to which.Memory u ≡ old
  pub away : OverlapsNoTable kernel (frames_for_bytes place (48 * room)) u
  pub next : TablesAreClaimed kernel (u ++ item.Grown which.Memory place (2 * room) ∷ [])
  pub left : (q : ℕ) → old ≡ Some q
      → OverlapsNoTable kernel (frames_for_bytes q (24 * room)) (u ++ item.Grown which.Memory place (2 * room) ∷ [])

taken-is : (kernel : RangeView) (t : List Item) (place : ℕ) → IsFree t place → TablesAreClaimed kernel t
    → IsTaken kernel (taken t place) (room_of which.Memory t) (moved_to which.Memory t) place
taken-is kernel t place new placed = record {
  placed = taken-placed kernel t place placed;
  wide = rooms-of which.Memory t (item.Claim (frames_for_bytes place (48 * room_of which.Memory t)) (for_table which.Memory) ∷ []);
  was = moves-of which.Memory t (item.Claim (frames_for_bytes place (48 * room_of which.Memory t)) (for_table which.Memory) ∷ []);
  away = taken-away kernel t place new placed;
  next = moved-placed kernel t place new placed;
  left = λ q was. old-away kernel t place q was new placed;
}

taken-along : (kernel : RangeView) (t : List Item) (room : ℕ) (old : Option ℕ) (place : ℕ) → room_of which.Memory t ≡ room
    → moved_to which.Memory t ≡ old → place % 4096 ≡ 0 → IsUnclaimed (owner_of t) (frames_for_bytes place (48 * room))
    → TablesAreClaimed kernel t
    → IsTaken kernel (t ++ item.Claim (frames_for_bytes place (48 * room)) (for_table which.Memory) ∷ []) room old place
taken-along kernel t room old place wide was aligned free placed =
    let new : IsFree t place = record { aligned = aligned; free = rw wide free } in
    rw (sym wide, sym was) (taken-is kernel t place new placed)

pub claim_range-taken : {T : Type 0} (x : T) (kernel : RangeView) (items u : List Item) (place : ℕ) → TablesAreClaimed kernel items
    → best_place items (table_query (room_of which.Memory items) 0 (limit_of items)) ≡ Some place
    → EndsAsChange (Ok x) items u (claim_range (frames_for_bytes place (48 * room_of which.Memory items)) (for_table which.Memory))
    → IsTaken kernel u (room_of which.Memory items) (moved_to which.Memory items) place
claim_range-taken x kernel items u place placed is ends =
    let room = room_of which.Memory items in
    let old = moved_to which.Memory items in
    let q = table_query room 0 (limit_of items) in
    let a = frames_for_bytes place (48 * room) in
    let t = roomy a (count_uncovered_pieces which.Reserved a) items in
    let going = room-going kernel a (count_uncovered_pieces which.Reserved a) items placed in
    let fits = found-fits items q place is in
    rw (ends.1 ∙ claim_range-after items a (for_table which.Memory) ends.0)
    (taken-along kernel t room old place going.aside.wide going.aside.place fits.aligned
    (going.aside.free (found-unclaimed items q place is)) going.placed)

-- both tables still lie in claimed memory when the table has moved after the claim, and when its
-- old place is freed
left-cuts : (kernel : RangeView) (u : List Item) (room : ℕ) (old : Option ℕ) → TablesAreClaimed kernel u
    → ((q : ℕ) → old ≡ Some q → OverlapsNoTable kernel (frames_for_bytes q (24 * room)) u)
    → EachCut (TablesAreClaimed kernel) u (free_old_place (old_frames room old) u).steps
left-cuts kernel u room None placed left = placed
left-cuts kernel u room (Some q) placed left = free_range-cuts kernel u (frames_for_bytes q (24 * room)) (left q refl) placed

taken-cuts : (kernel : RangeView) (u : List Item) (room : ℕ) (old : Option ℕ) (place : ℕ) → IsTaken kernel u room old place
    → EachCut (TablesAreClaimed kernel) u
    ((write_item (item.Grown which.Memory place (2 * room)) >> free_old_place (old_frames room old)) u).steps
taken-cuts kernel u room old place known =
    let moves : Item = item.Grown which.Memory place (2 * room) in
    cuts-then (TablesAreClaimed kernel) u (write_item moves) (free_old_place (old_frames room old)) (known.placed, known.next)
    (λ _. left-cuts kernel (u ++ moves ∷ []) room old known.next known.left)

growth-at : (kernel : RangeView) (items : List Item) (found : Option ℕ)
    → best_place items (table_query (room_of which.Memory items) 0 (limit_of items)) ≡ found → TablesAreClaimed kernel items
    → EachCut (TablesAreClaimed kernel) items
    (memory_growth_at (room_of which.Memory items) (moved_to which.Memory items) found items).steps
unfolding memory_growth_at
growth-at kernel items None is placed = placed
growth-at kernel items (Some place) is placed =
    let room = room_of which.Memory items in
    let old = moved_to which.Memory items in
    let first = claim_range (frames_for_bytes place (48 * room)) (for_table which.Memory) in
    let u = items_after_change items (first items) in
    cuts-then (TablesAreClaimed kernel) items first (write_item (item.Grown which.Memory place (2 * room))
    >> free_old_place (old_frames room old))
    (claim_range-cuts kernel items (frames_for_bytes place (48 * room)) (for_table which.Memory) (inl refl) placed)
    (λ unrefused. taken-cuts kernel u room old place
    (claim_range-taken {T = Unit {0}} tt kernel items u place placed is (unrefused, refl)))

-- both tables lie in claimed memory throughout one growth of the memory table
pub memory-cuts : (kernel : RangeView) (items : List Item) → TablesAreClaimed kernel items
    → EachCut (TablesAreClaimed kernel) items (memory_growth items).steps
unfolding memory_growth
memory-cuts kernel items placed =
    growth-at kernel items (best_place items (table_query (room_of which.Memory items) 0 (limit_of items))) refl placed

-- they also do after all growths that make room in the memory table
make_table_room-placed : (kernel : RangeView) (items : List Item) (more : List Item → ℕ) → TablesAreClaimed kernel items
    → TablesAreClaimed kernel (items_after_change items (make_table_room which.Memory more memory_growth items))
make_table_room-placed kernel items more placed =
    cuts-last (TablesAreClaimed kernel) items (make_table_room which.Memory more memory_growth items).steps
    (cuts-grown (TablesAreClaimed kernel) which.Memory more memory_growth items (memory-cuts kernel) placed)

-- an item that leaves both tables in claimed memory does so after growths too
marked-cuts : (kernel : RangeView) (items : List Item) (more : List Item → ℕ) (i : Item)
    → ((t : List Item) → TablesAreClaimed kernel t → TablesAreClaimed kernel (t ++ i ∷ [])) → TablesAreClaimed kernel items
    → EachCut (TablesAreClaimed kernel) items ((make_table_room which.Memory more memory_growth >> write_item i) items).steps
marked-cuts kernel items more i keeps placed =
    let here = make_table_room-placed kernel items more placed in
    cuts-then (TablesAreClaimed kernel) items (make_table_room which.Memory more memory_growth) (write_item i)
    (cuts-grown (TablesAreClaimed kernel) which.Memory more memory_growth items (memory-cuts kernel) placed)
    (λ _. (here, keeps (items_after_change items (make_table_room which.Memory more memory_growth items)) here))

-- both tables lie in claimed memory throughout the changes that add memory, give it a node or mark
-- it as mirrored
pub add_range-cuts : (kernel : RangeView) (items : List Item) (r : RangeView) → TablesAreClaimed kernel items
    → EachCut (TablesAreClaimed kernel) items (add_range r items).steps
unfolding add_range
add_range-cuts kernel items r placed =
    marked-cuts kernel items (count_uncovered_pieces which.Memory r) (item.Mem r) (λ t here. mem-placed kernel t r here) placed

pub set_range_node-cuts : (kernel : RangeView) (items : List Item) (r : RangeView) (node : ℕ) → TablesAreClaimed kernel items
    → EachCut (TablesAreClaimed kernel) items (set_range_node r node items).steps
unfolding set_range_node
set_range_node-cuts kernel items r node placed =
    marked-cuts kernel items max_records_added_by_split (item.Node r node) (λ t here. node-placed kernel t r node here) placed

pub set_range_mirror-cuts : (kernel : RangeView) (items : List Item) (r : RangeView) → TablesAreClaimed kernel items
    → EachCut (TablesAreClaimed kernel) items (set_range_mirror r items).steps
unfolding set_range_mirror
set_range_mirror-cuts kernel items r placed =
    marked-cuts kernel items max_records_added_by_split (item.Mirror r) (λ t here. mirror-placed kernel t r here) placed

-- both tables lie in claimed memory throughout the claim of a place that an allocation found, for
-- any owner
pub allocated-cuts : (kernel : RangeView) (items : List Item) (r : Request) (place : ℕ) (o : Owner) → place_for r items ≡ Some place
    → TablesAreClaimed kernel items
    → EachCut (TablesAreClaimed kernel) items (claim_range (record { base = place; size = r.size }) o items).steps
allocated-cuts kernel items r place o found placed =
    claim_range-cuts kernel items (record { base = place; size = r.size }) o
    (inr (unclaimed-away kernel (record { base = place; size = r.size }) items placed (place-unclaimed r items place found))) placed
