-- The tables match the items after each further item.
use Rattle.std.proofs.Common.{◌≡◌, ℕ, ◌+◌, ◌*◌, ◌^◌, ◌<◌, ◌≤◌, Bool, Option, Some, List, [], ◌∷◌, ◌++◌, length, refl, sym, ◌∙◌, ap, subst, arith}
use Rattle.std.proofs.lemmas.Option.{same_Some}
use Rattle.bm_base.specs.Range.{RangeView, end_of}
use Rattle.address_runs.specs.Runs.{RunOf, value_at}
use Rattle.address_runs.specs.Edits.{cover_range, uncover_range, relabel_range, IsEmptyFrom}
use Rattle.memblock_model.specs.declared.owner.Which.{Which}
use Rattle.memblock_model.specs.declared.owner.Which.TheVariants as which
use Rattle.memblock_model.specs.declared.owner.Owner.{Owner}
use Rattle.memblock_model.specs.declared.item.Item.{Item}
use Rattle.memblock_model.specs.declared.item.Item.TheVariants as item
use Rattle.memblock_model.specs.Labels.{LabelView, Labels, plain_label, with_node, with_mirror}
use Rattle.memblock_model.specs.Items.{trim_frames, limit_after, upward_after}
use Rattle.memblock_model.specs.Tables.{table_of, table_after, records_for, records_of, uncovered_run_count, room_of, room_after, moved_to, moved_after, table_place}
use Rattle.memblock_model.proofs.ItemLaws.{limit_of-push, upward_of-push, table_of-push, room_of-push, moved_to-push}
use Rattle.memblock_model.proofs.TableLaws.{value_at-records}
use Rattle.memblock_ranges.specs.Steps.{RangeEndsInAddressSpace}
use Rattle.memblock_ranges.specs.Tables.{TableView, TablesView, table_in, other_table_in, records_in, room_in, place_in}
use Rattle.memblock_ranges.proofs.CountLaws.{length-covered, length-uncovered, length-relabelled, length-trimmed}
use Rattle.memblock_ranges.proofs.StepLaws.{items-within}
use Rattle.growth_model.specs.Growth.{round_up_to_frames}
use Rattle.growth_model.specs.Tables.{TablesHaveRoom}
use Rattle.growth_model.specs.Bytes.{table_from_items}
use Rattle.memblock_grow.specs.declared.places.AllocSettings.{AllocSettings}
use Rattle.memblock_grow.specs.Invariant.{TablesMatchItems, alloc_settings}

-- each table has room for its records
fits-by : (kernel : RangeView) (items : List Item) (m r : TableView) → m ≡ table_from_items which.Memory kernel items
    → r ≡ table_from_items which.Reserved kernel items → length m.records ≤ m.room → length r.records ≤ r.room → TablesHaveRoom items
fits-by kernel items m r first second few too which.Memory = subst (λ (t : TableView). length t.records ≤ t.room) first few
fits-by kernel items m r first second few too which.Reserved = subst (λ (t : TableView). length t.records ≤ t.room) second too

-- an item that moves no table
abbrev IsQuiet : Item → Type 0
IsQuiet i = ((w : Which) (n : ℕ) → room_after w n i ≡ n) × ((w : Which) (o : Option ℕ) → moved_after w o i ≡ o)

module _ {kernel : RangeView} {items : List Item} {t : TablesView} {at : AllocSettings} (kept : TablesMatchItems kernel items t at) where
  -- each of the two tables is that of the items
  pub table-is : (w : Which) → table_in w t ≡ table_from_items w kernel items
  table-is which.Memory = kept.memory
  table-is which.Reserved = kept.reserved

  pub records-are : (w : Which) → records_in w t ≡ records_of w items
  records-are w = ap (λ (s : TableView). s.records) (table-is w)

  pub room-is : (w : Which) → room_in w t ≡ room_of w items
  room-is w = ap (λ (s : TableView). s.room) (table-is w)

  pub place-is : (w : Which) → place_in w t ≡ table_place w kernel items
  place-is w = ap (λ (s : TableView). s.place) (table-is w)

  -- the labels that a table gives are those of the items
  pub values-are : (w : Which) → value_at (records_in w t) ≡ table_of w items
  unfolding records_of
  values-are w = ap (λ (rs : List (RunOf LabelView)). value_at rs) (records-are w) ∙ value_at-records (table_of w items) (kept.ends w)

  values-end : (w : Which) → IsEmptyFrom (2 ^ 64) (value_at (records_in w t))
  values-end w = subst (λ (f : Labels). IsEmptyFrom (2 ^ 64) f) (sym (values-are w)) (kept.ends w)

  -- a table's records are those of the labels that it gives
  records-again : (w : Which) → records_for (value_at (records_in w t)) ≡ records_in w t
  unfolding records_of
  records-again w = ap records_for (values-are w) ∙ sym (records-are w)

  pub few-kept : (w : Which) → length (records_in w t) ≤ room_in w t
  few-kept w = omega (arith, kept.fits w, ap length (records-are w), room-is w)

  -- how many records a table has after an edit
  pub few-covered : (w : Which) (range : RangeView) → end_of range < 2 ^ 64
      → length (records_for (cover_range range plain_label (value_at (records_in w t))))
      ≤ length (records_in w t) + uncovered_run_count range (value_at (records_in w t))
  few-covered w range ends =
      let few = length-covered range plain_label (value_at (records_in w t)) (omega arith) (values-end w) in
      omega (arith, few, ap length (records-again w))

  few-uncovered : (w : Which) (range : RangeView)
      → length (records_for (uncover_range range (value_at (records_in w t)))) ≤ length (records_in w t) + 1
  few-uncovered w range =
      let few = length-uncovered range (value_at (records_in w t)) (values-end w) in omega (arith, few, ap length (records-again w))

  few-relabelled : (range : RangeView) (change : LabelView → LabelView)
      → length (records_for (relabel_range range change (value_at t.memory.records))) ≤ length t.memory.records + 2
  few-relabelled range change =
      let few = length-relabelled range change (value_at t.memory.records) (values-end which.Memory) in
      omega (arith, few, ap length (records-again which.Memory))

  -- the frames of a table's place end below 2^64, after an item that moves no table and after a
  -- growth
  far-quiet : (i : Item) → IsQuiet i → (w : Which) (place : ℕ) → moved_after w (moved_to w items) i ≡ Some place
      → place + round_up_to_frames (24 * room_after w (room_of w items) i) < 2 ^ 64
  far-quiet i quiet w place moved =
      rw (quiet.0 w (room_of w items)) (kept.far w place (sym (quiet.1 w (moved_to w items)) ∙ moved))

  far-grown : (v w : Which) (base room : ℕ) → base + round_up_to_frames (48 * room_of w items) < 2 ^ 64 → (place : ℕ)
      → moved_after v (moved_to v items) (item.Grown w base room) ≡ Some place
      → place + round_up_to_frames (24 * room_after v (room_of v items) (item.Grown w base room)) < 2 ^ 64
  far-grown which.Memory which.Memory base room small place is = let here = same_Some base place is in omega (arith, here, small)
  far-grown which.Memory which.Reserved base room small place is = kept.far which.Memory place is
  far-grown which.Reserved which.Memory base room small place is = kept.far which.Reserved place is
  far-grown which.Reserved which.Reserved base room small place is = let here = same_Some base place is in omega (arith, here, small)

module _ {kernel : RangeView} {items : List Item} {t : TablesView} {at : AllocSettings} (kept : TablesMatchItems kernel items t at)
    (u : TablesView) where
  -- if both tables are unchanged, they still match the items
  pub kept-same : u.memory ≡ t.memory → u.reserved ≡ t.reserved → TablesMatchItems kernel items u at
  kept-same first second = record {
    memory = first ∙ kept.memory;
    reserved = second ∙ kept.reserved;
    limit = kept.limit;
    upward = kept.upward;
    ends = kept.ends;
    fits = kept.fits;
    far = kept.far;
  }

  -- a table that an item doesn't change, one that it edits, and one that it moves
  table-stays : (w : Which) (i : Item) → table_after w (table_of w items) i ≡ table_of w items
      → room_after w (room_of w items) i ≡ room_of w items → moved_after w (moved_to w items) i ≡ moved_to w items
      → table_in w u ≡ table_in w t → table_in w u ≡ table_from_items w kernel (items ++ i ∷ [])
  unfolding records_of
  table-stays w i same stays moved is =
      rw (is, table-is kept w, table_of-push, moved_to-push, room_of-push, same, stays, moved) refl

  table-edited : (w : Which) (i : Item) → IsQuiet i
      → table_in w u ≡ record (table_in w t) { records = records_for (table_after w (value_at (records_in w t)) i) }
      → table_in w u ≡ table_from_items w kernel (items ++ i ∷ [])
  unfolding records_of
  table-edited w i quiet is =
      rw (is, values-are kept w, place-is kept w, room-is kept w, table_of-push, moved_to-push, room_of-push, quiet.0, quiet.1) refl

  table-moved : (w : Which) (place room : ℕ) → table_after w (table_of w items) (item.Grown w place room) ≡ table_of w items
      → room_after w (room_of w items) (item.Grown w place room) ≡ 2 * room_of w items
      → moved_after w (moved_to w items) (item.Grown w place room) ≡ Some place
      → table_in w u ≡ record (table_in w t) { place = place; room = 2 * room_in w t }
      → table_in w u ≡ table_from_items w kernel (items ++ item.Grown w place room ∷ [])
  unfolding records_of
  table-moved w place room same twice moved is =
      rw (is, records-are kept w, room-is kept w, table_of-push, moved_to-push, room_of-push, same, twice, moved) refl

  table-quiet : (w : Which) (i : Item) → IsQuiet i → ((f : Labels) → table_after w f i ≡ f) → table_in w u ≡ table_in w t
      → table_in w u ≡ table_from_items w kernel (items ++ i ∷ [])
  table-quiet w i quiet same is = table-stays w i (same (table_of w items)) (quiet.0 w (room_of w items)) (quiet.1 w (moved_to w items)) is

  few-stays : (w : Which) → table_in w u ≡ table_in w t → length (records_in w u) ≤ room_in w u
  few-stays w is = subst (λ (s : TableView). length s.records ≤ s.room) (sym is) (few-kept kept w)

  few-moved : (w : Which) (place : ℕ) → table_in w u ≡ record (table_in w t) { place = place; room = 2 * room_in w t }
      → length (records_in w u) ≤ room_in w u
  few-moved w place is =
      let few = few-kept kept w in subst (λ (s : TableView). length s.records ≤ s.room) (sym is) (omega (arith, few))

  -- the tables still match the items after one more item
  kept-by : (i : Item) (to : AllocSettings) → RangeEndsInAddressSpace i → limit_after at.limit i ≡ to.limit
      → upward_after at.upward i ≡ to.upward
      → u.memory ≡ table_from_items which.Memory kernel (items ++ i ∷ [])
      → u.reserved ≡ table_from_items which.Reserved kernel (items ++ i ∷ [])
      → length u.memory.records ≤ u.memory.room → length u.reserved.records ≤ u.reserved.room
      → ((w : Which) (place : ℕ) → moved_after w (moved_to w items) i ≡ Some place
      → place + round_up_to_frames (24 * room_after w (room_of w items) i) < 2 ^ 64) → TablesMatchItems kernel (items ++ i ∷ []) u to
  kept-by i to space limited directed first second few too far = record {
    memory = first;
    reserved = second;
    limit = limit_of-push items i ∙ ap (λ (n : ℕ). limit_after n i) kept.limit ∙ limited;
    upward = upward_of-push items i ∙ ap (λ (b : Bool). upward_after b i) kept.upward ∙ directed;
    ends = λ w. items-within w items i space (kept.ends w);
    fits = fits-by kernel (items ++ i ∷ []) u.memory u.reserved first second few too;
    far = λ w place moved. rw (room_of-push w items i) (far w place (sym (moved_to-push w items i) ∙ moved));
  }

  -- the tables still match the items after an edit of one table
  kept-reserved : (i : Item) → IsQuiet i → RangeEndsInAddressSpace i → limit_after at.limit i ≡ at.limit
      → upward_after at.upward i ≡ at.upward
      → ((f : Labels) → table_after which.Memory f i ≡ f)
      → u.reserved ≡ record t.reserved { records = records_for (table_after which.Reserved (value_at t.reserved.records) i) }
      → u.memory ≡ t.memory → length (records_for (table_after which.Reserved (value_at t.reserved.records) i)) ≤ t.reserved.room
      → TablesMatchItems kernel (items ++ i ∷ []) u at
  kept-reserved i quiet space limited directed other is same few =
      kept-by i at space limited directed (table-quiet which.Memory i quiet other same) (table-edited which.Reserved i quiet is)
      (few-stays which.Memory same) (rw is few) (far-quiet kept i quiet)

  kept-memory : (i : Item) → IsQuiet i → RangeEndsInAddressSpace i → limit_after at.limit i ≡ at.limit
      → upward_after at.upward i ≡ at.upward
      → ((f : Labels) → table_after which.Reserved f i ≡ f)
      → u.memory ≡ record t.memory { records = records_for (table_after which.Memory (value_at t.memory.records) i) }
      → u.reserved ≡ t.reserved → length (records_for (table_after which.Memory (value_at t.memory.records) i)) ≤ t.memory.room
      → TablesMatchItems kernel (items ++ i ∷ []) u at
  kept-memory i quiet space limited directed other is same few =
      kept-by i at space limited directed (table-edited which.Memory i quiet is) (table-quiet which.Reserved i quiet other same)
      (rw is few) (few-stays which.Reserved same) (far-quiet kept i quiet)

  pub kept-claim : (range : RangeView) (who : Owner) → end_of range < 2 ^ 64
      → length t.reserved.records + uncovered_run_count range (value_at t.reserved.records) ≤ t.reserved.room
      → u.reserved ≡ record t.reserved { records = records_for (cover_range range plain_label (value_at t.reserved.records)) }
      → u.memory ≡ t.memory → TablesMatchItems kernel (items ++ item.Claim range who ∷ []) u at
  kept-claim range who ends room is same =
      let few = few-covered kept which.Reserved range ends in
      kept-reserved (item.Claim range who) (λ w n. refl, λ w o. refl) (omega arith) refl refl (λ f. refl) is same
      (omega (arith, few, room))

  pub kept-free : (range : RangeView) → end_of range < 2 ^ 64 → length t.reserved.records + 2 ≤ t.reserved.room
      → u.reserved ≡ record t.reserved { records = records_for (uncover_range range (value_at t.reserved.records)) }
      → u.memory ≡ t.memory → TablesMatchItems kernel (items ++ item.Free range ∷ []) u at
  kept-free range ends room is same =
      let few = few-uncovered kept which.Reserved range in
      kept-reserved (item.Free range) (λ w n. refl, λ w o. refl) (omega arith) refl refl (λ f. refl) is same (omega (arith, few, room))

  pub kept-mem : (range : RangeView) → end_of range < 2 ^ 64
      → length t.memory.records + uncovered_run_count range (value_at t.memory.records) ≤ t.memory.room
      → u.memory ≡ record t.memory { records = records_for (cover_range range plain_label (value_at t.memory.records)) }
      → u.reserved ≡ t.reserved → TablesMatchItems kernel (items ++ item.Mem range ∷ []) u at
  kept-mem range ends room is same =
      let few = few-covered kept which.Memory range ends in
      kept-memory (item.Mem range) (λ w n. refl, λ w o. refl) (omega arith) refl refl (λ f. refl) is same (omega (arith, few, room))

  -- the tables still match the items after an edit that changes labels of memory
  pub kept-node : (range : RangeView) (node : ℕ) → end_of range < 2 ^ 64 → length t.memory.records + 2 ≤ t.memory.room
      → u.memory ≡ record t.memory { records = records_for (relabel_range range (with_node (Some node)) (value_at t.memory.records)) }
      → u.reserved ≡ t.reserved → TablesMatchItems kernel (items ++ item.Node range node ∷ []) u at
  kept-node range node ends room is same =
      let few = few-relabelled kept range (with_node (Some node)) in
      kept-memory (item.Node range node) (λ w n. refl, λ w o. refl) (omega arith) refl refl (λ f. refl) is same (omega (arith, few, room))

  pub kept-mirror : (range : RangeView) → end_of range < 2 ^ 64 → length t.memory.records + 2 ≤ t.memory.room
      → u.memory ≡ record t.memory { records = records_for (relabel_range range with_mirror (value_at t.memory.records)) }
      → u.reserved ≡ t.reserved → TablesMatchItems kernel (items ++ item.Mirror range ∷ []) u at
  kept-mirror range ends room is same =
      let few = few-relabelled kept range with_mirror in
      kept-memory (item.Mirror range) (λ w n. refl, λ w o. refl) (omega arith) refl refl (λ f. refl) is same (omega (arith, few, room))

  pub kept-trim : u.memory ≡ record t.memory { records = records_for (trim_frames (value_at t.memory.records)) } → u.reserved ≡ t.reserved
      → TablesMatchItems kernel (items ++ item.Trim ∷ []) u at
  kept-trim is same =
      let few = length-trimmed (value_at t.memory.records) (values-end kept which.Memory) in
      let was = few-kept kept which.Memory in
      kept-memory item.Trim (λ w n. refl, λ w o. refl) tt refl refl (λ f. refl) is same
      (omega (arith, few, was, ap length (records-again kept which.Memory)))

  -- the tables still match the items after a growth moves one of them
  pub kept-grown : (w : Which) (place room : ℕ) → place + round_up_to_frames (48 * room_of w items) < 2 ^ 64
      → table_in w u ≡ record (table_in w t) { place = place; room = 2 * room_in w t } → other_table_in w u ≡ other_table_in w t
      → TablesMatchItems kernel (items ++ item.Grown w place room ∷ []) u at
  kept-grown which.Memory place room small is same =
      kept-by (item.Grown which.Memory place room) at tt refl refl (table-moved which.Memory place room refl refl refl is)
      (table-stays which.Reserved (item.Grown which.Memory place room) refl refl refl same) (few-moved which.Memory place is)
      (few-stays which.Reserved same) (λ v. far-grown kept v which.Memory place room small)
  kept-grown which.Reserved place room small is same =
      kept-by (item.Grown which.Reserved place room) at tt refl refl
      (table-stays which.Memory (item.Grown which.Reserved place room) refl refl refl same)
      (table-moved which.Reserved place room refl refl refl is) (few-stays which.Memory same) (few-moved which.Reserved place is)
      (λ v. far-grown kept v which.Reserved place room small)

-- items that change only the limit or the search direction
module _ {kernel : RangeView} {items : List Item} {t : TablesView} {at : AllocSettings} (kept : TablesMatchItems kernel items t at) where
  kept-aimed : (i : Item) (to : AllocSettings) → IsQuiet i → RangeEndsInAddressSpace i → limit_after at.limit i ≡ to.limit
      → upward_after at.upward i ≡ to.upward → ((f : Labels) → table_after which.Memory f i ≡ f)
      → ((f : Labels) → table_after which.Reserved f i ≡ f) → TablesMatchItems kernel (items ++ i ∷ []) t to
  kept-aimed i to quiet space limited directed first second =
      kept-by kept t i to space limited directed
      (table-quiet kept t which.Memory i quiet first refl) (table-quiet kept t which.Reserved i quiet second refl)
      (few-kept kept which.Memory) (few-kept kept which.Reserved) (far-quiet kept i quiet)

  pub kept-limit : (to : ℕ) → TablesMatchItems kernel (items ++ item.Limit to ∷ []) t (alloc_settings to at.upward)
  kept-limit to =
      kept-aimed (item.Limit to) (alloc_settings to at.upward) (λ w n. refl, λ w o. refl) tt refl refl (λ f. refl) (λ f. refl)

  pub kept-upward : (on : Bool) → TablesMatchItems kernel (items ++ item.Upward on ∷ []) t (alloc_settings at.limit on)
  kept-upward on =
      kept-aimed (item.Upward on) (alloc_settings at.limit on) (λ w n. refl, λ w o. refl) tt refl refl (λ f. refl) (λ f. refl)
