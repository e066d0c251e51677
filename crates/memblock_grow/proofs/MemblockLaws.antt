-- The invariant of a memblock holds at first, after each item, and after each fill.
use Rattle.std.proofs.Common.{◌≡◌, ℕ, ◌-◌, ◌*◌, false, List, [], ◌∷◌, ◌++◌, replicate, get_or, refl, sym, ◌∙◌, subst, arith}
use Rattle.std.proofs.lemmas.Bool.Decides.{nat_tests}
use Rattle.std.proofs.lemmas.List.{get_or-replicate, get_or_past, length-replicate}
use Rattle.bm_base.specs.Range.{RangeView}
use Rattle.phys_store.specs.Bytes.{ExtentView, byte_of, WritesBytes}
use Rattle.memblock_model.specs.declared.owner.Which.{Which}
use Rattle.memblock_model.specs.declared.owner.Which.TheVariants as which
use Rattle.memblock_model.specs.declared.item.Item.{Item}
use Rattle.memblock_model.specs.Tables.{records_of, table_of, built_in_place}
use Rattle.memblock_model.proofs.TableLaws.{records_for-is}
use Rattle.memblock_ranges.specs.Encoding.{encode_table}
use Rattle.memblock_ranges.specs.Tables.{TableView, TablesView, bytes_of}
use Rattle.growth_model.specs.Tables.{IsKernelImage, OverlapsNoTable, AreDisjoint}
use Rattle.growth_model.specs.Bytes.{table_from_items, table_byte_at, byte_with_tables, TablesAreEncoded, is_vacated_by, byte_from_history, Fill, byte_after_fill, Follows}
use Rattle.growth_model.proofs.FirstLaws.{no_table_full, nothing_said}
use Rattle.growth_model.proofs.SoundLaws.{Stands}
use Rattle.growth_model.proofs.FollowLaws.{follows-item, follows-stands}
use Rattle.growth_model.proofs.FillLaws.{fill-spelled}
use Rattle.memblock_grow.specs.declared.places.AllocSettings.{AllocSettings}
use Rattle.memblock_grow.specs.Invariant.{TablesMatchItems, IsMemblock, ChangesOnlyTables, alloc_settings}
use Rattle.memblock_grow.proofs.KeptLaws.{kept-same}

-- a table without records is all zeros
zeros_at : (n k : ℕ) → ◌≡◌ {A = ℕ} (get_or (replicate n 0) k 0) 0
zeros_at n k =
    let inside = get_or-replicate {A = ℕ} n k 0 0 in
    let past = get_or_past {X = ℕ} (replicate n 0) k 0 in
    grind (arith, inside, past, length-replicate {A = ℕ} n 0)

empty_at : (t : TableView) (x : ℕ) → t.records ≡ [] → table_byte_at t x ≡ 0
unfolding encode_table
empty_at t x none = rw none (zeros_at (24 * t.room) (x - t.place))

shown-empty : (m r : TableView) (x : ℕ) → m.records ≡ [] → r.records ≡ [] → byte_with_tables m r x 0 ≡ 0
shown-empty m r x first second = let a = empty_at m x first in let b = empty_at r x second in grind (arith, a, b)

-- the empty table of a new memblock
abbrev pub first_table : Which → RangeView → TableView
first_table w kernel = record { records = []; place = built_in_place w kernel; room = 128 }

no_records_at_first : (w : Which) → records_of w [] ≡ []
unfolding records_of
no_records_at_first w = sym (records_for-is (table_of w []) [] (λ x le. nothing_said w x)
    (record { runs = tt; each = λ x. sym (nothing_said w x) }))

first-is : (w : Which) (kernel : RangeView) → first_table w kernel ≡ table_from_items w kernel []
first-is w kernel = rw (no_records_at_first w) refl

pub whole-new : (kernel : RangeView) (items : List Item) (t : TablesView) → IsKernelImage kernel → items ≡ []
    → t.memory ≡ first_table which.Memory kernel → t.reserved ≡ first_table which.Reserved kernel
    → ((x : ℕ) → byte_of t.store x ≡ 0) → IsMemblock kernel items t (alloc_settings 0 false)
whole-new kernel items t image none first second zero = rw none (record {
  image = image;
  kept = record {
    memory = first ∙ first-is which.Memory kernel;
    reserved = second ∙ first-is which.Reserved kernel;
    limit = refl;
    upward = refl;
    ends = λ w x le. nothing_said w x;
    fits = λ w. no_table_full w;
    far = λ w place moved. cc;
  };
  placed = λ begun. absurd begun;
  spelled = λ x. rw (zero x) (sym (shown-empty t.memory t.reserved x (λ k. (first k).records) (λ k. (second k).records)));
})

pub bytes-new : (kernel : RangeView) (x : ℕ) → byte_from_history kernel [] [] x ≡ 0
unfolding byte_from_history
bytes-new kernel x = shown-empty (table_from_items which.Memory kernel []) (table_from_items which.Reserved kernel []) x
    (no_records_at_first which.Memory) (no_records_at_first which.Reserved)

-- the invariant holds after one item that moves no table
module _ (i : Item) {kernel : RangeView} {items longer : List Item} {t u : TablesView} {at to : AllocSettings}
    (m : IsMemblock kernel items t at)
    (more : longer ≡ items ++ i ∷ []) (now : TablesMatchItems kernel (items ++ i ∷ []) u to) (stays : (x : ℕ)
    → is_vacated_by kernel items i x ≡ false)
    (told : ChangesOnlyTables t u) where
  pub follows-one : Follows kernel items longer (byte_of t.store) (byte_of u.store)
  follows-one = rw more (follows-item kernel items i u.memory u.reserved _ _ stays now.memory now.reserved told)

  pub whole-one : Stands kernel longer → IsMemblock kernel longer u to
  whole-one stands =
      let after = subst (λ (l : List Item). TablesMatchItems kernel l u to) (sym more) now in
      record {
        image = m.image;
        kept = after;
        placed = stands;
        spelled = follows-stands _ _ _ _ _ _ _ after.memory after.reserved follows-one;
      }

-- a write of one byte to each address of a range is a fill
pub wrote-put : (old new : List ExtentView) (fill : Fill) → WritesBytes old new fill.range.base fill.range.size (λ _. fill.byte)
    → (x : ℕ) → byte_of new x ≡ byte_after_fill fill x (byte_of old x)
wrote-put old new fill wrote x =
    let within = wrote.within (x - fill.range.base) in
    let outside = wrote.outside x in
    grind (arith, nat_tests, within, outside)

pub whole-fill : {kernel : RangeView} {items : List Item} {t : TablesView} (u : TablesView) {at : AllocSettings} (fill : Fill)
    → u.memory ≡ t.memory
    → u.reserved ≡ t.reserved → ((x : ℕ) → byte_of u.store x ≡ byte_after_fill fill x (byte_of t.store x))
    → OverlapsNoTable kernel fill.range items
    → IsMemblock kernel items t at → IsMemblock kernel items u at
whole-fill {t} u fill first second wrote away m =
    let memory : AreDisjoint fill.range (bytes_of t.memory) = rw m.kept.memory away.0 in
    let reserved : AreDisjoint fill.range (bytes_of t.reserved) = rw m.kept.reserved away.1 in
    let spelled : TablesAreEncoded t.memory t.reserved (byte_of u.store) =
    fill-spelled t.memory t.reserved fill (byte_of t.store) (byte_of u.store) memory reserved m.spelled wrote in
    record { image = m.image; kept = kept-same m.kept u first second; placed = m.placed; spelled = rw (first, second) spelled }
