-- The first claim: the kernel's image, in which both tables lie at first.
use Rattle.std.proofs.Common.{◌≡◌, ℕ, ◌%◌, ◌^◌, ◌≤◌, true, false, None, List, [], ◌∷◌, length, refl, sym, ap, arith}
use Rattle.std.proofs.lemmas.Bool.Decides.{nat_tests}
use Rattle.bm_base.specs.Range.{RangeView, end_of, covers}
use Rattle.memblock_model.specs.declared.owner.Which.{Which}
use Rattle.memblock_model.specs.declared.owner.Which.TheVariants as which
use Rattle.memblock_model.specs.declared.owner.Owner.{Owner}
use Rattle.memblock_model.specs.declared.owner.Owner.TheVariants as owner
use Rattle.memblock_model.specs.declared.item.Item.{Item}
use Rattle.memblock_model.specs.declared.item.Item.TheVariants as item
use Rattle.memblock_model.specs.Labels.{Labels}
use Rattle.memblock_model.specs.Items.{no_owners}
use Rattle.memblock_model.specs.Tables.{table_of, records_for, records_of, room_of, table_bytes}
use Rattle.memblock_model.proofs.TableLaws.{records_for-is}
use Rattle.memblock_ranges.proofs.CountLaws.{few-pieces}
use Rattle.growth_model.specs.Change.{write_item}
use Rattle.growth_model.specs.Growth.{record_count, is_full, count_uncovered_pieces, max_records_added_by_split, claim_range}
use Rattle.growth_model.specs.Tables.{ShareNoFrame, TablesAreClaimed, IsKernelImage}
use Rattle.growth_model.proofs.IdleLaws.{claim_range-idle}
use Rattle.growth_model.proofs.SeatLaws.{IsTablePlace-new}

-- a table that covers nothing has no records
pub no_records : (f : Labels) → ((x : ℕ) → f x ≡ None) → length (records_for f) ≡ 0
no_records f none = ap length (sym (records_for-is f [] (λ x le. none x) (record { runs = tt; each = λ x. sym (none x) })))

pub nothing_said : (w : Which) (x : ℕ) → table_of w [] x ≡ None
nothing_said which.Memory x = refl
nothing_said which.Reserved x = refl

-- the table isn't full for the first claim, which is one run
pub first-full : (r : RangeView) → end_of r ≤ 2 ^ 64 → is_full which.Reserved (count_uncovered_pieces which.Reserved r) [] ≡ false
unfolding records_of
first-full r small =
    let f = table_of which.Reserved [] in
    let few = few-pieces r f small (λ x le. refl) in
    let none = no_records f (λ x. refl) in
    grind (arith, nat_tests, few, none)

pub first-full_by_two : is_full which.Reserved max_records_added_by_split [] ≡ false
unfolding records_of
first-full_by_two = let none = no_records (table_of which.Reserved []) (λ x. refl) in grind (arith, nat_tests, none)

-- each table fits at first
pub no_table_full : (w : Which) → record_count w [] ≤ room_of w []
unfolding records_of
no_table_full w = let none = no_records (table_of w []) (nothing_said w) in omega arith

-- the first claim writes only its item
pub first-claimed : (r : RangeView) (o : Owner) → end_of r ≤ 2 ^ 64 → claim_range r o [] ≡ write_item (item.Claim r o) []
first-claimed r o small = claim_range-idle [] r o (first-full r small)

-- the items after the claim of the image, with the built-in places in its last two frames
abbrev first_items : RangeView → List Item
first_items kernel = item.Claim kernel owner.Kernel ∷ []

abbrev first_live : Which → RangeView → RangeView
first_live w kernel = table_bytes w kernel (first_items kernel)

table_bytes-inside : (w : Which) (kernel : RangeView) (x : ℕ) → 8192 ≤ kernel.size → covers (first_live w kernel) x ≡ true
    → covers kernel x ≡ true
table_bytes-inside which.Memory kernel x large at = grind (arith, nat_tests, large, at)
table_bytes-inside which.Reserved kernel x large at = grind (arith, nat_tests, large, at)

first-apart : (kernel : RangeView) → end_of kernel % 4096 ≡ 0 → 8192 ≤ kernel.size
    → ShareNoFrame (first_live which.Memory kernel) (first_live which.Reserved kernel)
first-apart kernel whole large x y at_x at_y same = grind (arith, nat_tests, whole, large, at_x, at_y, same)

pub first-placed : (kernel : RangeView) → IsKernelImage kernel → TablesAreClaimed kernel (item.Claim kernel owner.Kernel ∷ [])
first-placed kernel image =
    let whole : end_of kernel % 4096 ≡ 0 = image.whole in
    let large : 8192 ≤ kernel.size = image.large in
    record {
      rest = [];
      first = refl;
      seats = record {
        first = IsTablePlace-new no_owners (first_live which.Memory kernel) kernel owner.Kernel (omega arith) refl
            (λ x at. table_bytes-inside which.Memory kernel x large at);
        second = IsTablePlace-new no_owners (first_live which.Reserved kernel) kernel owner.Kernel (omega arith) refl
            (λ x at. table_bytes-inside which.Reserved kernel x large at);
        apart = first-apart kernel whole large;
      };
    }
