-- Worked examples: what each edit does to one address.
use Rattle.std.proofs.Common.{◌≡◌, ℕ, ◌+◌, ◌==◌, if◌then◌else◌, Option, Some, None, refl, arith}
use Rattle.std.proofs.lemmas.Bool.Decides.{nat_tests}
use Rattle.bm_base.specs.Range.{RangeView}
use Rattle.address_runs.specs.Edits.{cover_range, uncover_range, relabel_range, replace_in_range, IsEmptyFrom}

abbrev bytes : ℕ → ℕ → RangeView
bytes base size = record { base = base; size = size }

-- address 3 carries 7, all others carry nothing; most edits are of addresses 2 and 3
abbrev one_value : ℕ → Option ℕ
one_value x = if x == 3 then Some 7 else None

-- covering fills an empty address, keeps a value, and stops at the end of the range
covered_examples : (cover_range (bytes 2 2) 9 one_value 2 ≡ Some 9) × (cover_range (bytes 2 2) 9 one_value 3 ≡ Some 7)
    × (cover_range (bytes 2 2) 9 one_value 4 ≡ None)
covered_examples = (refl, refl, refl)

-- uncovering removes values inside the range only
uncovered_examples : (uncover_range (bytes 2 2) one_value 3 ≡ None) × (uncover_range (bytes 4 2) one_value 3 ≡ Some 7)
uncovered_examples = (refl, refl)

-- relabelling changes a value inside the range, keeps an empty address empty, and changes nothing
-- outside
relabelled_examples : (relabel_range (bytes 2 2) (λ v. v + 1) one_value 3 ≡ Some 8)
    × (relabel_range (bytes 2 2) (λ v. v + 1) one_value 2 ≡ None)
    × (relabel_range (bytes 4 2) (λ v. v + 1) one_value 3 ≡ Some 7)
relabelled_examples = (refl, refl, refl)

-- replacing fills empty addresses, overwrites values, and stops at the end of the range
replaced_examples : (replace_in_range (bytes 2 2) 9 one_value 2 ≡ Some 9) × (replace_in_range (bytes 2 2) 9 one_value 3 ≡ Some 9)
    × (replace_in_range (bytes 2 2) 9 one_value 4 ≡ None)
replaced_examples = (refl, refl, refl)

-- nothing is carried from address 4 on, but something is from address 3 on
nothing_after : IsEmptyFrom 4 one_value × (IsEmptyFrom 3 one_value → ⊥)
nothing_after = ((λ x le. grind (arith, nat_tests)), λ none. let same : Some 7 ≡ None = none 3 (omega arith) in cc same)
