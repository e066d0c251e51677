-- Worked examples: small lists of runs.
use Rattle.std.proofs.Common.{◌≡◌, ℕ, ◌+◌, ◌^◌, ◌<◌, ◌≤◌, ◌==◌, nat_lt, true, false, if◌then◌else◌, Option, Some, None, [], ◌∷◌, refl, arith}
use Rattle.std.proofs.lemmas.Bool.Decides.{nat_tests}
use Rattle.address_runs.specs.Runs.{RunOf, DecidesEquality, run_end, lies_in, value_at, IsBefore, AreRuns, runs_from, runs_of}
use Rattle.address_runs.specs.Sweep.{StartAtOrPast, EndBy, FirstEndsPast, FirstEndsAtOrPast}
use Rattle.address_runs.specs.Overlay.{overlay_runs, HaveAddresses}
use Rattle.address_runs.proofs.RunsLaws.{runs_equal_runs_of}

run : ℕ → ℕ → ℕ → RunOf ℕ
run base size value = record { base = base; size = size; value = value }

-- addresses 0 and 1 have the value 1, 4 and 5 have 1 again, 6 has 2, all others have none
abbrev gaps : ℕ → Option ℕ
gaps x = if nat_lt x 2 then Some 1 else (if nat_lt x 4 then None else
    (if nat_lt x 6 then Some 1 else (if nat_lt x 7 then Some 2 else None)))

-- a gap separates two runs of one value; touching runs have different values; one value everywhere
-- is one run
from_examples : (runs_from (λ a b. a == b) gaps 0 8 ≡ run 0 2 1 ∷ (run 4 2 1 ∷ (run 6 1 2 ∷ [])))
    × (runs_from (λ a b. a == b) (λ x. Some 7) 0 8 ≡ run 0 8 7 ∷ [])
unfolding runs_from run
from_examples = (refl, refl)

-- a run contains its base and its last address, but not its end
lies_examples : (lies_in (run 4 2 1) 3 ≡ false) × (lies_in (run 4 2 1) 4 ≡ true) × (lies_in (run 4 2 1) 5 ≡ true)
    × (lies_in (run 4 2 1) 6 ≡ false) × (run_end (run 4 2 1) ≡ 6) × (run_end (run 9 0 1) ≡ 9)
unfolding run
lies_examples = (refl, refl, refl, refl, refl, refl)

-- if two runs contain an address, the value of the first one counts
value_examples : (value_at (run 0 2 1 ∷ (run 4 2 3 ∷ [])) 5 ≡ Some 3) × (value_at (run 0 2 1 ∷ (run 4 2 3 ∷ [])) 2 ≡ None)
    × (value_at (run 0 4 1 ∷ (run 2 4 3 ∷ [])) 3 ≡ Some 1)
unfolding run
value_examples = (refl, refl, refl)

-- a run comes before one that begins above its end, or at its end with another value
before_examples : IsBefore (run 0 2 1) (run 3 1 1 ∷ []) × IsBefore (run 0 2 1) (run 2 1 5 ∷ []) × IsBefore (run 0 2 1) []
unfolding run
before_examples = ((omega arith, λ touch same. absurd (omega arith)), (omega arith, λ touch same. absurd (omega arith)), tt)

not_before_the_same : ¬ IsBefore (run 0 2 1) (run 2 1 1 ∷ [])
unfolding run
not_before_the_same before = before.1 refl refl

-- canonical: runs that touch have different values, runs with a gap may have the same
touching_values_differ : AreRuns (run 0 2 1 ∷ (run 2 2 3 ∷ (run 6 1 3 ∷ [])))
unfolding run
touching_values_differ = (
  omega arith,
  (omega arith, λ touch same. absurd (omega arith)),
  (omega arith, (omega arith, λ touch. absurd (omega arith)), (omega arith, tt, tt)),
)

-- not canonical: two runs that could be one, runs that overlap, an empty run
not_canonical : (¬ AreRuns (run 0 2 1 ∷ (run 2 2 1 ∷ []))) × (¬ AreRuns (run 0 3 1 ∷ (run 2 2 3 ∷ []))) × (¬ AreRuns (run 0 0 1 ∷ []))
unfolding run
not_canonical = (
  λ runs. runs.1.1 refl refl,
  λ runs. let apart : 3 ≤ 2 = runs.1.0 in absurd (omega arith),
  λ runs. let some : 0 < 0 = runs.0 in absurd (omega arith),
)

-- the runs of all addresses below 2^64: one page of RAM; and no run if no address has a value
equal_numbers_decide_equality : DecidesEquality {X = ℕ} (λ a b. a == b)
equal_numbers_decide_equality =
    record { true_is_equal = λ a b h. grind (arith, nat_tests); equal_is_true = λ a b h. grind (arith, nat_tests) }

one_page : ℕ → Option ℕ
one_page = value_at (run 0x1000 0x1000 1 ∷ [])

none_after_the_page : (x : ℕ) → 2 ^ 64 ≤ x → one_page x ≡ None
unfolding one_page run
none_after_the_page x far = grind (arith, nat_tests)

runs_of_one_page : run 0x1000 0x1000 1 ∷ [] ≡ runs_of (λ a b. a == b) one_page
unfolding one_page run
runs_of_one_page = runs_equal_runs_of (λ a b. a == b) equal_numbers_decide_equality one_page (run 0x1000 0x1000 1 ∷ []) none_after_the_page
    (record { runs = (omega arith, tt, tt); each = λ x. refl })

-- an example of a join: the sum of both values
abbrev sum_of : Option ℕ → Option ℕ → Option ℕ
sum_of None l = l
sum_of (Some k) None = Some k
sum_of (Some k) (Some l) = Some (k + l)

all_overlaid_examples : (overlay_runs sum_of (run 0 4 1 ∷ (run 2 4 3 ∷ [])) 3 ≡ Some 4)
    × (overlay_runs sum_of (run 0 4 1 ∷ (run 2 4 3 ∷ [])) 5 ≡ Some 3) × (overlay_runs sum_of (run 0 4 1 ∷ (run 2 4 3 ∷ [])) 6 ≡ None)
unfolding run
all_overlaid_examples = (refl, refl, refl)

-- relations of a list and an address, each with an address that just meets it and one that just
-- doesn't. A run that ends at the address must have another value
start_examples : StartAtOrPast 4 (run 4 2 1 ∷ []) × EndBy 6 (Some 2) (run 4 2 1 ∷ []) × FirstEndsPast 5 (run 4 2 1 ∷ [])
    × FirstEndsAtOrPast 6 (run 4 2 1 ∷ [])
unfolding run
start_examples = (omega arith, (omega arith, λ touch same. absurd (cc same), tt), omega arith, omega arith)

goes_on_with_the_value : ¬ EndBy 6 (Some 1) (run 4 2 1 ∷ [])
unfolding run
goes_on_with_the_value ends = ends.1 refl refl

ends_right_there : (¬ FirstEndsPast 6 (run 4 2 1 ∷ [])) × (¬ FirstEndsAtOrPast 7 (run 4 2 1 ∷ []))
unfolding run
ends_right_there = ((λ after. let more : 6 < 6 = after in absurd (omega arith)), λ from. let more : 7 ≤ 6 = from in absurd (omega arith))

begins_lower : ¬ StartAtOrPast 5 (run 4 2 1 ∷ [])
unfolding run
begins_lower start = let higher : 5 ≤ 4 = start in absurd (omega arith)

have_addresses : HaveAddresses (run 4 2 1 ∷ (run 0 9 2 ∷ [])) × (¬ HaveAddresses (run 4 2 1 ∷ (run 0 0 2 ∷ [])))
unfolding run
have_addresses = ((omega arith, (omega arith, tt)), λ have. let some : 0 < 0 = have.1.0 in absurd (omega arith))
