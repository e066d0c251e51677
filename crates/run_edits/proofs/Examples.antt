-- Worked examples: small tables.
use Rattle.std.proofs.Common.{◌≡◌, ℕ, ◌==◌, nat_lt, if◌then◌else◌, Option, Some, None, [], ◌∷◌, refl, inl, inr, arith}
use Rattle.address_runs.specs.Runs.{RunOf}
use Rattle.run_edits.specs.Records.{run_or_none, EndBelow, IsNotInsideRun, AddsNoRunEnd}
use Rattle.run_edits.specs.Ends.{total, run_ends_at, one_right_below}

abbrev run : ℕ → ℕ → ℕ → RunOf ℕ
run base size value = record { base = base; size = size; value = value }

-- a run of no address, or without a value, is no run
stretch_examples : (run_or_none 4 6 (Some 1) ≡ run 4 2 1 ∷ []) × (run_or_none {X = ℕ} 4 4 (Some 1) ≡ [])
    × (run_or_none {X = ℕ} 4 6 None ≡ [])
stretch_examples = (refl, refl, refl)

-- a run that ends exactly at the address doesn't end below it
ends_below : EndBelow 7 (run 1 2 5 ∷ (run 4 2 1 ∷ [])) × (EndBelow 6 (run 4 2 1 ∷ []) → ⊥)
ends_below = ((omega arith, (omega arith, tt)), λ ends. let below = ends.0 in omega (arith, below))

-- an address cuts a run only if it is strictly inside the run
uncut_at_its_ends : (IsNotInsideRun 5 (run 4 2 1 ∷ []) → ⊥) × IsNotInsideRun 4 (run 4 2 1 ∷ []) × IsNotInsideRun 6 (run 4 2 1 ∷ [])
uncut_at_its_ends = (
  λ uncut. let ends = uncut (omega arith) in omega (arith, ends),
  λ lt. absurd (omega (arith, lt)),
  λ lt. omega arith,
)

-- uncovering and replacing make no run end inside the range; covering may
ending_none : AddsNoRunEnd (λ (carried : Option ℕ). None) × AddsNoRunEnd (λ (carried : Option ℕ). Some 7)
ending_none = (inl refl, inr (λ carried. refl))

abbrev cover : Option ℕ → Option ℕ
cover None = Some 7
cover (Some v) = Some v

something_is_nothing : (n : ℕ) → Some n ≡ None → ⊥
something_is_nothing n same = cc

same_value : (m n : ℕ) → Some m ≡ Some n → m ≡ n
same_value m n same = cc

covering : AddsNoRunEnd cover → ⊥
covering (inl stays) = something_is_nothing 7 stays
covering (inr one) = let equal : 8 ≡ 7 = same_value 8 7 (one (Some 8)) in omega (arith, equal)

-- addresses 0 and 1 carry 1, address 2 carries 2, all others carry nothing
abbrev two_runs : ℕ → Option ℕ
two_runs x = if nat_lt x 2 then Some 1 else (if x == 2 then Some 2 else None)

-- a run ends at address 1, the last one of the first run, and not at address 0
edges_examples : (run_ends_at (λ m n. m == n) two_runs 1 ≡ 1) × (run_ends_at (λ m n. m == n) two_runs 0 ≡ 0)
edges_examples = (refl, refl)

-- two runs end among the first ten addresses; `one_right_below` adds 1 if the address right below
-- its argument is among those that are summed
total_examples : (total (run_ends_at (λ m n. m == n) two_runs) 0 10 ≡ 2) × (total (one_right_below 5) 0 10 ≡ 1)
    × (total (one_right_below 5) 5 10 ≡ 0)
unfolding total
total_examples = (refl, refl, refl)
