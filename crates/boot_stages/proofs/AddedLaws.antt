-- The bytes that become memory lie below the limit, so they are no more than it.
use Rattle.std.proofs.Common.{◌≡◌, ℕ, ◌+◌, ◌-◌, ◌<◌, ◌≤◌, Bool, true, false, if◌then◌else◌, min, Some, List, [], ◌∷◌, refl, arith}
use Rattle.std.proofs.lemmas.List.Sums.{sum_by-cons}
use Rattle.address_runs.specs.Runs.{RunOf, run_end, AreRuns}
use Rattle.address_runs.specs.Sweep.{StartAtOrPast}
use Rattle.address_runs.proofs.RunsLaws.{rest_from, start_zero}
use Rattle.e820_model.specs.Usable.{is_memory}
use Rattle.boot_model.specs.Added.{added_by_run, memory_bytes_of_map}

pub added-cons : (reach : ℕ) (r : RunOf ℕ) (rs : List (RunOf ℕ))
    → memory_bytes_of_map reach (r ∷ rs) ≡ added_by_run reach r + memory_bytes_of_map reach rs
added-cons reach r rs = sum_by-cons (λ (s : RunOf ℕ). added_by_run reach s) r rs

either_within : (b : Bool) (n m : ℕ) → n ≤ m → (if b then n else 0) ≤ m
either_within true n m le = le
either_within false n m le = omega arith

run_within : (reach : ℕ) (r : RunOf ℕ) → added_by_run reach r ≤ min (run_end r) reach - r.base
run_within reach r =
    either_within (is_memory (Some r.value)) (min (run_end r) reach - r.base) (min (run_end r) reach - r.base) (omega arith)

added_from : (reach at : ℕ) (rs : List (RunOf ℕ)) → StartAtOrPast at rs → AreRuns rs → memory_bytes_of_map reach rs ≤ reach - at
added_from reach at [] start runs = omega arith
added_from reach at (r ∷ rs) start runs =
    let from : at ≤ r.base = start in
    let rest = added_from reach (run_end r) rs (rest_from r rs runs) runs.2 in
    let one = run_within reach r in
    omega (arith, from, rest, one, added-cons reach r rs)

pub added-within : (reach : ℕ) (rs : List (RunOf ℕ)) → AreRuns rs → memory_bytes_of_map reach rs ≤ reach
added-within reach rs runs = let all = added_from reach 0 rs (start_zero rs) runs in omega (arith, all)
