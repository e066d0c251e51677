-- Lists of records while an edit sweeps over them.
use Rattle.std.specs.Prelude.{◌≡◌, ◌⊎◌, ℕ, ◌-◌, ◌<◌, ◌≤◌, nat_lt, if◌then◌else◌, Option, Some, None, List, [], ◌∷◌}
use Rattle.address_runs.specs.Runs.{RunOf, run_end}

module _ {X : Type 0} where
  -- the run from `start` to `until`, without `until`, as a list; the empty list if the run has no
  -- address or no value
  abbrev pub run_or_none : ℕ → ℕ → Option X → List (RunOf X)
  run_or_none start until None = []
  run_or_none start until (Some v) = if nat_lt start until then record { base = start; size = until - start; value = v } ∷ [] else []

  -- each run of the list ends below the address
  abbrev pub EndBelow : ℕ → List (RunOf X) → Type 0
  EndBelow at [] = Unit {0}
  EndBelow at (r ∷ rs) = (run_end r < at) × EndBelow at rs

  -- the address isn't inside the first run of the list: it is at or below the run's base, or at or
  -- above its end
  abbrev pub IsNotInsideRun : ℕ → List (RunOf X) → Type 0
  IsNotInsideRun at [] = Unit {0}
  IsNotInsideRun at (r ∷ rs) = r.base < at → run_end r ≤ at

  -- the change can't make a run end inside its range: it leaves addresses that carry nothing as
  -- they are, or gives all addresses the same
  abbrev pub AddsNoRunEnd : (Option X → Option X) → Type 0
  AddsNoRunEnd change = (change None ≡ None) ⊎ ((carried : Option X) → change carried ≡ change None)
