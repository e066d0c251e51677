-- Runs in ascending order of their addresses.
use Rattle.std.specs.Prelude.{◌<◌, List, [], ◌∷◌}
use Rattle.address_runs.specs.Runs.{RunOf, run_end}
use Rattle.address_runs.specs.Sweep.{StartAtOrPast}

-- no run is empty, and each begins at or above the end of the one before it; two runs that touch
-- may have the same value
abbrev pub Ascend : {X : Type 0} → List (RunOf X) → Type 0
Ascend [] = Unit {0}
Ascend (r ∷ rs) = (0 < r.size) × StartAtOrPast (run_end r) rs × Ascend rs
