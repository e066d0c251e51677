-- A sequence of stages.
use Rattle.std.specs.Prelude.{List, [], ◌∷◌, Result, Ok}
use Rattle.bm_base.specs.ResultSteps.{◌>>=◌}

-- runs the stages one after another, each on what the earlier ones made; the first error ends the
-- sequence
abbrev pub run_each_stage : {S E : Type 0} → List (S → Result S E) → S → Result S E
run_each_stage [] state = Ok state
run_each_stage (stage ∷ stages) state = stage state >>= λ next. run_each_stage stages next
