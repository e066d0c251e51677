-- If two calls return what their definitions say, their sequence does too.
use Rattle.std.proofs.Common.{◌≡◌, Result, Ok, Err, refl, ap}
use Rattle.bm_base.specs.Answers.{Answers}
use Rattle.bm_base.specs.ResultSteps.{◌>>=◌, map_error}

module _ {A B C D E : Type 0} (memory : E) (view : A → B) (shown : C → D) where
  -- `?` continues after Ok: the first call returned the definition's value, so the rest of the
  -- sequence decides the result
  pub goes_on : (a : A) (said : Result B E) (step : B → Result D E) (rest : Result C E)
      → Answers memory view (Ok a) said → Answers memory shown rest (step (view a)) → Answers memory shown rest (said >>= step)
  goes_on a said step rest first answers = rw first answers

  -- `?` stops at an error: the sequence fails with the definition's error, or with out of memory
  pub stops : (error : E) (said : Result B E) (step : B → Result D E)
      → Answers memory view (Err error) said → Answers memory shown (Err error) (said >>= step)
  stops error said step first other = rw (first other) refl

  -- a call followed by the rest of a sequence, for either result of the call
  pub one_step : (first : Result A E) (rest : A → Result C E) (said : Result B E) (step : B → Result D E)
      → Answers memory view first said → ((a : A) → first ≡ Ok a → Answers memory shown (rest a) (step (view a)))
      → Answers memory shown (first >>= rest) (said >>= step)
  one_step (Ok a) rest said step answers after = goes_on a said step (rest a) answers (after a refl)
  one_step (Err error) rest said step answers after = stops error said step answers

module _ {A B E F : Type 0} (convert : E → F) (memory : E) (view : A → B) where
  -- converting the error of a call (`map_err`, or `?` by `From`) gives the definition's error,
  -- converted
  pub converted : (answer : Result A E) (said : Result B E)
      → Answers memory view answer said → Answers (convert memory) view (map_error convert answer) (map_error convert said)
  converted (Ok a) said answers = ap (map_error convert) answers
  converted (Err error) said answers = λ other. ap (map_error convert) (answers (λ is. other (ap convert is)))

  -- a call's error, once converted, is the result of the whole sequence
  pub converted_error_stops : {C D : Type 0} (shown : C → D) (error : E) (said : Result B E) (step : B → Result D F)
      → Answers memory view (Err error) said → Answers (convert memory) shown (Err (convert error)) (map_error convert said >>= step)
  converted_error_stops shown error said step answers =
      stops (convert memory) view shown (convert error) (map_error convert said) step (converted (Err error) said answers)
