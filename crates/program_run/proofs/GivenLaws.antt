-- A made table replaces entries only after the files are read. So an error of the files stays, and
-- otherwise the made entries replace those of the files. The laws hold for any step `next` after
-- reading (`read`).
use Rattle.std.proofs.Common.{◌≡◌, Option, Some, None, Result, Ok, refl, arith}
use Rattle.std.specs.Prelude.{IfSome, IsErrAnd}
use Rattle.bm_base.specs.ResultSteps.{◌>>=◌}
use Rattle.boot_inputs.specs.Input.{input_place}
use Rattle.boot_inputs.specs.Reason.{NoInputs, InputsReason}
use Rattle.program_end.specs.Fetches.{Fetches, FitsError}
use Rattle.program_end.specs.Program.{FileContents}

fits_after : {X A B : Type 0} (view : X → B) (r : Result X NoInputs) (error : NoInputs) (said : Result A InputsReason) (next : A → B)
    → IsErrAnd r (λ other. other ≡ error) → FitsError input_place error said
    → Fetches input_place view r (said >>= λ inputs. Ok (next inputs))
fits_after view r error said next is fits = grind arith

pub given_none : {X A B : Type 0} (view : X → B) (r : Result X NoInputs) (error : NoInputs) (files : Option FileContents)
    (read : FileContents → Result A InputsReason) (next : A → B)
    → IsErrAnd r (λ other. other ≡ error) → IfSome files (λ held. FitsError input_place error (read held))
    → IfSome files (λ held. Fetches input_place view r (read held >>= λ inputs. Ok (next inputs)))
given_none view r error None read next is fits = tt
given_none view r error (Some held) read next is fits = fits_after view r error (read held) next is fits

pub given_some : {A B : Type 0} (files : Option FileContents) (read : FileContents → Result A InputsReason) (next : A → B) (inputs : A)
    (out : B) → out ≡ next inputs → IfSome files (λ held. read held ≡ Ok inputs)
    → IfSome files (λ held. (read held >>= λ g. Ok (next g)) ≡ Ok out)
given_some None read next inputs out made is = tt
given_some (Some held) read next inputs out made is = rw (is, made) refl
