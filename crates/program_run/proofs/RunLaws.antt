-- An error of reading the inputs is the one that the outcome has. The laws hold for each of the two
-- programs.
use Rattle.std.proofs.Common.{◌≡◌, ◌≢◌, ℕ, List, Option, Some, None, Result, Ok, Err, refl, arith}
use Rattle.std.specs.Prelude.{IfSome, IsErrAnd, IsNone}
use Rattle.bm_base.specs.ResultSteps.{◌>>=◌}
use Rattle.boot_inputs.specs.declared.input.Input.{Input}
use Rattle.boot_inputs.specs.Input.{input_place}
use Rattle.boot_inputs.specs.Reason.{NoInputs, InputsReason}
use Rattle.boot_model.specs.declared.stop.Cause.{Cause}
use Rattle.program_end.specs.Causes.{ErrorHasCause}
use Rattle.program_end.specs.Fetches.{Fetches, FitsError, accepted_or_usage}
use Rattle.program_end.specs.Program.{FileContents, Program}
use Rattle.program_args.specs.declared.reader.ArgsError.{ArgsError}
use Rattle.program_args.specs.declared.reader.ArgsError.TheVariants as words
use Rattle.program_args.specs.Answers.{or_refused}
use Rattle.program_run.specs.Outcome.{value_or_stopped}
use Rattle.program_run.specs.Stops.{reason_by_args_error}

-- the outcome after the boot, whose cause is the only reason that it may add
boot_fits : {A T B : Type 0} (error : NoInputs) (inputs : A) (answer : Result T Cause) (text : T → B) (said : Result A InputsReason)
    → said ≡ Ok inputs → FitsError input_place error said
    → FitsError input_place error (value_or_stopped answer >>= λ booted. Ok (text booted))
boot_fits error inputs answer text said is fits = grind arith

-- a file that is reached when the inputs are read is reached by the outcome
refused_after : {A T B : Type 0} (error : NoInputs) (said : Result A InputsReason) (boot : A → Result T Cause) (text : T → B)
    → FitsError input_place error said → FitsError input_place error
    (said >>= λ inputs. value_or_stopped (boot inputs) >>= λ booted. Ok (text booted))
refused_after error (Ok inputs) boot text fits = boot_fits error inputs (boot inputs) text (Ok inputs) refl fits
refused_after error (Err reason) boot text fits = grind arith

fetches_after : {A T B X : Type 0} (view : X → B) (r : Result X NoInputs) (said : Result A InputsReason) (boot : A → Result T Cause)
    (text : T → B) (error : NoInputs)
    → IsErrAnd r (λ other. other ≡ error) → FitsError input_place error said
    → Fetches input_place view r (said >>= λ inputs. value_or_stopped (boot inputs) >>= λ booted. Ok (text booted))
fetches_after view (Err other) said boot text error is fits = rw is (refused_after error said boot text fits)
fetches_after view (Ok value) said boot text error is fits = absurd is

pub fetches_none : {A T B X : Type 0} (view : X → B) (r : Result X NoInputs) (files : Option FileContents)
    (read : FileContents → Result A InputsReason) (boot : A → Result T Cause) (text : T → B) (error : NoInputs)
    → IsErrAnd r (λ other. other ≡ error) → IfSome files (λ held. FitsError input_place error (read held))
    → IfSome files (λ held. Fetches input_place view r
    (read held >>= λ inputs. value_or_stopped (boot inputs) >>= λ files. Ok (text files)))
fetches_none view r None read boot text error is fits = tt
fetches_none view r (Some held) read boot text error is fits = fetches_after view r (read held) boot text error is fits

-- if reading the command line succeeds, the command line is accepted
pub are_accepted : {W : Type 0} (accepted : Option W) (args : W) → or_refused accepted ≡ Ok args → accepted ≡ Some args
are_accepted accepted args is = grind arith

pub never_refused : {W : Type 0} (accepted : Option W) (args : W) → or_refused accepted ≡ Ok args → IsNone accepted → ⊥
never_refused accepted args is none = grind arith

-- if reading the command line fails, the command line is refused or memory ran out
pub words_cause : {W A : Type 0} (program : Program W Input A) (before now : List ℕ → ℕ) (accepted : Option W) (error : ArgsError)
    → (error ≢ words.Memory → or_refused accepted ≡ Err error) → ErrorHasCause program before now accepted (reason_by_args_error error)
words_cause program before now accepted error is = grind arith

fits_words : {W A : Type 0} (next : W → Result A InputsReason) (accepted : Option W) (error : ArgsError)
    → (error ≢ words.Memory → or_refused accepted ≡ Err error)
    → FitsError input_place (reason_by_args_error error) (accepted_or_usage accepted >>= next)
fits_words next accepted error is = grind arith

pub words_fit : {W A : Type 0} (next : FileContents → W → Result A InputsReason) (holds : Option FileContents) (accepted : Option W)
    (error : ArgsError) → (error ≢ words.Memory → or_refused accepted ≡ Err error)
    → IfSome holds (λ held. FitsError input_place (reason_by_args_error error) (accepted_or_usage accepted >>= next held))
words_fit next None accepted error is = tt
words_fit next (Some held) accepted error is = fits_words (next held) accepted error is
