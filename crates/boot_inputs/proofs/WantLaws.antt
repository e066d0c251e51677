-- Out of memory is never a fault of bytes: not in a sequence of steps with other faults, and not in
-- the refusals of a list of files.
use Rattle.std.proofs.Common.{◌≡◌, ◌≢◌, ℕ, List, [], ◌∷◌, Option, Result, Ok, Err, arith}
use Rattle.std.specs.Prelude.{All, IfErr, IsErrOf}
use Rattle.std.proofs.lemmas.List.Elements.{All-head, All-tail}
use Rattle.bm_base.specs.ResultSteps.{◌>>=◌, map_error}
use Rattle.boot_model.specs.Boot.{InputsView}
use Rattle.boot_inputs.specs.declared.fault.Fault.{Fault}
use Rattle.boot_inputs.specs.declared.input.Input.{Input}
use Rattle.boot_inputs.specs.Reason.{InputsReason}
use Rattle.program_end.specs.declared.failure.Reason.TheVariants as reasons
use Rattle.boot_inputs.specs.Faults.{HasErrorLine, FaultsHaveErrorLines}
use Rattle.boot_inputs.specs.File.{File}
use Rattle.boot_inputs.specs.Inputs.{FileNames, inputs_after_file, inputs_after_files, input_files, inputs_of, inputs_after_optional_file}
use Rattle.program_end.specs.Program.{FileContents}

-- if neither a step nor the next one fails with `want`, the two together don't
pub then_other : {A B E : Type 0} {want : E} (x : Result A E) {f : A → Result B E} → ¬ IsErrOf x want → ((a : A) → ¬ IsErrOf (f a) want)
    → ¬ IsErrOf (x >>= f) want
then_other (Ok a) first rest = rest a
then_other (Err error) first rest = λ is. first (cc is)

pub turned_other : {A E F : Type 0} (turn : E → F) (want : F) (x : Result A E) → ((error : E) → turn error ≢ want)
    → ¬ IsErrOf (map_error turn x) want
turned_other turn want (Ok a) other = λ is. cc is
turned_other turn want (Err error) other = λ is. other error (cc is)

-- if the reason refuses a file for a fault, the fault is one of the file's bytes
abbrev pub RefusedOfBytes : InputsReason → Type 0
RefusedOfBytes (reasons.Faulty input fault) = HasErrorLine fault
RefusedOfBytes other = Unit {0}

pub then_if : {A B E : Type 0} (P : E → Type 0) (x : Result A E) (f : A → Result B E) → IfErr x P → ((a : A) → IfErr (f a) P)
    → IfErr (x >>= f) P
then_if P x f first rest = grind (arith, rest)

step_other : (held : FileContents) (file : File) (given : InputsView) (name : Option (List ℕ)) → FaultsHaveErrorLines file
    → IfErr (inputs_after_optional_file held file given name) RefusedOfBytes
step_other held file given name says = grind arith

pub given_other : (held : FileContents) (named : FileNames) (files : List File) → All FaultsHaveErrorLines files → (given : InputsView)
    → IfErr (inputs_after_files held named files given) RefusedOfBytes
given_other held named [] say given = tt
given_other held named (file ∷ files) say given =
    then_if RefusedOfBytes (inputs_after_file held named file given) _
    (step_other held file given (named file.input) (All-head FaultsHaveErrorLines file files say))
    (given_other held named files (All-tail FaultsHaveErrorLines file files say))

pub refused_other : All FaultsHaveErrorLines input_files
    → (held : FileContents) (named : FileNames) (begun : InputsView) (input : Input) (fault : Fault)
    → inputs_of held named begun ≡ Err (reasons.Faulty input fault) → HasErrorLine fault
refused_other say held named begun input fault is = rw is at (given_other held named input_files say begun)
