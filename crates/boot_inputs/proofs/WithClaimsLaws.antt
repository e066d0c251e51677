-- The files before the early claims, the early claims and the files after them are read one after
-- another. An error of each fits the outcome of all.
use Rattle.std.proofs.Common.{◌≡◌, ◌∙◌, ℕ, ◌≤◌, List, [], Option, Some, None, Result, Ok, Err, refl, ap, sym, arith}
use Rattle.std.specs.Prelude.{All, IfSome, IsErrOf, IsTrue}
use Rattle.bm_base.specs.ResultSteps.{◌>>=◌}
use Rattle.script_reader.specs.declared.act.Line.{Line}
use Rattle.script_reader.specs.declared.fault.ScriptFault.TheVariants as script
use Rattle.boot_model.specs.Boot.{InputsView}
use Rattle.boot_inputs.specs.declared.fault.Fault.{Fault}
use Rattle.boot_inputs.specs.declared.input.Input.{Input}
use Rattle.boot_inputs.specs.declared.input.Input.TheVariants as inputs
use Rattle.boot_inputs.specs.Reason.{NoInputs, InputsReason}
use Rattle.program_end.specs.Fetches.{FitsError, ReachesFile}
use Rattle.program_end.specs.Program.{FileContents}
use Rattle.program_end.specs.declared.failure.NoResult.TheVariants as errors
use Rattle.program_end.specs.declared.failure.Reason.TheVariants as reasons
use Rattle.boot_inputs.specs.Claims.{claims_limit, claims_of, claims_of_file, claims_of_optional_file, claims_or_fault}
use Rattle.boot_inputs.specs.Faults.{FaultsHaveErrorLines, HasErrorLine}
use Rattle.boot_inputs.specs.Input.{input_place}
use Rattle.boot_inputs.specs.Inputs.{FileNames, inputs_after_files, inputs_of}
use Rattle.boot_inputs.specs.Reading.{IsErrorBy, are_read_later}
use Rattle.boot_inputs.specs.WithClaims.{InputsWithClaims, files_after_claims, files_before_claims, inputs_with_claims_of, with_claims, without_claims}
use Rattle.boot_inputs.proofs.ClaimsLaws.{optional_other}
use Rattle.boot_inputs.proofs.WantLaws.{RefusedOfBytes, given_other, then_if}
use Rattle.boot_inputs.proofs.WithoutEfiLaws.{inputs_after_files-append}
use Rattle.boot_inputs.proofs.ReadingLaws.{if_both, if_some, later_comes, read_comes, then_comes}

-- an error at this place or before it fits all steps if every later step comes to that place
then_fits : {A B : Type 0} (error : NoInputs) (place : ℕ) (x : Result A InputsReason) (f : A → Result B InputsReason)
    → IsErrorBy place error → FitsError input_place error x
    → ((input : Input) → input_place input ≤ place → (a : A) → ReachesFile input_place input (f a))
    → FitsError input_place error (x >>= f)
then_fits (errors.Reason reasons.Usage) place x f by fits reach = absurd by
then_fits (errors.Reason (reasons.Unread input)) place x f by fits reach = then_comes input x f fits (reach input by)
then_fits (errors.Reason (reasons.Faulty input fault)) place x f by fits reach = rw fits refl
then_fits (errors.Reason (reasons.Stopped cause)) place x f by fits reach = absurd by
then_fits errors.Memory place x f by fits reach = tt

-- the last files are read after the early claims
are_late : (input : Input) → input_place input ≤ 5 → IsTrue (are_read_later input files_after_claims)
are_late = grind arith

late_comes : (held : FileContents) (named : FileNames) (early : InputsView) (lines : List Line) (input : Input) → input_place input ≤ 5
    → ReachesFile input_place input (inputs_after_files held named files_after_claims early >>= λ given. Ok (with_claims given lines))
late_comes held named early lines input below =
    then_comes input (inputs_after_files held named files_after_claims early) (λ given. Ok (with_claims given lines))
    (later_comes input held named files_after_claims (are_late input below) early) (λ given. tt)

optional_comes : (held : FileContents) (name : Option (List ℕ)) (input : Input) → input_place input ≤ 5
    → ReachesFile input_place input (claims_of_optional_file held name)
optional_comes held None input below = tt
optional_comes held (Some name) input below = read_comes input inputs.Claims claims_limit claims_or_fault (held name) below

claims_come : (held : FileContents) (named : FileNames) (input : Input) → input_place input ≤ 4 → (early : InputsView)
    → ReachesFile input_place input (claims_of_file held named >>= λ lines.
    inputs_after_files held named files_after_claims early >>= λ given. Ok (with_claims given lines))
claims_come held named input below early =
    then_comes input (claims_of_file held named) _ (optional_comes held (named inputs.Claims) input (omega (arith, below)))
    (λ lines. late_comes held named early lines input (omega (arith, below)))

-- the steps after a step that gives a value
after_value : {A B : Type 0} (error : NoInputs) (x : Result A InputsReason) (f : A → Result B InputsReason) (a : A) → x ≡ Ok a
    → FitsError input_place error (f a) → FitsError input_place error (x >>= f)
after_value error x f a is fits = rw is fits

module _ (holds : Option FileContents) (named : FileNames) (begun : InputsView) (error : NoInputs) where
  -- an error at a file before the early claims
  pub early_fits : IsErrorBy 4 error
      → IfSome holds (λ held. FitsError input_place error (inputs_after_files held named files_before_claims begun))
      → IfSome holds (λ held. FitsError input_place error (inputs_with_claims_of held named begun))
  early_fits by fits = if_some holds _ _ (λ held fits.
      then_fits error 4 (inputs_after_files held named files_before_claims begun) _ by fits (claims_come held named)) fits

  -- an error at the early claims
  pub claims_fit : (early : InputsView) → IsErrorBy 5 error
      → IfSome holds (λ held. inputs_after_files held named files_before_claims begun ≡ Ok early)
      → IfSome holds (λ held. FitsError input_place error (claims_of_file held named))
      → IfSome holds (λ held. FitsError input_place error (inputs_with_claims_of held named begun))
  claims_fit early by first fits = if_both holds _ _ _ (λ held is fits.
      after_value error (inputs_after_files held named files_before_claims begun) _ early is
      (then_fits error 5 (claims_of_file held named) _ by fits (λ input below lines. late_comes held named early lines input below)))
      first fits

  -- an error at a file after the early claims
  pub late_fits : (early : InputsView) (lines : List Line) → IsErrorBy 8 error
      → IfSome holds (λ held. inputs_after_files held named files_before_claims begun ≡ Ok early)
      → IfSome holds (λ held. claims_of_file held named ≡ Ok lines)
      → IfSome holds (λ held. FitsError input_place error (inputs_after_files held named files_after_claims early))
      → IfSome holds (λ held. FitsError input_place error (inputs_with_claims_of held named begun))
  late_fits early lines by first second fits =
      if_both holds _ _ _ (λ held is fits.
      after_value error (inputs_after_files held named files_before_claims begun) _ early is fits) first
      (if_both holds _ _ (λ held. FitsError input_place error (claims_of_file held named >>= λ lines.
      inputs_after_files held named files_after_claims early >>= λ given. Ok (with_claims given lines)))
      (λ held is fits.
      after_value error (claims_of_file held named) _ lines is
      (then_fits error 8 (inputs_after_files held named files_after_claims early) (λ given. Ok (with_claims given lines)) by fits
      (λ input below given. tt))) second fits)

-- a refusal of any of the files is a fault of its bytes
pub with_claims_other : All FaultsHaveErrorLines files_before_claims → All FaultsHaveErrorLines files_after_claims
    → ((bytes : List ℕ) → ¬ IsErrOf (claims_of bytes) script.Memory)
    → (held : FileContents) (named : FileNames) (begun : InputsView) (input : Input) (fault : Fault)
    → inputs_with_claims_of held named begun ≡ Err (reasons.Faulty input fault) → HasErrorLine fault
with_claims_other before after lines held named begun input fault is = rw is at
    (then_if RefusedOfBytes (inputs_after_files held named files_before_claims begun)
    (λ early. claims_of_file held named >>= λ lines. inputs_after_files held named files_after_claims early
    >>= λ given. Ok (with_claims given lines)) (given_other held named files_before_claims before begun)
    (λ early. then_if RefusedOfBytes (claims_of_file held named)
    (λ lines. inputs_after_files held named files_after_claims early >>= λ given. Ok (with_claims given lines))
    (optional_other held (named inputs.Claims) lines)
    (λ lines. then_if RefusedOfBytes (inputs_after_files held named files_after_claims early) (λ given. Ok (with_claims given lines))
    (given_other held named files_after_claims after early) (λ given. tt))))

then_then : {A B C E : Type 0} (x : Result A E) (f : A → Result B E) (g : B → Result C E) → (x >>= λ a. f a >>= g) ≡ ((x >>= f) >>= g)
then_then (Ok a) f g = refl
then_then (Err error) f g = refl

-- without a name for the early claims, all files are read as without early claims
pub unnamed_is_without : (held : FileContents) (named : FileNames) (begun : InputsView) → named inputs.Claims ≡ None
    → inputs_with_claims_of held named begun ≡ without_claims (inputs_of held named begun)
unnamed_is_without held named begun none =
    ap (λ (name : Option (List ℕ)). inputs_after_files held named files_before_claims begun >>= λ early.
    claims_of_optional_file held name >>= λ lines. inputs_after_files held named files_after_claims early
    >>= λ given. Ok (with_claims given lines)) none
    ∙ then_then (inputs_after_files held named files_before_claims begun) (inputs_after_files held named files_after_claims)
    (λ given. Ok (with_claims given []))
    ∙ ap without_claims
    (sym (inputs_after_files-append held named files_before_claims files_after_claims begun))
