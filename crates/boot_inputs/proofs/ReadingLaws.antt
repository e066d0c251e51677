-- Facts about a list of files, from those about its first file and those about the rest. The files
-- are in the order of reading, so before a later file is read, every earlier file was.
use Rattle.std.proofs.Common.{◌≡◌, ℕ, ◌<◌, ◌≤◌, nat_lt, nat_le, List, [], ◌∷◌, Option, Some, None, Result, Ok, Err, ◌∙◌, le_trans, arith}
use Rattle.std.specs.Prelude.{IfErr, IfSome, IsErrAnd, IsNone, IsOk, IsTrue}
use Rattle.std.proofs.lemmas.Bool.{and_parts, leb-true, ltb-true}
use Rattle.bm_base.specs.ResultSteps.{◌>>=◌}
use Rattle.bm_io.specs.declared.reading.Files.{Ghosts as FilesOf}
use Rattle.boot_model.specs.Boot.{InputsView}
use Rattle.boot_inputs.specs.declared.fault.Fault.{Fault}
use Rattle.boot_inputs.specs.declared.input.Input.{Input}
use Rattle.boot_inputs.specs.Reason.{NoInputs, InputsReason}
use Rattle.program_end.specs.Causes.{IsErrorOfInput, IsFileError}
use Rattle.program_end.specs.declared.failure.NoResult.TheVariants as errors
use Rattle.program_end.specs.declared.failure.Reason.TheVariants as reasons
use Rattle.program_end.specs.Fetches.{Fetches, FitsError, ReachesFile}
use Rattle.boot_inputs.specs.File.{File}
use Rattle.boot_inputs.specs.Input.{input_place}
use Rattle.boot_inputs.specs.Inputs.{FileNames, inputs_after_file, inputs_after_files, answer_or_faulty_file, step_or_unread_file, inputs_after_optional_file, within_limit}
use Rattle.program_end.specs.Program.{FileContents}
use Rattle.boot_inputs.specs.Reading.{AreRead, IsErrorBy, are_read_up_to, are_read_later, are_in_reading_order}

-- if reading reached `other`, it reached each input that isn't after it
faulty_comes : {A : Type 0} (input other : Input) (x : Result A Fault) → input_place input ≤ input_place other
    → ReachesFile input_place input (answer_or_faulty_file other x)
faulty_comes input other (Ok given) below = tt
faulty_comes input other (Err fault) below = below

pub read_comes : {A : Type 0} (input other : Input) (limit : ℕ) (read : List ℕ → Result A Fault) (held : Option (List ℕ))
    → input_place input ≤ input_place other
    → ReachesFile input_place input (step_or_unread_file other held (λ bytes.
    answer_or_faulty_file other (within_limit limit bytes >>= read)))
read_comes input other limit read None below = below
read_comes input other limit read (Some bytes) below = faulty_comes input other _ below

step_comes : (input : Input) (held : FileContents) (file : File) (given : InputsView) (name : Option (List ℕ))
    → input_place input ≤ input_place file.input
    → ReachesFile input_place input (inputs_after_optional_file held file given name)
step_comes input held file given None below = tt
step_comes input held file given (Some name) below =
    read_comes input file.input file.limit (λ read. file.says read given) (held name) below

pub then_comes : {A B : Type 0} (input : Input) (x : Result A InputsReason) (f : A → Result B InputsReason)
    → ReachesFile input_place input x
    → ((a : A) → ReachesFile input_place input (f a)) → ReachesFile input_place input (x >>= f)
then_comes input x f first rest = grind (arith, rest)

-- if reading reached a file after `input`, it reached `input`
pub later_comes : (input : Input) (held : FileContents) (named : FileNames) (files : List File) → IsTrue (are_read_later input files)
    → (given : InputsView)
    → ReachesFile input_place input (inputs_after_files held named files given)
later_comes input held named [] after given = tt
later_comes input held named (file ∷ files) after given =
    let parts = and_parts (nat_lt (input_place input) (input_place file.input)) (are_read_later input files) after in
    let below : input_place input < input_place file.input = ltb-true _ _ parts.0 in
    then_comes input (inputs_after_file held named file given) (inputs_after_files held named files)
    (step_comes input held file given (named file.input) (omega (arith, below))) (later_comes input held named files parts.1)

-- an error at the first file is one that reading the whole list may end with
first_fits : (error : NoInputs) (input : Input) (x : Result InputsView InputsReason) (f : InputsView → Result InputsView InputsReason)
    → IsErrorOfInput input error → FitsError input_place error x → ((a : InputsView) → ReachesFile input_place input (f a))
    → FitsError input_place error (x >>= f)
first_fits error input x f own fits rest = grind (arith, rest)

-- what follows from the files that an object has, if it is known which files it has
pub if_some : (o : Option FileContents) (P Q : FileContents → Type 0) → ((held : FileContents) → P held → Q held) → IfSome o P → IfSome o Q
if_some o P Q then is = grind (arith, then)

pub if_both : (o : Option FileContents) (P Q R : FileContents → Type 0) → ((held : FileContents) → P held → Q held → R held) → IfSome o P
    → IfSome o Q → IfSome o R
if_both o P Q R then first second = grind (arith, then)

-- a result whose error `?` returns is that error
pub error_is : {T E : Type 0} → (answer : Result T E) → (error : E) → IsErrAnd answer (λ e. e ≡ error) → answer ≡ Err error
error_is answer error told = grind arith

-- an error of one file, which is read at this place or before it
pub own_by : (error : NoInputs) (input : Input) (place : ℕ) → IsErrorOfInput input error → input_place input ≤ place → IsErrorBy place error
own_by (errors.Reason reasons.Usage) input place own below = own
own_by (errors.Reason (reasons.Unread other)) input place own below = rw own below
own_by (errors.Reason (reasons.Faulty other fault)) input place own below = rw own below
own_by (errors.Reason (reasons.Stopped cause)) input place own below = own
own_by errors.Memory input place own below = tt

first_by : (error : NoInputs) (file : File) (files : List File) (place : ℕ) → IsErrorOfInput file.input error
    → IsTrue (are_read_up_to place (file ∷ files)) → IsErrorBy place error
first_by error file files place own by =
    own_by error file.input place own
    (leb-true _ _ (and_parts (nat_le (input_place file.input) place) (are_read_up_to place files) by).0)

-- a file is reported unread only if the count of its faults rose, and before it no count fell
pub cause_after : {A : Type 0} (before mid now : List ℕ → ℕ) (named : FileNames) (answer : Result A NoInputs)
    → ((any : List ℕ) → before any ≤ mid any) → IfErr answer (IsFileError mid now named) → IfErr answer (IsFileError before now named)
cause_after before mid now named answer stay cause = grind arith

-- what is known after one file was read
pub record IsAdded {F : Type 0} (kind : FilesOf F) (names : FileNames) (file : File) (old new : F) (before after : InputsView)
    (result : Result (Unit {0}) NoInputs) : Type 0 where
  pub fetches : IfSome (kind.holds old) (λ held. Fetches input_place (λ done. after) result (inputs_after_file held names file before))
  pub cause : IfErr result (IsFileError (kind.faults old) (kind.faults new) names)
  pub own : IfErr result (IsErrorOfInput file.input)
  pub unnamed : IsNone (names file.input) → IsOk result
  pub kept : kind.holds new ≡ kind.holds old
  pub faults_stay : (any : List ℕ) → kind.faults old any ≤ kind.faults new any

module _ {F : Type 0} (kind : FilesOf F) (names : FileNames) (file : File) (files : List File) where
  -- reading stops: the first file is refused, or the program is out of memory
  pub stopped : (old new : F) (before after last : InputsView) (error : NoInputs) → IsTrue (are_in_reading_order (file ∷ files))
      → IsAdded kind names file old new before after (Err error) → AreRead kind names (file ∷ files) old new before last (Err error)
  stopped old new before after last error ascends added =
      let parts = and_parts (are_read_later file.input files) (are_in_reading_order files) ascends in
      record {
        fetches = if_some (kind.holds old) _ _
            (λ held fits.
            first_fits error file.input (inputs_after_file held names file before) (inputs_after_files held names files) added.own fits
            (later_comes file.input held names files parts.0)) added.fetches;
        cause = added.cause;
        own = λ place by. first_by error file files place added.own by;
        unnamed = λ none. added.unnamed (none file.input);
        kept = added.kept;
        faults_stay = added.faults_stay;
      }

  -- reading goes on: the first file was read, and so were the rest
  pub gone_on : (old mid new : F) (before between after : InputsView) (result : Result (Unit {0}) NoInputs)
      → IsAdded kind names file old mid before between (Ok tt) → AreRead kind names files mid new between after result
      → AreRead kind names (file ∷ files) old new before after result
  gone_on old mid new before between after result added rest = record {
    fetches = if_both (kind.holds old) _ _ _ (λ held is fetches. rw is fetches) added.fetches (rw added.kept at rest.fetches);
    cause = cause_after (kind.faults old) (kind.faults mid) (kind.faults new) names result added.faults_stay rest.cause;
    own = λ place by.
        rest.own place (and_parts (nat_le (input_place file.input) place) (are_read_up_to place files) by).1;
    unnamed = rest.unnamed;
    kept = rest.kept ∙ added.kept;
    faults_stay = λ any. le_trans (added.faults_stay any) (rest.faults_stay any);
  }
