-- A file that can't be read is the one that the outcome names: reading fails only if no lent file
-- has the name. The laws hold for each of the two programs.
use Rattle.std.proofs.Common.{◌≡◌, ℕ, ◌<◌, ◌≤◌, List, [], ◌∷◌, Option, Some, None, Result, Ok, Err, refl, inl, inr, ap, arith, sym, ◌∙◌}
use Rattle.std.specs.Prelude.{◌⊎◌}
use Rattle.bm_base.specs.ResultSteps.{◌>>=◌}
use Rattle.bm_io.specs.MemFiles.{file_bytes}
use Rattle.boot_inputs.specs.Claims.{claims_of_file, claims_of_optional_file, claims_or_fault, claims_limit}
use Rattle.boot_inputs.specs.declared.fault.Fault.{Fault}
use Rattle.boot_inputs.specs.declared.input.Input.{Input}
use Rattle.boot_inputs.specs.declared.input.Input.TheVariants as inputs
use Rattle.boot_inputs.specs.Reason.{NoInputs, InputsReason}
use Rattle.boot_inputs.specs.File.{File}
use Rattle.boot_inputs.specs.Input.{input_place}
use Rattle.boot_inputs.specs.Inputs.{FileNames, inputs_after_file, inputs_after_files, input_files, inputs_of, inputs_after_named_file, answer_or_faulty_file, step_or_unread_file, inputs_after_optional_file, within_limit}
use Rattle.boot_inputs.specs.WithClaims.{InputsWithClaims, files_after_claims, files_before_claims, inputs_with_claims_of, with_claims}
use Rattle.script_reader.specs.declared.act.Line.{Line}
use Rattle.program_end.specs.Program.{FileContents}
use Rattle.boot_model.specs.declared.stop.Cause.{Cause}
use Rattle.boot_model.specs.Boot.{InputsView}
use Rattle.program_end.specs.declared.failure.NoResult.TheVariants as errors
use Rattle.program_end.specs.declared.failure.Reason.TheVariants as reasons
use Rattle.program_end.specs.Causes.{ErrorHasCause, FaultsRose, InputFaultsRose}
use Rattle.program_end.specs.Fetches.{FitsError, ReachesFile}
use Rattle.program_run.specs.Bootmem.{reports_program}
use Rattle.program_run.specs.Outcome.{bootmem61_outcome, bootmem_outcome, read_boot_inputs, read_boot_inputs61, reports_of_list61, reports_on_boot, reports_on_boot61, with_made_table, with_made_table61}
use Rattle.program_args.specs.Args.{BootmemArgsView, ProgramArgsView, named61}
use Rattle.bootmem_c.specs.Boots.{HasOutcomeReason}
use Rattle.bootmem_c.specs.Fetches.{LentFilesView, faults_at}
use Rattle.bootmem_c.proofs.FetchLaws.{rose_unheld}
use Rattle.bootmem_c.proofs.NameLaws.{HasNoClaims}

-- if the step fails, its reason names an input before the place `bound` in the order of reading
abbrev FailsBefore : {A : Type 0} → ℕ → Result A InputsReason → Type 0
FailsBefore bound (Ok inputs) = Unit {0}
FailsBefore bound (Err reasons.Usage) = ⊥
FailsBefore bound (Err (reasons.Unread other)) = input_place other < bound
FailsBefore bound (Err (reasons.Faulty other fault)) = input_place other < bound
FailsBefore bound (Err (reasons.Stopped why)) = ⊥

-- if reading reaches the file of `input` and can't read it, it ends with that reason
abbrev EndsUnread : {A : Type 0} → Input → Result A InputsReason → Type 0
EndsUnread input said = ReachesFile input_place input said → said ≡ Err (reasons.Unread input)

-- a step before the file of `input` changes nothing of that
after : {A B : Type 0} (input : Input) (step : Result A InputsReason) (rest : A → Result B InputsReason)
    → FailsBefore (input_place input) step → ((inputs : A) → EndsUnread input (rest inputs)) → EndsUnread input (step >>= rest)
after input (Ok inputs) rest fails goes comes = goes inputs comes
after input (Err reasons.Usage) rest fails goes comes = absurd fails
after input (Err (reasons.Unread other)) rest fails goes comes = absurd (omega (arith, fails, comes))
after input (Err (reasons.Faulty other fault)) rest fails goes comes = absurd (omega (arith, fails, comes))
after input (Err (reasons.Stopped why)) rest fails goes comes = absurd fails

-- nor does a step after it
within : {A B : Type 0} (input : Input) (step : Result A InputsReason) (rest : A → Result B InputsReason) → EndsUnread input step
    → EndsUnread input (step >>= rest)
within input (Ok inputs) rest goes comes = absurd (cc (goes tt))
within {A = A} input (Err reason) rest goes comes = ap (λ (s : Result A InputsReason). s >>= rest) (goes comes)

-- two steps that fail before a place fail before it together
both_before : {A B : Type 0} (bound : ℕ) (step : Result A InputsReason) (rest : A → Result B InputsReason) → FailsBefore bound step
    → ((inputs : A) → FailsBefore bound (rest inputs)) → FailsBefore bound (step >>= rest)
both_before bound (Ok inputs) rest first second = second inputs
both_before bound (Err reasons.Usage) rest first second = first
both_before bound (Err (reasons.Unread other)) rest first second = first
both_before bound (Err (reasons.Faulty other fault)) rest first second = first
both_before bound (Err (reasons.Stopped why)) rest first second = first

faulty_before : {A : Type 0} (input : Input) (bound : ℕ) (answer : Result A Fault) → input_place input < bound
    → FailsBefore bound (answer_or_faulty_file input answer)
faulty_before input bound (Ok inputs) below = tt
faulty_before input bound (Err fault) below = below

unread_before : {A : Type 0} (held : Option (List ℕ)) (input : Input) (bound : ℕ) (step : List ℕ → Result A InputsReason)
    → input_place input < bound → ((bytes : List ℕ) → FailsBefore bound (step bytes))
    → FailsBefore bound (step_or_unread_file input held step)
unread_before None input bound step below is = below
unread_before (Some bytes) input bound step below is = is bytes

file_before : (held : FileContents) (file : File) (inputs : InputsView) (bound : ℕ) (name : Option (List ℕ))
    → input_place file.input < bound
    → FailsBefore bound (inputs_after_optional_file held file inputs name)
file_before held file inputs bound None below = tt
file_before held file inputs bound (Some name) below =
    unread_before (held name) file.input bound _ below
    (λ bytes. faulty_before file.input bound (within_limit file.limit bytes >>= λ read. file.says read inputs) below)

-- each file of the list comes before the place
abbrev AreBefore : ℕ → List File → Type 0
AreBefore bound [] = Unit {0}
AreBefore bound (file ∷ files) = (input_place file.input < bound) × AreBefore bound files

files_before : (held : FileContents) (named : FileNames) (bound : ℕ) (files : List File) (inputs : InputsView) → AreBefore bound files
    → FailsBefore bound (inputs_after_files held named files inputs)
files_before held named bound [] inputs all = tt
files_before held named bound (file ∷ files) inputs all =
    both_before bound (inputs_after_file held named file inputs) (inputs_after_files held named files)
    (file_before held file inputs bound (named file.input) all.0) (λ inputs. files_before held named bound files inputs all.1)

claims_before : (held : FileContents) (bound : ℕ) (name : Option (List ℕ)) → 5 < bound
    → FailsBefore bound (claims_of_optional_file held name)
claims_before held bound None below = tt
claims_before held bound (Some name) below =
    unread_before (held name) inputs.Claims bound _ below
    (λ bytes. faulty_before inputs.Claims bound (within_limit claims_limit bytes >>= claims_or_fault) below)

-- the input is in the list, and the files before it in the list come earlier in the order of
-- reading
abbrev Has : Input → List File → Type 0
Has input [] = ⊥
Has input (file ∷ files) = (file.input ≡ input) ⊎ ((input_place file.input < input_place input) × Has input files)

unread_at : (held : FileContents) (named : FileNames) (input : Input) (name : List ℕ) → named input ≡ Some name → held name ≡ None
    → (files : List File) (inputs : InputsView) → Has input files → EndsUnread input (inputs_after_files held named files inputs)
unread_at held named input name is none [] inputs has comes = absurd has
unread_at held named input name is none (file ∷ files) inputs (inl same) comes =
    let own : named file.input ≡ Some name = ap named same ∙ is in
    let unread : inputs_after_named_file held file inputs name ≡ Err (reasons.Unread file.input) = rw none refl in
    let step : inputs_after_file held named file inputs ≡ Err (reasons.Unread file.input) =
    ap (inputs_after_optional_file held file inputs) own ∙ unread in
    ap (λ (s : Result InputsView InputsReason). s >>= inputs_after_files held named files) step
    ∙ ap (λ (i : Input). Err (reasons.Unread i)) same
unread_at held named input name is none (file ∷ files) inputs (inr more) comes =
    after input (inputs_after_file held named file inputs) (inputs_after_files held named files)
    (file_before held file inputs (input_place input) (named file.input) more.0)
    (λ inputs. unread_at held named input name is none files inputs more.1) comes

-- if no file has the name of an input, and the outcome reaches this input, the outcome is that its
-- file can't be read; `named` gives the names of the files
abbrev pub NamesUnread : {W : Type 0} → (W → FileNames) → FileContents → Option W → Result (List ℕ) InputsReason → Type 0
NamesUnread named held None said = Unit {0}
NamesUnread named held (Some args) said =
    (input : Input) (name : List ℕ) → named args input ≡ Some name → held name ≡ None → EndsUnread input said

-- each input that a command line of `bootmem` names is in the list
has : (named : FileNames) (name : List ℕ) → named inputs.Claims ≡ None → (input : Input) → named input ≡ Some name → Has input input_files
has named name own inputs.ZeroPage is = grind arith
has named name own inputs.Extension is = grind arith
has named name own inputs.CommandLine is = grind arith
has named name own inputs.Srat is = grind arith
has named name own inputs.Script is = grind arith
has named name own inputs.Claims is = let clash : None ≡ Some name = sym own ∙ is in absurd (cc clash)
has named name own inputs.Pages is = grind arith
has named name own inputs.Slit is = grind arith
has named name own inputs.Efi is = grind arith

pub bootmem_names_unread : (held : FileContents) (accepted : Option BootmemArgsView) → HasNoClaims accepted
    → NamesUnread (λ args. args.named) held accepted (bootmem_outcome accepted held)
bootmem_names_unread held None own = tt
bootmem_names_unread held (Some args) own = λ input name is none.
    within input (read_boot_inputs held args) (reports_on_boot args.reports)
    (within input (inputs_of held args.named args.begun) (λ inputs. Ok (with_made_table args.made inputs))
    (unread_at held args.named input name is none input_files args.begun (has args.named name own input is)))

-- the early claims are read after some files and before the others
module _ (held : FileContents) (named : FileNames) (begun : InputsView) (name : List ℕ) (none : held name ≡ None) where
  rest_of_claims : InputsView → List Line → Result InputsWithClaims InputsReason
  rest_of_claims early lines = inputs_after_files held named files_after_claims early >>= λ read. Ok (with_claims read lines)

  rest_of_files : InputsView → Result InputsWithClaims InputsReason
  rest_of_files early = claims_of_file held named >>= rest_of_claims early

  file_of_first : (input : Input) → named input ≡ Some name → Has input files_before_claims
      → EndsUnread input (inputs_with_claims_of held named begun)
  unfolding rest_of_files rest_of_claims
  file_of_first input is has =
      within input (inputs_after_files held named files_before_claims begun) rest_of_files
      (unread_at held named input name is none files_before_claims begun has)

  file_of_claims : named inputs.Claims ≡ Some name → EndsUnread inputs.Claims (inputs_with_claims_of held named begun)
  unfolding rest_of_files rest_of_claims
  file_of_claims is =
      let unread : claims_of_file held named ≡ Err (reasons.Unread inputs.Claims) = rw (is, none) refl in
      after inputs.Claims (inputs_after_files held named files_before_claims begun) rest_of_files
      (files_before held named 5 files_before_claims begun (grind arith))
      (λ early. within inputs.Claims (claims_of_file held named) (rest_of_claims early) (λ comes. unread))

  file_of_last : (input : Input) → named input ≡ Some name → 5 < input_place input → Has input files_after_claims
      → AreBefore (input_place input) files_before_claims → EndsUnread input (inputs_with_claims_of held named begun)
  unfolding rest_of_files rest_of_claims
  file_of_last input is last has first =
      after input (inputs_after_files held named files_before_claims begun) rest_of_files
      (files_before held named (input_place input) files_before_claims begun first)
      (λ early. after input (claims_of_file held named) (rest_of_claims early)
      (claims_before held (input_place input) (named inputs.Claims) last)
      (λ lines. within input (inputs_after_files held named files_after_claims early) (λ inputs. Ok (with_claims inputs lines))
      (unread_at held named input name is none files_after_claims early has)))

  each_file : (input : Input) → named input ≡ Some name → EndsUnread input (inputs_with_claims_of held named begun)
  each_file inputs.ZeroPage is = file_of_first inputs.ZeroPage is (grind arith)
  each_file inputs.Extension is = file_of_first inputs.Extension is (grind arith)
  each_file inputs.CommandLine is = file_of_first inputs.CommandLine is (grind arith)
  each_file inputs.Srat is = file_of_first inputs.Srat is (grind arith)
  each_file inputs.Script is = file_of_first inputs.Script is (grind arith)
  each_file inputs.Claims is = file_of_claims is
  each_file inputs.Pages is = file_of_last inputs.Pages is (omega arith) (grind arith) (grind arith)
  each_file inputs.Slit is = file_of_last inputs.Slit is (omega arith) (grind arith) (grind arith)
  each_file inputs.Efi is = file_of_last inputs.Efi is (omega arith) (grind arith) (grind arith)

pub bootmem61_names_unread : (held : FileContents) (accepted : Option ProgramArgsView)
    → NamesUnread named61 held accepted (bootmem61_outcome accepted held)
bootmem61_names_unread held None = tt
bootmem61_names_unread held (Some args) = λ input name is none.
    within input (read_boot_inputs61 held args) (reports_on_boot61 (reports_of_list61 args.list))
    (within input (inputs_with_claims_of held (named61 args) args.begun) (λ read. Ok (with_made_table61 args.made read))
    (each_file held (named61 args) args.begun name none input is))

-- `named` gives the names of a program's files, and `said` is its outcome
module _ {W : Type 0} (named : W → FileNames) (old new : LentFilesView) (said : Result (List ℕ) InputsReason) where
  -- if the counter of a name rose, no lent file has the name
  risen_file_is_not_lent : (name : Option (List ℕ)) → FaultsRose (faults_at old) (faults_at new) name
      → (n : List ℕ) × (name ≡ Some n) × (file_bytes old.files n ≡ None)
  risen_file_is_not_lent None rose = absurd rose
  risen_file_is_not_lent (Some name) rose = (name, refl, rose_unheld old new name rose)

  unread_is_said : (accepted : Option W) (input : Input) → NamesUnread named (file_bytes old.files) accepted said
      → InputFaultsRose (reports_program named) (faults_at old) (faults_at new) accepted input → EndsUnread input said
  unread_is_said None input names rose comes = absurd rose
  unread_is_said (Some args) input names rose comes =
      let found = risen_file_is_not_lent (named args input) rose in
      names input found.0 found.1 found.2 comes

  -- with lent files, the error is that of the outcome
  pub fails_as : (accepted : Option W) (error : NoInputs) → NamesUnread named (file_bytes old.files) accepted said
      → ErrorHasCause (reports_program named) (faults_at old) (faults_at new) accepted error → FitsError input_place error said
      → HasOutcomeReason error said
  fails_as accepted (errors.Reason reasons.Usage) names cause fits = fits
  fails_as accepted (errors.Reason (reasons.Unread input)) names cause fits = unread_is_said accepted input names cause fits
  fails_as accepted (errors.Reason (reasons.Faulty input fault)) names cause fits = fits
  fails_as accepted (errors.Reason (reasons.Stopped why)) names cause fits = fits
  fails_as accepted errors.Memory names cause fits = tt
