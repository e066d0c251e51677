-- How a boot with the words and files of a call ends, compared with the outcome. The laws on errors
-- hold for each of the two programs.
use Rattle.std.proofs.Common.{◌≡◌, ◌≢◌, ℕ, List, Option, Some, None, Result, Ok, Err, refl, subst, arith}
use Rattle.std.specs.Prelude.{IfErr}
use Rattle.bm_base.specs.ResultSteps.{◌>>=◌, map_error}
use Rattle.bm_io.specs.MemFiles.{MemFileView, file_bytes}
use Rattle.boot_inputs.specs.Input.{input_place}
use Rattle.boot_inputs.specs.Inputs.{FileNames}
use Rattle.boot_inputs.specs.Reason.{NoInputs, InputsReason}
use Rattle.boot_inputs.specs.WithClaims.{InputsWithClaims}
use Rattle.program_end.specs.Causes.{ErrorHasCause, IsFileError}
use Rattle.program_end.specs.Fetches.{FitsError}
use Rattle.program_end.specs.Program.{FileContents}
use Rattle.boot_model.specs.declared.stop.Cause.{Cause}
use Rattle.boot_model.specs.declared.stop.Stop.{Stop}
use Rattle.boot_model.specs.Boot.{InputsView, BootedView, whole_boot, whole_boot_with, no_extra}
use Rattle.boot_model.specs.Stop.{cause_of, stop_of}
use Rattle.conservation.proofs.HeadlineLaws.{all_touched_or_in_one, blocks_maximal, blocks_whole, no_other_in_a_block}
use Rattle.program_run.specs.Outcome.{linux_extra, read_boot_inputs, read_boot_inputs61, value_or_stopped}
use Rattle.program_run.specs.Bootmem.{reports_program}
use Rattle.program_run.specs.Stops.{reason_by_stop, reason_by_cause}
use Rattle.program_run.proofs.BootedLaws.{told_is}
use Rattle.program_args.specs.Args.{BootmemArgsView, ProgramArgsView}
use Rattle.bootmem_c.specs.Boots.{HasOutcomeReason, IsBoot, IsBoot61}
use Rattle.bootmem_c.specs.Fetches.{LentFilesView, faults_at}
use Rattle.bootmem_c.proofs.ExactLaws.{NamesUnread, fails_as}
use Rattle.conservation.proofs.ToldLaws.{own_told}

-- the results of the boot are those of the boot that the call's words and files determine
pub is_boot : (files lent : List MemFileView) (args : BootmemArgsView) (inputs : InputsView) (booted : BootedView) → files ≡ lent
    → read_boot_inputs (file_bytes files) args ≡ Ok inputs → map_error stop_of (whole_boot inputs) ≡ Ok booted
    → IsBoot (Some args) (file_bytes lent) booted
is_boot files lent args inputs booted same was_read boots =
    let is : whole_boot inputs ≡ Ok booted = told_is (whole_boot inputs) booted boots in
    record {
      args = args;
      inputs = inputs;
      args_read = refl;
      inputs_read = subst (λ (f : List MemFileView). read_boot_inputs (file_bytes f) args ≡ Ok inputs) same was_read;
      boots = is;
      each = all_touched_or_in_one no_extra inputs booted (own_told booted inputs is);
      others = no_other_in_a_block no_extra inputs booted (own_told booted inputs is);
      whole = blocks_whole no_extra inputs booted (own_told booted inputs is);
      maximal = blocks_maximal no_extra inputs booted (own_told booted inputs is);
    }

-- the same for the boot by the rules of Linux 6.1
pub is_boot61 : (files lent : List MemFileView) (args : ProgramArgsView) (read : InputsWithClaims) (booted : BootedView) → files ≡ lent
    → read_boot_inputs61 (file_bytes files) args ≡ Ok read
    → map_error stop_of (whole_boot_with (linux_extra read.claims) read.inputs) ≡ Ok booted
    → IsBoot61 (Some args) (file_bytes lent) booted
is_boot61 files lent args read booted same was_read boots =
    let extra = linux_extra read.claims in
    let is : whole_boot_with extra read.inputs ≡ Ok booted = told_is (whole_boot_with extra read.inputs) booted boots in
    record {
      args = args;
      read = read;
      args_read = refl;
      inputs_read = subst (λ (f : List MemFileView). read_boot_inputs61 (file_bytes f) args ≡ Ok read) same was_read;
      boots = is;
      each = all_touched_or_in_one extra read.inputs booted is;
      others = no_other_in_a_block extra read.inputs booted is;
      whole = blocks_whole extra read.inputs booted is;
      maximal = blocks_maximal extra read.inputs booted is;
    }

-- an error of the files fits the outcome, since the boot adds only causes of a stop
fits_boot : {A T : Type 0} (error : NoInputs) (inputs : A) (answer : Result T Cause) (text : T → List ℕ) (said : Result A InputsReason)
    → said ≡ Ok inputs → FitsError input_place error said
    → FitsError input_place error (value_or_stopped answer >>= λ booted. Ok (text booted))
fits_boot error inputs answer text said is fits = grind arith

fits_after_boot : {A T : Type 0} (error : NoInputs) (said : Result A InputsReason) (boot : A → Result T Cause) (text : T → List ℕ)
    → FitsError input_place error said
    → FitsError input_place error (said >>= λ inputs. value_or_stopped (boot inputs) >>= λ booted. Ok (text booted))
fits_after_boot error (Ok inputs) boot text fits = fits_boot error inputs (boot inputs) text (Ok inputs) refl fits
fits_after_boot error (Err reason) boot text fits = grind arith

-- an error of the files has a cause
of_words : {W : Type 0} (named : W → FileNames) (old new : LentFilesView) (args : W) (error : NoInputs)
    → IsFileError (faults_at old) (faults_at new) (named args) error
    → ErrorHasCause (reports_program named) (faults_at old) (faults_at new) (Some args) error
of_words named old new args error cause = grind arith

-- An error of the files is the one that the outcome has. `named` gives the names of the program's
-- files, `read` its inputs, and `boot` and `text` what it writes for them.
pub inputs_failed : {W A T X : Type 0} (named : W → FileNames) (read : FileContents → Result A InputsReason) (boot : A → Result T Cause)
    (text : T → List ℕ) (r : Result X NoInputs) (error : NoInputs) (old new : LentFilesView) (lent : List MemFileView) (args : W)
    → NamesUnread named (file_bytes old.files) (Some args)
    (read (file_bytes old.files) >>= λ inputs. value_or_stopped (boot inputs) >>= λ booted. Ok (text booted))
    → r ≡ Err error → old.files ≡ lent → FitsError input_place error (read (file_bytes old.files))
    → IsFileError (faults_at old) (faults_at new) (named args) error
    → IfErr r (λ e. HasOutcomeReason e (read (file_bytes lent) >>= λ inputs. value_or_stopped (boot inputs) >>= λ booted. Ok (text booted)))
inputs_failed named read boot text r error old new lent args names is same fits cause =
    rw (is, ← same)
    (fails_as named old new _ (Some args) error names (of_words named old new args error cause)
    (fits_after_boot error (read (file_bytes old.files)) boot text fits))

-- a stop of the boot is the one that the outcome has
stop_by : (cause : Option Cause) (said : Result (List ℕ) InputsReason) → FitsError input_place (reason_by_cause cause) said
    → HasOutcomeReason (reason_by_cause cause) said
stop_by None said fits = tt
stop_by (Some cause) said fits = fits

pub boot_failed : {A : Type 0} (stop : Stop) (files lent : List MemFileView) (read : FileContents → Result A InputsReason)
    (last : A → Result (List ℕ) InputsReason) (inputs : A) → files ≡ lent → read (file_bytes files) ≡ Ok inputs
    → FitsError input_place (reason_by_stop stop) (last inputs)
    → HasOutcomeReason (reason_by_stop stop) (read (file_bytes lent) >>= last)
boot_failed stop files lent read last inputs same was_read fits =
    let fails : HasOutcomeReason (reason_by_stop stop) (last inputs) = stop_by (cause_of stop) (last inputs) fits in
    let after : read (file_bytes lent) ≡ Ok inputs =
    subst (λ (f : List MemFileView). read (file_bytes f) ≡ Ok inputs) same was_read in
    rw after fails
