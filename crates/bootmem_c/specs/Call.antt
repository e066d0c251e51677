-- The outcome of a call, which the words and files that the caller passes determine.
use Rattle.std.specs.Prelude.{ℕ, Bool, true, if◌then◌else◌, ◌&&◌, List, [], ◌∷◌, Option, Some, None, Result, Ok, Err}
use Rattle.std.specs.Str.{is_utf8}
use Rattle.bm_io.specs.MemFiles.{file_bytes}
use Rattle.boot_inputs.specs.Inputs.{FileNames}
use Rattle.boot_inputs.specs.Reason.{InputsReason}
use Rattle.program_end.specs.declared.failure.Failure.TheVariants as failures
use Rattle.program_end.specs.declared.failure.NoResult.TheVariants as errors
use Rattle.program_end.specs.declared.failure.Reason.TheVariants as reasons
use Rattle.program_end.specs.Line.{memory_line}
use Rattle.program_end.specs.Program.{FileContents}
use Rattle.program_run.specs.Headline.{AppendsReports, AppendsReports61}
use Rattle.program_run.specs.Line.{bootmem61_name, bootmem_name, program_failure_line}
use Rattle.program_run.specs.Outcome.{bootmem61_outcome, bootmem_outcome}
use Rattle.program_end.specs.Status.{reason_status}
use Rattle.program_args.specs.Args.{BootmemArgsView, ProgramArgsView, named61, read_args, read_args61}
use Rattle.bootmem_c.specs.declared.crossing.Bytes.{Bytes}
use Rattle.bootmem_c.specs.declared.crossing.File.{File}
use Rattle.bootmem_c.specs.declared.profile.BootProfile.{BootProfile}
use Rattle.bootmem_c.specs.declared.profile.BootProfile.TheVariants as profiles
use Rattle.bootmem_c.specs.Lent.{lent_files, lent_words}
use Rattle.bootmem_c.specs.Profiles.{profile_of_number}

-- whether each word is UTF-8
abbrev pub are_utf8 : List (List ℕ) → Bool
are_utf8 [] = true
are_utf8 (word ∷ words) = is_utf8 word && are_utf8 words

-- the command line that the words spell; `None` if a word isn't UTF-8 or the words aren't accepted
abbrev pub read_lent_args : List (List ℕ) → Option BootmemArgsView
read_lent_args words = if are_utf8 words then read_args words else None

-- the outcome: the text of the reports, or the reason why there is none
abbrev pub outcome_of : List Bytes → List File → Result (List ℕ) InputsReason
outcome_of words files = bootmem_outcome (read_lent_args (lent_words words)) (file_bytes (lent_files files))

-- the exit status of an outcome
abbrev pub outcome_status : Result (List ℕ) InputsReason → ℕ
outcome_status (Ok text) = 0
outcome_status (Err reason) = reason_status reason

-- the error line that the program with this name writes for an outcome: empty for a text; `named`
-- gives the names of its files
abbrev pub program_outcome_line : {W : Type 0} → List ℕ → (W → FileNames) → Option W → Result (List ℕ) InputsReason → List ℕ
program_outcome_line program named accepted (Ok text) = []
program_outcome_line program named accepted (Err reason) =
    program_failure_line program named accepted (failures.NoResult (errors.Reason reason))

-- the error line of an outcome of `bootmem`: the line for its reason, or the empty text if there is no
-- reason
abbrev pub outcome_line : Option BootmemArgsView → Result (List ℕ) InputsReason → List ℕ
outcome_line read_args said = program_outcome_line bootmem_name (λ args. args.named) read_args said

-- the error line of an outcome of `bootmem61`
abbrev pub outcome61_line : Option ProgramArgsView → Result (List ℕ) InputsReason → List ℕ
outcome61_line read_args said = program_outcome_line bootmem61_name named61 read_args said

-- the error line of the call, unless it runs out of memory; empty if the outcome is a text, and
-- also if a word isn't UTF-8
abbrev pub call_line : List Bytes → List File → List ℕ
call_line words files =
    if are_utf8 (lent_words words) then outcome_line (read_lent_args (lent_words words)) (outcome_of words files) else []

-- the error line of a call that ran out of memory
abbrev pub out_of_memory_line : List ℕ
out_of_memory_line = memory_line bootmem_name

-- What follows is the same by a profile. `utf8` says whether each word is UTF-8; if not, the words
-- aren't accepted. With no profile (`None`) the call is refused as with words that aren't accepted.

-- what the words ask `bootmem` for
abbrev pub read_args_if : Bool → List (List ℕ) → Option BootmemArgsView
read_args_if utf8 words = if utf8 then read_args words else None

-- what the words ask `bootmem61` for
abbrev pub read_args61_if : Bool → List (List ℕ) → Option ProgramArgsView
read_args61_if utf8 words = if utf8 then read_args61 words else None

-- the outcome by a profile
abbrev pub outcome_by : Option BootProfile → Bool → List (List ℕ) → FileContents → Result (List ℕ) InputsReason
outcome_by None utf8 words held = Err reasons.Usage
outcome_by (Some profiles.Own) utf8 words held = bootmem_outcome (read_args_if utf8 words) held
outcome_by (Some profiles.Linux61) utf8 words held = bootmem61_outcome (read_args61_if utf8 words) held

-- the outcome by the profile of this number
abbrev pub outcome_as : ℕ → List Bytes → List File → Result (List ℕ) InputsReason
outcome_as number words files =
    outcome_by (profile_of_number number) (are_utf8 (lent_words words)) (lent_words words) (file_bytes (lent_files files))

-- the text has the requested reports on the boot by a profile, of which the headline holds
abbrev pub HasReportsBy : Option BootProfile → Bool → List (List ℕ) → FileContents → List ℕ → Type 0
HasReportsBy None utf8 words held text = ⊥
HasReportsBy (Some profiles.Own) utf8 words held text = AppendsReports (read_args_if utf8 words) held (Some []) (Some text)
HasReportsBy (Some profiles.Linux61) utf8 words held text = AppendsReports61 (read_args61_if utf8 words) held (Some []) (Some text)

-- the text has the requested reports on the boot by the profile of this number
abbrev pub HasReportsAs : ℕ → List Bytes → List File → List ℕ → Type 0
HasReportsAs number words files text =
    HasReportsBy (profile_of_number number) (are_utf8 (lent_words words)) (lent_words words) (file_bytes (lent_files files)) text

-- the error line by a profile: empty if the outcome is a text, if a word isn't UTF-8, and without a
-- profile
abbrev pub call_line_by : Option BootProfile → Bool → List (List ℕ) → FileContents → List ℕ
call_line_by None utf8 words held = []
call_line_by (Some profiles.Own) utf8 words held =
    if utf8 then outcome_line (read_args_if utf8 words) (bootmem_outcome (read_args_if utf8 words) held) else []
call_line_by (Some profiles.Linux61) utf8 words held =
    if utf8 then outcome61_line (read_args61_if utf8 words) (bootmem61_outcome (read_args61_if utf8 words) held) else []

-- the error line by the profile of this number
abbrev pub call_line_as : ℕ → List Bytes → List File → List ℕ
call_line_as number words files =
    call_line_by (profile_of_number number) (are_utf8 (lent_words words)) (lent_words words) (file_bytes (lent_files files))

-- the name of the program whose boot has this profile
abbrev pub program_name_by : Option BootProfile → List ℕ
program_name_by None = bootmem_name
program_name_by (Some profiles.Own) = bootmem_name
program_name_by (Some profiles.Linux61) = bootmem61_name

-- the line for a program that ran out of memory, by the profile of this number
abbrev pub out_of_memory_line_as : ℕ → List ℕ
out_of_memory_line_as number = memory_line (program_name_by (profile_of_number number))
