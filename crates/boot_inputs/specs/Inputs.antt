-- The inputs of a boot that its files give. `named` gives the name of each input's file, and `held`
-- the bytes of the file with a name.
use Rattle.std.specs.Prelude.{ℕ, List, [], ◌∷◌, length, Option, Some, None, Result, Ok, Err, nat_lt, if◌then◌else◌}
use Rattle.bm_base.specs.ResultSteps.{◌>>=◌, map_error}
use Rattle.boot_model.specs.Boot.{InputsView}
use Rattle.boot_inputs.specs.declared.fault.Fault.{Fault}
use Rattle.boot_inputs.specs.declared.fault.Fault.TheVariants as faults
use Rattle.boot_inputs.specs.declared.input.Input.{Input}
use Rattle.boot_inputs.specs.Reason.{InputsReason}
use Rattle.program_end.specs.declared.failure.Reason.TheVariants as reasons
use Rattle.boot_inputs.specs.CommandLine.{command_line}
use Rattle.boot_inputs.specs.Efi.{efi_file}
use Rattle.boot_inputs.specs.Extension.{extension_file}
use Rattle.program_end.specs.Program.{FileContents}
use Rattle.boot_inputs.specs.File.{File}
use Rattle.boot_inputs.specs.Pages.{pages_file}
use Rattle.boot_inputs.specs.Script.{script_file}
use Rattle.boot_inputs.specs.Slit.{slit_file}
use Rattle.boot_inputs.specs.Srat.{srat_file}
use Rattle.boot_inputs.specs.ZeroPage.{zero_page}

-- for each input the name of its file, or `None` if it has no file
abbrev pub FileNames : Type 0
FileNames = Input → Option (List ℕ)

-- `bytes`, or `TooLong` if there are more of them than `limit`
abbrev pub within_limit : ℕ → List ℕ → Result (List ℕ) Fault
within_limit limit bytes = if nat_lt limit (length bytes) then Err faults.TooLong else Ok bytes

-- the result of reading the file of `input`; a fault is reported as `Faulty`, with the input
abbrev pub answer_or_faulty_file : {A : Type 0} → Input → Result A Fault → Result A InputsReason
answer_or_faulty_file input answer = map_error (reasons.Faulty input) answer

-- the result of `step` on the file's bytes, or the reason `Unread` if the file couldn't be fetched
-- (`None`)
abbrev pub step_or_unread_file : {A : Type 0} → Input → Option (List ℕ) → (List ℕ → Result A InputsReason) → Result A InputsReason
step_or_unread_file input None step = Err (reasons.Unread input)
step_or_unread_file input (Some bytes) step = step bytes

-- the bytes of the file `name`, or why it is refused: it can't be fetched, or has more than `limit`
-- bytes
abbrev pub bytes_of_named_file : FileContents → Input → ℕ → List ℕ → Result (List ℕ) InputsReason
bytes_of_named_file held input limit name =
    step_or_unread_file input (held name) (λ bytes. answer_or_faulty_file input (within_limit limit bytes))

-- the value that `read` gives for the bytes of the file `name`, or why the file is refused: it
-- can't be fetched, has more than `limit` bytes, or has a fault
abbrev pub value_of_named_file : {A : Type 0} → FileContents → Input → ℕ → (List ℕ → Result A Fault) → List ℕ → Result A InputsReason
value_of_named_file held input limit read name =
    step_or_unread_file input (held name) (λ bytes. answer_or_faulty_file input (within_limit limit bytes >>= read))

-- the inputs `given` with the value of the file `name` put in, or why the file is refused
abbrev pub inputs_after_named_file : FileContents → File → InputsView → List ℕ → Result InputsView InputsReason
inputs_after_named_file held file given name = value_of_named_file held file.input file.limit (λ read. file.says read given) name

-- the inputs `given` with the value of the file put in, or why the file is refused; unchanged
-- inputs if the file has no name
abbrev pub inputs_after_optional_file : FileContents → File → InputsView → Option (List ℕ) → Result InputsView InputsReason
inputs_after_optional_file held file given None = Ok given
inputs_after_optional_file held file given (Some name) = inputs_after_named_file held file given name

-- the inputs `given` with the value of `file` put in, or why the file is refused; unchanged inputs
-- if `named` gives it no name
abbrev pub inputs_after_file : FileContents → FileNames → File → InputsView → Result InputsView InputsReason
inputs_after_file held named file given = inputs_after_optional_file held file given (named file.input)

-- the inputs `given` with the values of the files put in, one after another, or the reason for the
-- first file that is refused
abbrev pub inputs_after_files : FileContents → FileNames → List File → InputsView → Result InputsView InputsReason
inputs_after_files held named [] given = Ok given
inputs_after_files held named (file ∷ files) given = inputs_after_file held named file given >>= inputs_after_files held named files

-- the input files, in the order of reading
abbrev pub input_files : List File
input_files = zero_page ∷ extension_file ∷ command_line ∷ srat_file ∷ script_file ∷ pages_file ∷ slit_file ∷ efi_file ∷ []

-- the inputs `begun` with the values of all input files that have a name put in, or the reason for
-- the first file that is refused
abbrev pub inputs_of : FileContents → FileNames → InputsView → Result InputsView InputsReason
inputs_of held named begun = inputs_after_files held named input_files begun
