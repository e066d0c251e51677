-- The inputs and the early claims that the files give. The file of early claims is read after the
-- script and before the page script.
use Rattle.std.specs.Prelude.{ℕ, List, [], ◌∷◌, Result, Ok, Vec}
use Rattle.std.specs.declared.alloc.Global.{Global}
use Rattle.bm_base.specs.ResultSteps.{◌>>=◌}
use Rattle.script_reader.specs.declared.act.Line.{Line}
use Rattle.boot_model.specs.declared.inputs.Inputs.{Inputs}
use Rattle.boot_model.specs.Boot.{InputsView}
use Rattle.boot_model.specs.View.{inputs_view}
use Rattle.program_end.specs.Program.{FileContents}
use Rattle.boot_inputs.specs.Claims.{claims_of_file}
use Rattle.boot_inputs.specs.CommandLine.{command_line}
use Rattle.boot_inputs.specs.Efi.{efi_file}
use Rattle.boot_inputs.specs.Extension.{extension_file}
use Rattle.boot_inputs.specs.File.{File}
use Rattle.boot_inputs.specs.Inputs.{FileNames, inputs_after_files}
use Rattle.boot_inputs.specs.Pages.{pages_file}
use Rattle.boot_inputs.specs.Reason.{InputsReason}
use Rattle.boot_inputs.specs.Script.{script_file}
use Rattle.boot_inputs.specs.Slit.{slit_file}
use Rattle.boot_inputs.specs.Srat.{srat_file}
use Rattle.boot_inputs.specs.ZeroPage.{zero_page}

-- the inputs of a boot, and the lines of its early claims
pub record InputsWithClaims : Type 0 where
  pub inputs : InputsView
  pub claims : List Line

-- the inputs `given` and the lines of early claims `lines` as one value
abbrev pub with_claims : InputsView → List Line → InputsWithClaims
with_claims given lines = record { inputs = given; claims = lines }

-- the inputs with no early claims, or the reason why there are no inputs
abbrev pub without_claims : Result InputsView InputsReason → Result InputsWithClaims InputsReason
without_claims said = do
  given ← said
  Ok (with_claims given [])

-- what contracts see of the inputs and the lines of early claims that the code returns
abbrev pub inputs_with_claims_view : Inputs × Vec Line Global → InputsWithClaims
inputs_with_claims_view given = with_claims (inputs_view given.0) given.1.items

-- the input files before the early claims, in the order of reading
abbrev pub files_before_claims : List File
files_before_claims = zero_page ∷ extension_file ∷ command_line ∷ srat_file ∷ script_file ∷ []

-- the input files after the early claims, in the order of reading
abbrev pub files_after_claims : List File
files_after_claims = pages_file ∷ slit_file ∷ efi_file ∷ []

-- the inputs `begun` with the values of all input files that have a name put in, and the lines of
-- early claims; or the reason for the first file that is refused
abbrev pub inputs_with_claims_of : FileContents → FileNames → InputsView → Result InputsWithClaims InputsReason
inputs_with_claims_of held named begun = do
  early ← inputs_after_files held named files_before_claims begun
  lines ← claims_of_file held named
  given ← inputs_after_files held named files_after_claims early
  Ok (with_claims given lines)
