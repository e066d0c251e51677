-- The file of early claims: a script without the command `sections`, which runs before memory gets
-- its nodes.
use Rattle.std.specs.Prelude.{ℕ, Bool, false, if◌then◌else◌, List, [], codes, Option, Some, None, Result, Ok, Err}
use Rattle.std.specs.Str.{bytes_eq}
use Rattle.bm_base.specs.ResultSteps.{◌>>=◌, map_error}
use Rattle.script_reader.specs.declared.act.Act.{Act}
use Rattle.script_reader.specs.declared.act.Line.{Line}
use Rattle.script_reader.specs.declared.fault.ScriptFault.{ScriptFault}
use Rattle.script_reader.specs.declared.fault.ScriptLineFault.{ScriptLineFault}
use Rattle.script_reader.specs.declared.fault.ScriptLineFault.TheVariants as wrong
use Rattle.script_reader.specs.Forms.{act_by_name}
use Rattle.script_reader.specs.Lines.{ScriptKind, lines_of}
use Rattle.script_reader.specs.Numbers.{Words}
use Rattle.script_reader.specs.Script.{script_fault_at}
use Rattle.boot_inputs.specs.declared.fault.Fault.{Fault}
use Rattle.boot_inputs.specs.declared.fault.Fault.TheVariants as faults
use Rattle.boot_inputs.specs.declared.input.Input.TheVariants as inputs
use Rattle.boot_inputs.specs.Inputs.{FileNames, value_of_named_file}
use Rattle.boot_inputs.specs.Reason.{InputsReason}
use Rattle.program_end.specs.Program.{FileContents}

-- the command of a line with the first word `name` and the further words `words`: that of a
-- script's line, except that `sections` is refused
abbrev pub claim_by_name : List ℕ → Words → Result Act ScriptLineFault
claim_by_name name words = if bytes_eq name (codes "sections") then Err wrong.Form else act_by_name false name words

-- the rules for the lines of early claims: which commands there are, and that each command may
-- occur any number of times
abbrev pub claim_lines : ScriptKind Act Line
claim_lines = record {
  forms = λ seen. claim_by_name;
  is_once = λ act. false;
  line = λ number act. record { number = number; act = act };
}

-- the lines of early claims that have a command, or the fault of the first line that has one
abbrev pub claims_of : List ℕ → Result (List Line) ScriptFault
claims_of bytes = map_error (λ at. script_fault_at at.0 at.1) (lines_of claim_lines bytes)

-- the lines of early claims in these bytes, or their fault as the fault of an input file
abbrev pub claims_or_fault : List ℕ → Result (List Line) Fault
claims_or_fault bytes = map_error faults.Script (claims_of bytes)

-- the largest number of bytes that the file may have: 1 MiB
abbrev pub claims_limit : ℕ
claims_limit = 1048576

-- the lines of the file of early claims with this name, or why the file is refused; no lines if
-- there is no name
abbrev pub claims_of_optional_file : FileContents → Option (List ℕ) → Result (List Line) InputsReason
claims_of_optional_file held None = Ok []
claims_of_optional_file held (Some name) = value_of_named_file held inputs.Claims claims_limit claims_or_fault name

-- the lines of the file of early claims, or why it is refused; no lines if `named` gives it no name
abbrev pub claims_of_file : FileContents → FileNames → Result (List Line) InputsReason
claims_of_file held named = claims_of_optional_file held (named inputs.Claims)
