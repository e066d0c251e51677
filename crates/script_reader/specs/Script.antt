-- A whole early script: its lines, or the fault of the lowest line that has one.
use Rattle.std.specs.Prelude.{ℕ, Bool, true, false, List, Result}
use Rattle.bm_base.specs.ResultSteps.{map_error}
use Rattle.script_reader.specs.declared.act.Act.{Act}
use Rattle.script_reader.specs.declared.act.Act.TheVariants as acts
use Rattle.script_reader.specs.declared.act.Line.{Line}
use Rattle.script_reader.specs.declared.fault.ScriptLineFault.{ScriptLineFault}
use Rattle.script_reader.specs.declared.fault.ScriptLineFault.TheVariants as wrong
use Rattle.script_reader.specs.declared.fault.ScriptFault.{ScriptFault}
use Rattle.script_reader.specs.declared.fault.ScriptFault.TheVariants as faults
use Rattle.script_reader.specs.Forms.{act_by_name}
use Rattle.script_reader.specs.Lines.{ScriptKind, lines_of}

-- the fault of a script whose line with this number has this fault
abbrev pub script_fault_at : ℕ → ScriptLineFault → ScriptFault
script_fault_at line wrong.Form = faults.BadLine line
script_fault_at line wrong.Number = faults.BadNumber line
script_fault_at line wrong.Align = faults.BadAlign line
script_fault_at line wrong.ZeroSize = faults.ZeroSize line
script_fault_at line wrong.SecondSections = faults.SecondSections line
script_fault_at line wrong.TooFar = faults.TooFar line

-- whether the act is `sections`
abbrev pub is_sections : Act → Bool
is_sections (acts.Alloc id request) = false
is_sections (acts.Reserve id range) = false
is_sections (acts.Free id) = false
is_sections (acts.Trim id keep) = false
is_sections (acts.Fill id byte) = false
is_sections (acts.Peek at len) = false
is_sections acts.Sections = true

-- early scripts as a kind of script: their commands, of which `sections` may occur only once
abbrev pub script_lines : ScriptKind Act Line
script_lines = record { forms = act_by_name; is_once = is_sections; line = λ number act. record { number = number; act = act } }

-- the lines of a script that have a command, or the fault of the first line that has one
abbrev pub script_of : List ℕ → Result (List Line) ScriptFault
script_of bytes = map_error (λ at. script_fault_at at.0 at.1) (lines_of script_lines bytes)
