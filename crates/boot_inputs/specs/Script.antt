-- The early script as an input file.
use Rattle.std.specs.Prelude.{ℕ, Bool, false, nat_lt, List, length, codes, Option, Some, None, Result, Ok, Err}
use Rattle.bm_base.specs.ResultSteps.{map_error}
use Rattle.script_reader.specs.declared.act.Line.{Line}
use Rattle.script_reader.specs.declared.fault.ScriptFault.{ScriptFault}
use Rattle.script_reader.specs.declared.fault.ScriptFault.TheVariants as script
use Rattle.script_reader.specs.Script.{script_of}
use Rattle.boot_model.specs.Boot.{InputsView}
use Rattle.boot_inputs.specs.declared.fault.Fault.{Fault}
use Rattle.boot_inputs.specs.declared.fault.Fault.TheVariants as faults
use Rattle.boot_inputs.specs.declared.input.Input.TheVariants as inputs
use Rattle.boot_inputs.specs.Diagnostic.{Diagnostic}
use Rattle.boot_inputs.specs.File.{File, with_value}

-- the lines of the early script in these bytes, or the fault of the bytes
abbrev pub script_or_fault : List ℕ → Result (List Line) Fault
script_or_fault bytes = map_error faults.Script (script_of bytes)

-- whether reading the file needs memory of this program: it does if some line has a command
abbrev pub script_needs_memory : Result (List Line) ScriptFault → Bool
script_needs_memory (Ok lines) = nat_lt 0 (length lines)
script_needs_memory (Err fault) = false

-- the inputs `given` with `lines` as the early script
abbrev pub set_early_script : List Line → InputsView → InputsView
set_early_script lines given = record given { lines = lines }

-- the input file with the early script: at most 1 MiB
abbrev pub script_file : File
script_file = record {
  input = inputs.Script;
  limit = 1048576;
  takes = λ bytes. script_needs_memory (script_of bytes);
  says = λ bytes given. with_value set_early_script given (script_or_fault bytes);
}

-- what the fault's error line says after `script: `, such as `line 2: alignment`; `None` for
-- `Memory`, which isn't a fault of the file's contents
abbrev pub script_diagnostic : ScriptFault → Option Diagnostic
script_diagnostic (script.BadLine line) = Some (Diagnostic.Line line (codes "form"))
script_diagnostic (script.BadNumber line) = Some (Diagnostic.Line line (codes "number"))
script_diagnostic (script.BadAlign line) = Some (Diagnostic.Line line (codes "alignment"))
script_diagnostic (script.ZeroSize line) = Some (Diagnostic.Line line (codes "zero size"))
script_diagnostic (script.SecondSections line) = Some (Diagnostic.Line line (codes "second sections"))
script_diagnostic (script.TooFar line) = Some (Diagnostic.Line line (codes "too far"))
script_diagnostic script.Memory = None
