-- A whole page script: its lines, or the fault of the lowest line that has one.
use Rattle.std.specs.Prelude.{ℕ, false, List, Result}
use Rattle.bm_base.specs.ResultSteps.{map_error}
use Rattle.script_reader.specs.declared.fault.ScriptLineFault.{ScriptLineFault}
use Rattle.script_reader.specs.declared.fault.ScriptLineFault.TheVariants as wrong
use Rattle.script_reader.specs.Lines.{ScriptKind, lines_of}
use Rattle.page_alloc.specs.declared.act.PageAct.{PageAct}
use Rattle.page_alloc.specs.declared.act.PageLine.{PageLine}
use Rattle.page_alloc.specs.declared.reading.PageFault.{PageFault}
use Rattle.page_alloc.specs.declared.reading.PageFault.TheVariants as faults
use Rattle.page_alloc.specs.Forms.{page_act_by_name}

-- the fault of a script whose line number `line` has the fault `wrong`: either its form is wrong,
-- or one of its numbers
abbrev pub page_script_fault_at : ℕ → ScriptLineFault → PageFault
page_script_fault_at line wrong.Form = faults.BadLine line
page_script_fault_at line other = faults.BadNumber line

-- what the reader of scripts needs to know of page scripts: the forms of their lines, and that each
-- command may occur more than once
abbrev pub page_lines : ScriptKind PageAct PageLine
page_lines = record { forms = λ seen. page_act_by_name; is_once = λ act. false; line = λ number act. record { number = number; act = act } }

-- the lines of a page script, or the fault of the lowest line that has one
abbrev pub page_lines_of : List ℕ → Result (List PageLine) PageFault
page_lines_of bytes = map_error (λ at. page_script_fault_at at.0 at.1) (lines_of page_lines bytes)
