-- The page script as an input file.
use Rattle.std.specs.Prelude.{ℕ, Bool, false, nat_lt, List, length, codes, Option, Some, None, Result, Ok, Err}
use Rattle.bm_base.specs.ResultSteps.{map_error}
use Rattle.page_alloc.specs.declared.act.PageLine.{PageLine}
use Rattle.page_alloc.specs.declared.reading.PageFault.{PageFault}
use Rattle.page_alloc.specs.declared.reading.PageFault.TheVariants as pages
use Rattle.page_alloc.specs.Reading.{page_lines_of}
use Rattle.boot_model.specs.Boot.{InputsView}
use Rattle.boot_inputs.specs.declared.fault.Fault.{Fault}
use Rattle.boot_inputs.specs.declared.fault.Fault.TheVariants as faults
use Rattle.boot_inputs.specs.declared.input.Input.TheVariants as inputs
use Rattle.boot_inputs.specs.Diagnostic.{Diagnostic}
use Rattle.boot_inputs.specs.File.{File, with_value}

-- the lines of the page script in these bytes, or the fault of the bytes
abbrev pub page_script_or_fault : List ℕ → Result (List PageLine) Fault
page_script_or_fault bytes = map_error faults.Pages (page_lines_of bytes)

-- whether reading the file needs memory of this program: it does if some line has a command
abbrev pub page_script_needs_memory : Result (List PageLine) PageFault → Bool
page_script_needs_memory (Ok lines) = nat_lt 0 (length lines)
page_script_needs_memory (Err fault) = false

-- the inputs `given` with `lines` as the page script
abbrev pub set_page_script : List PageLine → InputsView → InputsView
set_page_script lines given = record given { page_lines = lines }

-- the input file with the page script: at most 1 MiB
abbrev pub pages_file : File
pages_file = record {
  input = inputs.Pages;
  limit = 1048576;
  takes = λ bytes. page_script_needs_memory (page_lines_of bytes);
  says = λ bytes given. with_value set_page_script given (page_script_or_fault bytes);
}

-- what the fault's error line says after `pages: `, such as `line 2: number`; `None` for `Memory`,
-- which isn't a fault of the file's contents
abbrev pub pages_diagnostic : PageFault → Option Diagnostic
pages_diagnostic (pages.BadLine line) = Some (Diagnostic.Line line (codes "form"))
pages_diagnostic (pages.BadNumber line) = Some (Diagnostic.Line line (codes "number"))
pages_diagnostic pages.Memory = None
