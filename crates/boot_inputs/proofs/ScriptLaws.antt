-- The faults of an early script: each is one of a line, and none is out of memory.
use Rattle.std.proofs.Common.{ℕ, List, arith}
use Rattle.std.specs.Prelude.{IsErrOf}
use Rattle.page_alloc.specs.declared.reading.PageFault.TheVariants as pages
use Rattle.page_alloc.specs.Reading.{page_script_fault_at, page_lines, page_lines_of}
use Rattle.script_reader.specs.declared.fault.ScriptFault.TheVariants as script
use Rattle.script_reader.specs.Lines.{lines_of}
use Rattle.script_reader.specs.Script.{script_fault_at, script_lines, script_of}
use Rattle.boot_inputs.proofs.WantLaws.{turned_other}

pub script_other : (bytes : List ℕ) → ¬ IsErrOf (script_of bytes) script.Memory
script_other bytes = turned_other (λ at. script_fault_at at.0 at.1) script.Memory (lines_of script_lines bytes) (λ at is. grind arith)

pub pages_other : (bytes : List ℕ) → ¬ IsErrOf (page_lines_of bytes) pages.Memory
pages_other bytes = turned_other (λ at. page_script_fault_at at.0 at.1) pages.Memory (lines_of page_lines bytes) (λ at is. grind arith)
