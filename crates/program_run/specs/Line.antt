-- The one line that a failed run writes to the error output. `program` is the program's name.
use Rattle.std.specs.Prelude.{ℕ, List, [], ◌++◌, codes, decimal, Option, Some, None, unwrap_or}
use Rattle.boot_inputs.specs.declared.fault.Fault.{Fault}
use Rattle.boot_inputs.specs.declared.input.Input.{Input}
use Rattle.boot_inputs.specs.Diagnostic.{Diagnostic}
use Rattle.boot_inputs.specs.Faults.{diagnostic_of}
use Rattle.boot_inputs.specs.Input.{input_word}
use Rattle.boot_inputs.specs.Reason.{InputsReason}
use Rattle.program_end.specs.declared.failure.Failure.{Failure}
use Rattle.program_end.specs.Line.{failure_line, memory_line}
use Rattle.memblock_grow.specs.declared.stop.What.{What}
use Rattle.memblock_grow.specs.declared.stop.What.TheVariants as what
use Rattle.boot_model.specs.declared.stop.Cause.{Cause}
use Rattle.boot_model.specs.declared.stop.Cause.TheVariants as causes
use Rattle.report_memory.specs.OwnersText.{memblock_table_name}
use Rattle.boot_inputs.specs.Inputs.{FileNames}
use Rattle.program_args.specs.Args.{BootmemArgsView, ProgramArgsView, named61}

-- the error line for what is wrong with the file of an input, as in `bootmem: cmdline: word 3:
-- memmap`. `program` is the program's name, and `name` the word for the input. `None` doesn't occur
-- for a file's bytes (`HasErrorLine`).
abbrev pub diagnostic_line : List ℕ → List ℕ → Option Diagnostic → List ℕ
diagnostic_line program name None = memory_line program
diagnostic_line program name (Some (Diagnostic.Whole what)) = program ++ (codes ": " ++ (name ++ (codes ": " ++ (what ++ codes "\n"))))
diagnostic_line program name (Some (Diagnostic.Far thing index)) =
    program ++ (codes ": " ++ (name ++ (codes ": " ++ (thing ++ (codes " " ++ (decimal index ++ codes " too far\n"))))))
diagnostic_line program name (Some (Diagnostic.Word word what)) =
    program ++ (codes ": " ++ (name ++ (codes ": word " ++ (decimal word ++ (codes ": " ++ (what ++ codes "\n"))))))
diagnostic_line program name (Some (Diagnostic.Line line what)) =
    program ++ (codes ": " ++ (name ++ (codes ": line " ++ (decimal line ++ (codes ": " ++ (what ++ codes "\n"))))))
diagnostic_line program name (Some (Diagnostic.Offset what offset)) =
    program ++ (codes ": " ++ (name ++ (codes ": " ++ (what ++ (codes " at " ++ (decimal offset ++ codes "\n"))))))

-- the error line for a fault in the file of an input; `name` is the word for the input, such as
-- `cmdline`
abbrev pub named_input_fault_line : List ℕ → List ℕ → Fault → List ℕ
named_input_fault_line program name fault = diagnostic_line program name (diagnostic_of fault)

-- the error line of a boot that stops because the table `name` of memblock, with room for `room`
-- records, is full and no free memory fits a larger one
abbrev pub no_table_place_line : List ℕ → List ℕ → ℕ → List ℕ
no_table_place_line program name room =
    program ++ (codes ": stopped: no place for table " ++ (name ++ (codes " room " ++ (decimal room ++ codes "\n"))))

-- the error line of a boot that stops because no free memory fits an allocation, as in `bootmem:
-- stopped: no place for node-data 1`; `number` is the number of the node, root or section that the
-- allocation is for
abbrev pub no_numbered_place_line : List ℕ → List ℕ → ℕ → List ℕ
no_numbered_place_line program name number =
    program ++ (codes ": stopped: no place for " ++ (name ++ (codes " " ++ (decimal number ++ codes "\n"))))

-- the error line of a boot that stops because no free memory fits an allocation that it can't do
-- without
abbrev pub no_place_line : List ℕ → What → List ℕ
no_place_line program (what.NodeData node) = no_numbered_place_line program (codes "node-data") node
no_place_line program what.Roots = program ++ codes ": stopped: no place for roots\n"
no_place_line program (what.Root root) = no_numbered_place_line program (codes "root") root
no_place_line program (what.Usage section) = no_numbered_place_line program (codes "usage") section
no_place_line program (what.Map section) = no_numbered_place_line program (codes "map") section

-- the error line that says why the boot stopped, as in `bootmem: stopped: no usable frame`
abbrev pub stop_cause_line : List ℕ → Cause → List ℕ
stop_cause_line program causes.NoRam = program ++ codes ": stopped: no usable frame\n"
stop_cause_line program (causes.TooMuchRam frames) = program ++ (codes ": stopped: " ++ (decimal frames ++ codes " usable frames\n"))
stop_cause_line program (causes.MapFull runs) = program ++ (codes ": stopped: " ++ (decimal runs ++ codes " map runs\n"))
stop_cause_line program (causes.NoPlace thing) = no_place_line program thing
stop_cause_line program (causes.NoTablePlace w room) = no_table_place_line program (memblock_table_name w) room

-- the file name that an accepted command line gives for an input, or the empty text if it gives
-- none or the command line is refused (`None`). `named` takes the file names from a command line.
abbrev pub input_file_text : {W : Type 0} → (W → FileNames) → Option W → Input → List ℕ
input_file_text named None input = []
input_file_text named (Some args) input = unwrap_or (named args input) []

-- the error line for a fault in the file of `input`, as in `bootmem: cmdline: word 3: memmap`
abbrev pub input_fault_line : List ℕ → Input → Fault → List ℕ
input_fault_line program input fault = named_input_fault_line program (input_word input) fault

-- the name of the program `bootmem` in its error lines
abbrev pub bootmem_name : List ℕ
bootmem_name = codes "bootmem"

-- the name of the program `bootmem61` in its error lines
abbrev pub bootmem61_name : List ℕ
bootmem61_name = codes "bootmem61"

-- the error line that says why the program failed. `program` is its name, and `named` takes the
-- file names from an accepted command line.
abbrev pub program_failure_line : {W : Type 0} → List ℕ → (W → FileNames) → Option W → Failure InputsReason → List ℕ
program_failure_line program named accepted failure =
    failure_line program (input_file_text named accepted) (input_fault_line program) (stop_cause_line program) failure

-- the error line that says why `bootmem` failed; it has file names as on the accepted command line
abbrev pub bootmem_failure_line : Option BootmemArgsView → Failure InputsReason → List ℕ
bootmem_failure_line accepted failure = program_failure_line bootmem_name (λ args. args.named) accepted failure

-- the error line that says why `bootmem61` failed; it has file names as on the accepted command
-- line
abbrev pub bootmem61_failure_line : Option ProgramArgsView → Failure InputsReason → List ℕ
bootmem61_failure_line accepted failure = program_failure_line bootmem61_name named61 accepted failure
