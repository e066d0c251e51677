-- The kernel's command line as an input file.
use Rattle.std.specs.Prelude.{ℕ, Bool, false, ◌||◌, nat_lt, is_some, List, length, codes, Option, Some, None, Result, Ok, Err}
use Rattle.bm_base.specs.ResultSteps.{map_error}
use Rattle.boot_options.specs.declared.fault.OptionFault.{OptionFault}
use Rattle.boot_options.specs.declared.fault.OptionFault.TheVariants as options
use Rattle.boot_options.specs.Options.{OptionsView, options_of}
use Rattle.boot_model.specs.Boot.{InputsView}
use Rattle.boot_inputs.specs.declared.fault.Fault.{Fault}
use Rattle.boot_inputs.specs.declared.fault.Fault.TheVariants as faults
use Rattle.boot_inputs.specs.declared.input.Input.TheVariants as inputs
use Rattle.boot_inputs.specs.Diagnostic.{Diagnostic}
use Rattle.boot_inputs.specs.File.{File, with_value}

-- the options that the command line sets, or its fault
abbrev pub options_or_fault : List ℕ → Result OptionsView Fault
options_or_fault bytes = map_error faults.CommandLine (options_of bytes)

-- whether storing the options needs memory of this program: it does if the line has an edit of the
-- map (`mem=` or `memmap=`) or a `crashkernel=` without `,high` and `,low`
abbrev pub options_need_memory : Result OptionsView OptionFault → Bool
options_need_memory (Ok chosen) = nat_lt 0 (length chosen.edits) || is_some chosen.crash.plain
options_need_memory (Err fault) = false

-- the inputs `given` with their options replaced by `chosen`
abbrev pub set_command_line : OptionsView → InputsView → InputsView
set_command_line chosen given = record given { options = chosen }

-- the input file with the command line: at most 4,096 bytes, twice what the kernel keeps of a line
-- (`COMMAND_LINE_SIZE`)
abbrev pub command_line : File
command_line = record {
  input = inputs.CommandLine;
  limit = 4096;
  takes = λ bytes. options_need_memory (options_of bytes);
  says = λ bytes given. with_value set_command_line given (options_or_fault bytes);
}

-- what the fault's error line says after `cmdline: `, such as `word 3: memmap`; `None` for
-- `Memory`, which isn't a fault of the file's contents
abbrev pub command_line_diagnostic : OptionFault → Option Diagnostic
command_line_diagnostic options.TooLong = Some (Diagnostic.Whole (codes "line too long"))
command_line_diagnostic options.OpenQuote = Some (Diagnostic.Whole (codes "open quote"))
command_line_diagnostic (options.BadMem word) = Some (Diagnostic.Word word (codes "mem"))
command_line_diagnostic (options.BadMemmap word) = Some (Diagnostic.Word word (codes "memmap"))
command_line_diagnostic (options.BadCrash word) = Some (Diagnostic.Word word (codes "crashkernel"))
command_line_diagnostic (options.UserMapInvalid word) = Some (Diagnostic.Word word (codes "user map"))
command_line_diagnostic (options.BadNuma word) = Some (Diagnostic.Word word (codes "numa"))
command_line_diagnostic options.Memory = None
