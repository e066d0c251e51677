-- The ACPI table SRAT, which has the proximity domains of processors and ranges of memory, as an
-- input file.
use Rattle.std.specs.Prelude.{ℕ, Bool, false, ◌||◌, nat_lt, List, length, codes, Option, Some, None, Result, Ok, Err}
use Rattle.bm_base.specs.ResultSteps.{map_error}
use Rattle.srat_reader.specs.declared.table.SratFault.{SratFault}
use Rattle.srat_reader.specs.declared.table.SratFault.TheVariants as srat
use Rattle.srat_reader.specs.Table.{SratView, srat_of}
use Rattle.boot_model.specs.Boot.{InputsView}
use Rattle.boot_inputs.specs.declared.fault.Fault.{Fault}
use Rattle.boot_inputs.specs.declared.fault.Fault.TheVariants as faults
use Rattle.boot_inputs.specs.declared.input.Input.TheVariants as inputs
use Rattle.boot_inputs.specs.Diagnostic.{Diagnostic}
use Rattle.boot_inputs.specs.File.{File, with_value}

-- the processors and ranges of memory in the bytes of an SRAT, each with its domain; or the fault
-- of the bytes
abbrev pub srat_or_fault : List ℕ → Result SratView Fault
srat_or_fault bytes = map_error faults.Srat (srat_of bytes)

-- whether reading the table needs memory of this program: it does if the table has a processor or a
-- range of memory
abbrev pub srat_needs_memory : Result SratView SratFault → Bool
srat_needs_memory (Ok table) = nat_lt 0 (length table.processors) || nat_lt 0 (length table.blocks)
srat_needs_memory (Err fault) = false

-- the inputs `given` with `table` as their SRAT
abbrev pub set_srat : SratView → InputsView → InputsView
set_srat table given = record given { domains = Some table }

-- the input file with the SRAT: at most 1 MiB
abbrev pub srat_file : File
srat_file = record {
  input = inputs.Srat;
  limit = 1048576;
  takes = λ bytes. srat_needs_memory (srat_of bytes);
  says = λ bytes given. with_value set_srat given (srat_or_fault bytes);
}

-- what the fault's error line says after `srat: `, such as `entry length at 48`; `None` for
-- `Memory`, which isn't a fault of the file's contents
abbrev pub srat_diagnostic : SratFault → Option Diagnostic
srat_diagnostic srat.Short = Some (Diagnostic.Whole (codes "short"))
srat_diagnostic srat.Signature = Some (Diagnostic.Whole (codes "signature"))
srat_diagnostic srat.Length = Some (Diagnostic.Whole (codes "length"))
srat_diagnostic srat.Checksum = Some (Diagnostic.Whole (codes "checksum"))
srat_diagnostic (srat.EntryLength offset) = Some (Diagnostic.Offset (codes "entry length") offset)
srat_diagnostic (srat.BlockTooFar offset) = Some (Diagnostic.Offset (codes "block too far") offset)
srat_diagnostic srat.Memory = None
