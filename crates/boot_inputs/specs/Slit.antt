-- The ACPI table SLIT, which has the distances between proximity domains, as an input file.
use Rattle.std.specs.Prelude.{ℕ, Bool, false, nat_lt, List, codes, Option, Some, None, Result, Ok, Err}
use Rattle.bm_base.specs.ResultSteps.{map_error}
use Rattle.slit_zonelists.specs.declared.table.SlitFault.{SlitFault}
use Rattle.slit_zonelists.specs.declared.table.SlitFault.TheVariants as slit
use Rattle.slit_zonelists.specs.SlitView.{SlitView}
use Rattle.slit_zonelists.specs.Table.{slit_of}
use Rattle.boot_model.specs.Boot.{InputsView}
use Rattle.boot_inputs.specs.declared.fault.Fault.{Fault}
use Rattle.boot_inputs.specs.declared.fault.Fault.TheVariants as faults
use Rattle.boot_inputs.specs.declared.input.Input.TheVariants as inputs
use Rattle.boot_inputs.specs.Diagnostic.{Diagnostic}
use Rattle.boot_inputs.specs.File.{File, with_value}

-- the distances between domains in the bytes of a SLIT, or the fault of the bytes
abbrev pub slit_or_fault : List ℕ → Result SlitView Fault
slit_or_fault bytes = map_error faults.Slit (slit_of bytes)

-- whether reading the table needs memory of this program: it does if the table has a domain
abbrev pub slit_needs_memory : Result SlitView SlitFault → Bool
slit_needs_memory (Ok m) = nat_lt 0 m.count
slit_needs_memory (Err fault) = false

-- the inputs `given` with `m` as the distances between domains
abbrev pub set_slit : SlitView → InputsView → InputsView
set_slit m given = record given { slit = Some m }

-- the input file with the SLIT: at most 1 MiB
abbrev pub slit_file : File
slit_file = record {
  input = inputs.Slit;
  limit = 1048576;
  takes = λ bytes. slit_needs_memory (slit_of bytes);
  says = λ bytes given. with_value set_slit given (slit_or_fault bytes);
}

-- what the fault's error line says after `slit: `, such as `checksum`; `None` for `Memory`, which
-- isn't a fault of the file's contents
abbrev pub slit_diagnostic : SlitFault → Option Diagnostic
slit_diagnostic slit.Short = Some (Diagnostic.Whole (codes "short"))
slit_diagnostic slit.Signature = Some (Diagnostic.Whole (codes "signature"))
slit_diagnostic slit.Length = Some (Diagnostic.Whole (codes "length"))
slit_diagnostic slit.Checksum = Some (Diagnostic.Whole (codes "checksum"))
slit_diagnostic slit.Localities = Some (Diagnostic.Whole (codes "localities"))
slit_diagnostic slit.Memory = None
