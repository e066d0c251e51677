-- The error lines for faults of input files.
use Rattle.std.specs.Prelude.{ℕ, List, codes, Option, Some, IfErr, IsSome}
use Rattle.boot_model.specs.Boot.{InputsView}
use Rattle.boot_inputs.specs.declared.fault.Fault.{Fault}
use Rattle.boot_inputs.specs.declared.fault.Fault.TheVariants as faults
use Rattle.boot_inputs.specs.CommandLine.{command_line_diagnostic}
use Rattle.boot_inputs.specs.Diagnostic.{Diagnostic}
use Rattle.boot_inputs.specs.Efi.{efi_diagnostic}
use Rattle.boot_inputs.specs.Extension.{extension_diagnostic}
use Rattle.boot_inputs.specs.File.{File}
use Rattle.boot_inputs.specs.Pages.{pages_diagnostic}
use Rattle.boot_inputs.specs.Script.{script_diagnostic}
use Rattle.boot_inputs.specs.Slit.{slit_diagnostic}
use Rattle.boot_inputs.specs.Srat.{srat_diagnostic}
use Rattle.boot_inputs.specs.ZeroPage.{zero_page_diagnostic}

-- What the fault's error line says is wrong: `word 3: memmap` in `bootmem: cmdline: word 3:
-- memmap`. The fault `TooLong` has the same text for every file. `None` is only for the variant
-- `Memory` of a reader's faults.
abbrev pub diagnostic_of : Fault → Option Diagnostic
diagnostic_of faults.TooLong = Some (Diagnostic.Whole (codes "too long"))
diagnostic_of (faults.ZeroPage fault) = Some (zero_page_diagnostic fault)
diagnostic_of (faults.Extension fault) = extension_diagnostic fault
diagnostic_of (faults.CommandLine fault) = command_line_diagnostic fault
diagnostic_of (faults.Srat fault) = srat_diagnostic fault
diagnostic_of (faults.Script fault) = script_diagnostic fault
diagnostic_of (faults.Pages fault) = pages_diagnostic fault
diagnostic_of (faults.Slit fault) = slit_diagnostic fault
diagnostic_of (faults.Efi fault) = efi_diagnostic fault

-- the fault has an error line; each fault has one, except for the variant `Memory` of a reader's
-- faults
abbrev pub HasErrorLine : Fault → Type 0
HasErrorLine fault = IsSome (diagnostic_of fault)

-- the file's definition never gives `Memory` as a fault, whatever its bytes are and whatever was
-- read before
abbrev pub FaultsHaveErrorLines : File → Type 0
FaultsHaveErrorLines file = (bytes : List ℕ) (given : InputsView) → IfErr (file.says bytes given) HasErrorLine
