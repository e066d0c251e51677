-- The E820 extension (`setup_data` of the type `SETUP_E820_EXT`) as an input file.
use Rattle.std.specs.Prelude.{ℕ, nat_lt, List, length, codes, Option, Some, None, Result}
use Rattle.std.specs.Option.{option_map}
use Rattle.e820_model.specs.declared.entry.Entry.{Entry}
use Rattle.e820_table.specs.declared.extension.ExtFault.{ExtFault}
use Rattle.e820_table.specs.declared.extension.ExtFault.TheVariants as extension
use Rattle.e820_table.specs.Extension.{ext_entries_of, ext_fault}
use Rattle.boot_model.specs.Boot.{InputsView}
use Rattle.boot_inputs.specs.declared.fault.Fault.{Fault}
use Rattle.boot_inputs.specs.declared.fault.Fault.TheVariants as faults
use Rattle.boot_inputs.specs.declared.input.Input.TheVariants as inputs
use Rattle.boot_inputs.specs.Diagnostic.{Diagnostic}
use Rattle.boot_inputs.specs.File.{File, value_unless_fault, with_value}

-- the entries of the E820 extension in these bytes, or the fault of the bytes
abbrev pub extension_or_fault : List ℕ → Result (List Entry) Fault
extension_or_fault bytes = value_unless_fault (option_map faults.Extension (ext_fault bytes)) (ext_entries_of bytes)

-- the inputs `given` with `entries` as the entries of the E820 extension
abbrev pub put_extension : List Entry → InputsView → InputsView
put_extension entries given = record given { extension = entries }

-- the input file with the E820 extension: at most 3,072 entries after a header of 16 bytes. Reading
-- it needs memory if it has an entry.
abbrev pub extension_file : File
extension_file = record {
  input = inputs.Extension;
  limit = 61456;
  takes = λ bytes. nat_lt 0 (length (ext_entries_of bytes));
  says = λ bytes given. with_value put_extension given (extension_or_fault bytes);
}

-- what the fault's error line says after `e820ext: `, such as `entry 0 too far`; `None` for
-- `Memory`, which isn't a fault of the file's contents
abbrev pub extension_diagnostic : ExtFault → Option Diagnostic
extension_diagnostic (extension.EntryTooFar index) = Some (Diagnostic.Far (codes "entry") index)
extension_diagnostic extension.ExtHeader = Some (Diagnostic.Whole (codes "header"))
extension_diagnostic extension.ExtLength = Some (Diagnostic.Whole (codes "length"))
extension_diagnostic extension.Memory = None
