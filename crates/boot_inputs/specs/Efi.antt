-- The EFI memory map as an input file.
use Rattle.std.specs.Prelude.{ℕ, Bool, nat_lt, List, length, map, codes, Option, Some, None, Result}
use Rattle.bm_base.specs.ResultSteps.{map_error}
use Rattle.efi_map.specs.declared.efi.EfiFault.{EfiFault}
use Rattle.efi_map.specs.declared.efi.EfiFault.TheVariants as efi
use Rattle.efi_map.specs.Map.{EfiContent, descriptors_of, efi_of}
use Rattle.boot_model.specs.Boot.{EfiMapView, InputsView}
use Rattle.boot_model.specs.Mirrors.{frame_range_of}
use Rattle.boot_inputs.specs.declared.fault.Fault.{Fault}
use Rattle.boot_inputs.specs.declared.fault.Fault.TheVariants as faults
use Rattle.boot_inputs.specs.declared.input.Input.TheVariants as inputs
use Rattle.boot_inputs.specs.Diagnostic.{Diagnostic}
use Rattle.boot_inputs.specs.File.{File, with_value}

-- the content of an EFI memory map as a boot uses it: the entries for the e820 table, and the
-- mirrored ranges as ranges of frames
abbrev pub efi_map_in_frames : EfiContent → EfiMapView
efi_map_in_frames m = record { entries = m.entries; mirrors = map frame_range_of m.mirrors }

-- the content of the EFI memory map in these bytes, or the fault of the bytes
abbrev pub efi_or_fault : List ℕ → Result EfiContent Fault
efi_or_fault bytes = map_error faults.Efi (efi_of bytes)

-- whether reading the file needs memory of this program: it does if the file has a descriptor
abbrev pub efi_needs_memory : List ℕ → Bool
efi_needs_memory bytes = nat_lt 0 (length (descriptors_of bytes))

-- the inputs `given` with `m` as the EFI memory map
abbrev pub put_efi : EfiContent → InputsView → InputsView
put_efi m given = record given { efi = Some (efi_map_in_frames m) }

-- the input file with the EFI memory map: at most 1 MiB
abbrev pub efi_file : File
efi_file = record {
  input = inputs.Efi;
  limit = 1048576;
  takes = efi_needs_memory;
  says = λ bytes given. with_value put_efi given (efi_or_fault bytes);
}

-- what the fault's error line says after `efi: `, such as `descriptor 0 too far`; `None` for
-- `Memory`, which isn't a fault of the file's contents
abbrev pub efi_diagnostic : EfiFault → Option Diagnostic
efi_diagnostic efi.Header = Some (Diagnostic.Whole (codes "header"))
efi_diagnostic efi.Length = Some (Diagnostic.Whole (codes "length"))
efi_diagnostic (efi.TooFar index) = Some (Diagnostic.Far (codes "descriptor") index)
efi_diagnostic efi.Memory = None
