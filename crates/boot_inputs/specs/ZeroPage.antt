-- The zero page (`struct boot_params`) as an input file.
use Rattle.std.specs.Prelude.{ℕ, false, List, codes, Result}
use Rattle.std.specs.Option.{option_map}
use Rattle.e820_table.specs.declared.zero_page.ZeroFault.{ZeroFault}
use Rattle.e820_table.specs.declared.zero_page.ZeroFault.TheVariants as zero
use Rattle.e820_table.specs.ZeroPage.{ZeroPageView, zero_page_of, zero_fault}
use Rattle.boot_model.specs.Boot.{InputsView}
use Rattle.boot_inputs.specs.declared.fault.Fault.{Fault}
use Rattle.boot_inputs.specs.declared.fault.Fault.TheVariants as faults
use Rattle.boot_inputs.specs.declared.input.Input.TheVariants as inputs
use Rattle.boot_inputs.specs.Diagnostic.{Diagnostic}
use Rattle.boot_inputs.specs.File.{File, value_unless_fault, with_value}

-- the content of the zero page in these bytes, or the fault of the bytes
abbrev pub zero_page_or_fault : List ℕ → Result ZeroPageView Fault
zero_page_or_fault bytes = value_unless_fault (option_map faults.ZeroPage (zero_fault bytes)) (zero_page_of bytes)

-- the inputs `given` with the entries and the initrd of `page`
abbrev pub set_zero_page : ZeroPageView → InputsView → InputsView
set_zero_page page given = record given { entries = page.entries; initrd = page.initrd }

-- The input file with the zero page: 4,096 bytes. Its entries go into an array with room for all of
-- them, so reading it needs no memory of this program.
abbrev pub zero_page : File
zero_page = record {
  input = inputs.ZeroPage;
  limit = 4096;
  takes = λ bytes. false;
  says = λ bytes given. with_value set_zero_page given (zero_page_or_fault bytes);
}

-- what the fault's error line says after `zeropage: `, such as `entry 3 too far`
abbrev pub zero_page_diagnostic : ZeroFault → Diagnostic
zero_page_diagnostic zero.WrongLength = Diagnostic.Whole (codes "wrong length")
zero_page_diagnostic zero.TooFew = Diagnostic.Whole (codes "too few entries")
zero_page_diagnostic zero.TooMany = Diagnostic.Whole (codes "too many entries")
zero_page_diagnostic (zero.EntryTooFar index) = Diagnostic.Far (codes "entry") index
zero_page_diagnostic zero.InitrdTooFar = Diagnostic.Whole (codes "initrd too far")
