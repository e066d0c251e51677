-- The input files: the order in which they are read, and the word for each in error lines.
use Rattle.std.specs.Prelude.{ℕ, List, codes}
use Rattle.boot_inputs.specs.declared.input.Input.{Input}
use Rattle.boot_inputs.specs.declared.input.Input.TheVariants as inputs

-- the position of an input in the order in which the files are read, from 0
abbrev pub input_place : Input → ℕ
input_place inputs.ZeroPage = 0
input_place inputs.Extension = 1
input_place inputs.CommandLine = 2
input_place inputs.Srat = 3
input_place inputs.Script = 4
input_place inputs.Claims = 5
input_place inputs.Pages = 6
input_place inputs.Slit = 7
input_place inputs.Efi = 8

-- the word for the file in an error line, such as `cmdline` in `bootmem: cmdline: open quote`
abbrev pub input_word : Input → List ℕ
input_word inputs.ZeroPage = codes "zeropage"
input_word inputs.Extension = codes "e820ext"
input_word inputs.CommandLine = codes "cmdline"
input_word inputs.Srat = codes "srat"
input_word inputs.Script = codes "script"
input_word inputs.Claims = codes "claims"
input_word inputs.Pages = codes "pages"
input_word inputs.Slit = codes "slit"
input_word inputs.Efi = codes "efi"
