-- The inputs that the files give with the EFI memory map, compared with those that they give
-- without it.
use Rattle.std.specs.Prelude.{◌≡◌, ℕ, Bool, false, List, [], codes, None, Ok, IfSome}
use Rattle.std.specs.Option.{option_and_then}
use Rattle.std.specs.List.{list_any}
use Rattle.std.specs.Str.{bytes_eq}
use Rattle.boot_options.specs.Options.{name_value_of, option_words, raw_line}
use Rattle.efi_map.specs.Map.{descriptors_of}
use Rattle.boot_model.specs.Boot.{InputsView, claims, judge_map, no_options}
use Rattle.boot_inputs.specs.declared.input.Input.TheVariants as inputs
use Rattle.boot_inputs.specs.Inputs.{FileNames, inputs_of}
use Rattle.program_end.specs.Program.{FileContents}

-- the names of the files, with no name for the EFI memory map
abbrev pub without_efi : FileNames → FileNames
without_efi named inputs.Efi = None
without_efi named input = named input

-- whether a word of the command line has the name `add_efi_memmap`, with any value
-- (`setup_add_efi_memmap`)
abbrev pub has_efi_word : List ℕ → Bool
has_efi_word bytes = list_any (λ word. bytes_eq (name_value_of word).0 (codes "add_efi_memmap")) (option_words (raw_line bytes))

-- no word of the command line has the name `add_efi_memmap`, or there is no command line
abbrev pub LacksEfiWord : FileContents → FileNames → Type 0
LacksEfiWord held named = IfSome (option_and_then held (named inputs.CommandLine)) (λ bytes. has_efi_word bytes ≡ false)

-- the file of the EFI memory map has no descriptor after its header, or there is no such file
abbrev pub LacksDescriptors : FileContents → FileNames → Type 0
LacksDescriptors held named = IfSome (option_and_then held (named inputs.Efi)) (λ bytes. descriptors_of bytes ≡ [])

-- the inputs before any file is read have no options and no EFI memory map
pub record IsBeforeFiles (begun : InputsView) : Type 0 where
  pub options : begun.options ≡ no_options
  pub efi : begun.efi ≡ None

-- the inputs `given` without an EFI memory map
abbrev pub without_efi_map : InputsView → InputsView
without_efi_map given = record given { efi = None }

-- What it means that the EFI file doesn't change the map. Without it the other files are accepted
-- too, and give the same inputs, except that these have no EFI memory map. Each address has the
-- same claims of e820 types with the file and without it. The boot accepts the same map in both
-- cases, or stops for the same cause.
pub record HasMapWithoutEfi (held : FileContents) (named : FileNames) (begun given : InputsView) : Type 0 where
  pub inputs : inputs_of held (without_efi named) begun ≡ Ok (without_efi_map given)
  pub claims : (x : ℕ) → claims given x ≡ claims (without_efi_map given) x
  pub judged : judge_map given ≡ judge_map (without_efi_map given)
