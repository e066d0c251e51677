-- The command line of each program as a command of `clap`. The port of `clap` defines which words a
-- command refuses (`fault_of`), and which value it finds for each argument (`matches_of`).
use Rattle.std.specs.Prelude.{ℕ, ◌==◌, Bool, true, false, List, [], ◌∷◌, ◌++◌, Some, codes, fold, length}
use Rattle.clap.specs.Words.{App, Rule, fault_of, new_app, new_rule, with_rule}
use Rattle.clap.specs.declared.builder.action.ArgAction.{ArgAction}
use Rattle.clap.specs.declared.builder.action.ArgAction.TheVariants.{Set, SetTrue}

-- An option: its name and its action. With the action `Set` it takes a value, written `--NAME
-- VALUE` or `--NAME=VALUE`. With `SetTrue` it is a flag, written `--NAME`.
abbrev pub OptionRow : Type 0
OptionRow = List ℕ × ArgAction

-- the option as an argument of `clap`, written `--NAME`
abbrev pub option_rule : OptionRow → Rule
option_rule option = record (new_rule option.0) { long = Some option.0; action = Some option.1 }

-- the command with one more option
abbrev pub with_option : App → OptionRow → App
with_option command option = with_rule command (option_rule option)

-- a positional argument of `clap`: a word that belongs to no option
abbrev pub positional_rule : List ℕ → Rule
positional_rule name = record (new_rule name) { action = Some Set }

-- the command with one more positional argument
abbrev pub with_positional : App → List ℕ → App
with_positional command name = with_rule command (positional_rule name)

-- the options of `bootmem`, in the order in which its command has them
abbrev pub options : List OptionRow
options =
    (codes "la57", SetTrue)
    ∷ (codes "mirror", Set)
    ∷ (codes "bottom-up", SetTrue)
    ∷ (codes "cmdline", Set)
    ∷ (codes "e820ext", Set)
    ∷ (codes "srat", Set)
    ∷ (codes "script", Set)
    ∷ (codes "pages", Set)
    ∷ (codes "slit", Set)
    ∷ (codes "efi", Set)
    ∷ (codes "kernel", Set)
    ∷ (codes "report", Set)
    ∷ (codes "make", Set)
    ∷ []

-- the options of `bootmem61`: those of `bootmem`, and the file of early claims
abbrev pub options61 : List OptionRow
options61 = options ++ (codes "claims", Set) ∷ []

-- whether an option with this action takes a value
abbrev pub has_value : ArgAction → Bool
has_value Set = true
has_value _ = false

-- whether an option with this action is a flag
abbrev pub is_flag_action : ArgAction → Bool
is_flag_action SetTrue = true
is_flag_action _ = false

-- a command of `clap` with this name and no arguments, not even `--help` and `--version`; the words
-- that it reads don't begin with the program's name
abbrev pub bare_app : List ℕ → App
bare_app name = record (new_app name) {
  top = record (new_app name).top { no_binary_name = true; disable_help_flag = true; disable_version_flag = true };
}

-- the command of a program: its options and the argument ZEROPAGE, the name of the zero page's
-- file; `clap` requires none of them
abbrev pub program_command : List ℕ → List OptionRow → App
program_command name options = with_positional (fold with_option (bare_app name) options) (codes "ZEROPAGE")

-- the command line of `bootmem`, as a command of `clap`
unfoldable pub bootmem_command : App
bootmem_command = program_command (codes "bootmem") options

-- the command line of `bootmem61`, as a command of `clap`
unfoldable pub bootmem61_command : App
bootmem61_command = program_command (codes "bootmem61") options61

-- whether `clap` accepts the words for this command
abbrev pub is_faultless_for : App → List (List ℕ) → Bool
is_faultless_for command words = length (fault_of command words) == 0

-- whether `clap` accepts the words for `bootmem`
abbrev pub is_faultless : List (List ℕ) → Bool
is_faultless words = is_faultless_for bootmem_command words
