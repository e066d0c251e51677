-- What an accepted command line of `bootmem` or `bootmem61` asks for. Both programs share one
-- definition, `args_of`. Its arguments are the program's command for `clap`, and the names of the
-- reports that this program has and `bootmem` doesn't.
use Rattle.std.specs.Prelude.{ℕ, Bool, true, false, ◌&&◌, is_some, not, if◌then◌else◌, List, [], map, codes, Option, Some, None, String, string_bytes, unwrap_or}
use Rattle.std.specs.Str.{bytes_eq}
use Rattle.std.specs.declared.alloc.Global.{Global}
use Rattle.clap.specs.Words.{App, Row, first_of, matches_of}
use Rattle.bm_base.specs.Range.{RangeView}
use Rattle.bm_base.specs.declared.width.Width.{Width}
use Rattle.bm_base.specs.declared.width.Width.TheVariants.{Bits46, Bits52}
use Rattle.bm_base.specs.OptionSteps.{◌>>=◌, some_if}
use Rattle.boot_model.specs.Boot.{InputsView, inputs_without_files}
use Rattle.boot_model.specs.Mirrors.{frame_range_of}
use Rattle.boot_inputs.specs.declared.input.Input.{Input}
use Rattle.boot_inputs.specs.declared.input.Input.TheVariants as inputs
use Rattle.boot_inputs.specs.Inputs.{FileNames}
use Rattle.debugfs_reports.specs.declared.report.Report.{Report}
use Rattle.debugfs_reports.specs.ReportList.{reports_in}
use Rattle.program_args.specs.Entries.{made_entry_count}
use Rattle.program_args.specs.Grammar.{is_faultless_for, bootmem_command, bootmem61_command}
use Rattle.program_args.specs.Kernel.{kernel_range_of}
use Rattle.program_args.specs.Mirrors.{mirrors_of_value}
use Rattle.program_args.specs.ReportNames.{are_report_names, reports_of_bootmem61}

-- An accepted command line of `bootmem`. `named` gives the name of each input's file, if it has
-- one. `begun` has the inputs that the command line itself gives. `reports` are the requested
-- reports. `made` is the number of entries of the generated e820 table, if `--make` asks for one
-- instead of a zero page.
pub record BootmemArgsView : Type 0 where
  pub named : FileNames
  pub begun : InputsView
  pub reports : List Report
  pub made : Option ℕ

-- What an accepted command line of either program asks for. `named`, `begun` and `made` mean the
-- same as in `BootmemArgsView`. `list` is the list of reports: names with commas between them.
-- `claims` is the name of the file of early claims, if there is one; `bootmem` has no option for
-- it.
pub record ProgramArgsView : Type 0 where
  pub named : FileNames
  pub begun : InputsView
  pub list : List ℕ
  pub made : Option ℕ
  pub claims : Option (List ℕ)

-- the part of an accepted command line that `bootmem` uses: all but the file of early claims, with
-- the reports that the list names instead of the list
abbrev pub bootmem_args : ProgramArgsView → BootmemArgsView
bootmem_args args = record { named = args.named; begun = args.begun; reports = reports_in args.list; made = args.made }

-- what an accepted command line asks `bootmem61` for: everything in `args`
abbrev pub bootmem61_args : ProgramArgsView → ProgramArgsView
bootmem61_args args = args

-- the name of each input's file for `bootmem61`: the value of `--claims` for the early claims, and
-- for all others the name that `bootmem` has too
abbrev pub named61 : ProgramArgsView → FileNames
named61 args inputs.Claims = args.claims
named61 args input = args.named input

-- the bytes of each word
abbrev pub bytes_of_words : List (String Global) → List (List ℕ)
bytes_of_words words = map string_bytes words

-- the name of the `clap` argument whose value is the name of the input's file
abbrev pub argument_of : Input → List ℕ
argument_of inputs.ZeroPage = codes "ZEROPAGE"
argument_of inputs.Extension = codes "e820ext"
argument_of inputs.CommandLine = codes "cmdline"
argument_of inputs.Srat = codes "srat"
argument_of inputs.Script = codes "script"
argument_of inputs.Claims = codes "claims"
argument_of inputs.Pages = codes "pages"
argument_of inputs.Slit = codes "slit"
argument_of inputs.Efi = codes "efi"

-- a map from the name of an argument to its value, if it has one
abbrev pub ArgValues : Type 0
ArgValues = List ℕ → Option (List ℕ)

-- the value of the argument `name` in the rows that `clap` returns, one for each argument that it
-- found
abbrev pub arg_value_in : List Row → ArgValues
arg_value_in rows name = first_of name rows

-- the name of each input's file, if the arguments have it; none for the early claims, since
-- `bootmem` has no such file
abbrev pub file_name_in : ArgValues → FileNames
file_name_in value inputs.Claims = None
file_name_in value input = value (argument_of input)

-- whether the e820 entries have exactly one source: `--make`, with neither ZEROPAGE nor
-- `--e820ext`; or ZEROPAGE, with or without `--e820ext`
abbrev pub has_one_source : ArgValues → Bool
has_one_source value =
    if is_some (value (codes "make"))
    then not (is_some (file_name_in value inputs.ZeroPage)) && not (is_some (file_name_in value inputs.Extension))
    else is_some (file_name_in value inputs.ZeroPage)

-- whether the flag is among the words; `clap` gives the value `true` to such a flag
abbrev pub is_flag_given : ArgValues → List ℕ → Bool
is_flag_given value flag = bytes_eq (unwrap_or (value flag) (codes "false")) (codes "true")

-- the width of physical addresses: 52 bits with page tables of five levels (`--la57`), else 46
abbrev pub address_width_in : ArgValues → Width
address_width_in value = if is_flag_given value (codes "la57") then Bits52 else Bits46

-- the list of reports if `--report` isn't given
abbrev pub default_list : List ℕ
default_list = codes "buddyinfo"

-- the value of `--report`, or the default list if the option isn't given
abbrev pub requested_list : ArgValues → List ℕ
requested_list value = unwrap_or (value (codes "report")) default_list

-- the requested list of reports, or `None` if a name in it is neither one of `further` nor the name
-- of a report of `bootmem`
abbrev pub report_list_in : List (List ℕ) → ArgValues → Option (List ℕ)
report_list_in further value = if are_report_names further (requested_list value) then Some (requested_list value) else None

-- the name of the file of early claims: the value of `--claims`, if there is one
abbrev pub claims_name_in : ArgValues → Option (List ℕ)
claims_name_in value = value (codes "claims")

-- the inputs that the command line itself gives: the width of addresses, the kernel's range, the
-- mirrored frames, and whether searches go from the lowest address up
abbrev pub command_line_inputs : Width → RangeView → List RangeView → Bool → InputsView
command_line_inputs width kernel mirrors upward =
    record (inputs_without_files width kernel) { mirrors = map frame_range_of mirrors; upward = upward }

-- What the values of the arguments ask for; `None` if a value is refused, or if the e820 entries
-- don't have exactly one source. A report may have any name that `bootmem` accepts, or one of
-- `further`. `read` takes from the result the part that the program uses.
abbrev pub args_by_values : {V : Type 0} → (ProgramArgsView → V) → List (List ℕ) → ArgValues → Option V
args_by_values read further value = do
  source ← some_if (has_one_source value)
  made ← made_entry_count (value (codes "make"))
  kernel ← kernel_range_of (address_width_in value) (value (codes "kernel"))
  list ← report_list_in further value
  mirrors ← mirrors_of_value (value (codes "mirror"))
  Some (read (record {
    named = file_name_in value;
    begun = command_line_inputs (address_width_in value) kernel mirrors (is_flag_given value (codes "bottom-up"));
    list = list;
    made = made;
    claims = claims_name_in value;
  }))

-- what `words` ask for as the command line of `command`; `None` if `clap` refuses the words, or the
-- value of an argument is refused
abbrev pub args_of : {V : Type 0} → (ProgramArgsView → V) → App → List (List ℕ) → List (List ℕ) → Option V
args_of read command further words =
    if is_faultless_for command words then args_by_values read further (arg_value_in (matches_of command words)) else None

-- what the values of the arguments ask `bootmem` for; `None` if a value is refused
abbrev pub args_from_values : ArgValues → Option BootmemArgsView
args_from_values value = args_by_values bootmem_args [] value

-- what the values ask `bootmem61` for
abbrev pub args61_from_values : ArgValues → Option ProgramArgsView
args61_from_values value = args_by_values bootmem61_args reports_of_bootmem61 value

-- what the words after the program's name ask `bootmem` for; `None` if `clap` refuses the words, or
-- the value of an argument is refused
abbrev pub read_args : List (List ℕ) → Option BootmemArgsView
read_args words = args_of bootmem_args bootmem_command [] words

-- what the words after the program's name ask `bootmem61` for; `None` if `clap` refuses the words,
-- or the value of an argument is refused
abbrev pub read_args61 : List (List ℕ) → Option ProgramArgsView
read_args61 words = args_of bootmem61_args bootmem61_command reports_of_bootmem61 words
