-- Examples: what small command lines ask for.
use Rattle.std.proofs.Common.{◌≡◌, ℕ, zero, suc, ◌++◌, true, false, List, [], ◌∷◌, codes, Option, Some, None, refl, if◌then◌else◌}
use Rattle.std.specs.Option.{option_map}
use Rattle.clap.proofs.OnLiterals.{clap_on_literals}
use Rattle.clap.specs.Words.{matches_of}
use Rattle.bm_base.specs.OptionSteps.{◌>>=◌, some_if}
use Rattle.bm_base.specs.declared.width.Width.TheVariants.{Bits46, Bits52}
use Rattle.boot_model.specs.Boot.{InputsView, inputs_without_files}
use Rattle.boot_inputs.specs.declared.input.Input.TheVariants as inputs
use Rattle.debugfs_reports.specs.ReportList.{are_reports, reports_in}
use Rattle.debugfs_reports.specs.declared.report.Report.{Report}
use Rattle.debugfs_reports.specs.declared.report.Report.TheVariants as reports
use Rattle.program_args.specs.Entries.{entry_count_in, made_entry_count}
use Rattle.program_args.specs.Grammar.{is_faultless, bootmem61_command, bootmem_command, options, options61}
use Rattle.program_args.specs.Kernel.{default_kernel, image_if_allowed, kernel_range_in, kernel_range_of}
use Rattle.program_args.specs.Mirrors.{are_mirror_pieces, mirrors_of_value}
use Rattle.program_args.specs.Range.{base_size_range}
use Rattle.program_args.specs.Spelling.{Spelling, two_word_option, spelled_values, is_flag, is_option, one_word_option, named, words_of_spellings, default_value}
use Rattle.program_args.specs.Args.{ArgValues, BootmemArgsView, args_from_values, arg_value_in, command_line_inputs, file_name_in, has_one_source, is_flag_given, read_args, read_args61, requested_list, address_width_in}

-- what a command line asks `bootmem` for, with one field for each file name, so that two of them
-- can be compared by computing
record Asked : Type 0 where
  zero_page : Option (List ℕ)
  extension : Option (List ℕ)
  command_line : Option (List ℕ)
  srat : Option (List ℕ)
  script : Option (List ℕ)
  pages : Option (List ℕ)
  slit : Option (List ℕ)
  efi : Option (List ℕ)
  begun : InputsView
  reports : List Report
  made : Option ℕ

abbrev seen : BootmemArgsView → Asked
seen args = record {
  zero_page = args.named inputs.ZeroPage;
  extension = args.named inputs.Extension;
  command_line = args.named inputs.CommandLine;
  srat = args.named inputs.Srat;
  script = args.named inputs.Script;
  pages = args.named inputs.Pages;
  slit = args.named inputs.Slit;
  efi = args.named inputs.Efi;
  begun = args.begun;
  reports = args.reports;
  made = args.made;
}

abbrev asked : List (List ℕ) → Option Asked
asked words = option_map seen (read_args words)

abbrev map_of_zp : Asked
map_of_zp = record {
  zero_page = Some (codes "zp");
  extension = None;
  command_line = None;
  srat = None;
  script = None;
  pages = None;
  slit = None;
  efi = None;
  begun = inputs_without_files Bits46 default_kernel;
  reports = reports.Map ∷ [];
  made = None;
}

-- `bootmem --report map zp`; the same with the file name first and the value after `=`; the file
-- name alone, which asks for the default report
named_words : (asked (codes "--report" ∷ codes "map" ∷ codes "zp" ∷ []) ≡ Some map_of_zp)
    × (asked (codes "zp" ∷ codes "--report=map" ∷ []) ≡ Some map_of_zp)
    × (asked (codes "zp" ∷ []) ≡ Some (record map_of_zp { reports = reports.Buddyinfo ∷ [] }))
unfolding bootmem_command clap_on_literals
named_words = (refl, refl, refl)

-- all inputs, options in both forms
all_words : asked (codes "--cmdline=-c" ∷ codes "--kernel" ∷ codes "16M,0x200000" ∷ codes "--script" ∷ codes "s" ∷ codes "zp" ∷
    codes "--e820ext" ∷ codes "e" ∷
    codes "--srat=t" ∷ codes "--slit=d" ∷ codes "--pages" ∷ codes "p" ∷ codes "--efi=m" ∷
    codes "--report=map,options,map" ∷
    []) ≡ Some (record {
      zero_page = Some (codes "zp");
      extension = Some (codes "e");
      command_line = Some (codes "-c");
      srat = Some (codes "t");
      script = Some (codes "s");
      pages = Some (codes "p");
      slit = Some (codes "d");
      efi = Some (codes "m");
      begun = inputs_without_files Bits46 (record { base = 0x1000000; size = 0x200000 });
      reports = reports.Map ∷ reports.Options ∷ reports.Map ∷ [];
      made = None;
    })
unfolding bootmem_command clap_on_literals
all_words = refl

-- both flags, and two mirrored ranges, of which one has no whole frame
flag_words : asked (codes "--bottom-up" ∷ codes "--mirror" ∷ codes "4095,8193:1,4096" ∷ codes "zp" ∷ codes "--report=map"
    ∷ codes "--la57" ∷ [])
    ≡ Some (record map_of_zp {
      begun = record (inputs_without_files Bits52 default_kernel) { mirrors = record { first = 1; count = 2 } ∷ []; upward = true };
    })
unfolding bootmem_command clap_on_literals
flag_words = refl

-- an image at 2^46 is accepted only with `--la57`
wide_kernel : (read_args (codes "--kernel" ∷ codes "0x400000000000,0x2000" ∷ codes "zp" ∷ []) ≡ None)
    × (asked (codes "--la57" ∷ codes "--kernel" ∷ codes "0x400000000000,0x2000" ∷ codes "--report=map" ∷ codes "zp" ∷ [])
    ≡ Some (record map_of_zp { begun = inputs_without_files Bits52 (record { base = 0x400000000000; size = 0x2000 }) }))
unfolding bootmem_command clap_on_literals
wide_kernel = (refl, refl)

-- a made table in place of a zero page; after `--` any word is a name
made_words : (asked (codes "--make" ∷ codes "007" ∷ codes "--report" ∷ codes "map" ∷ [])
    ≡ Some (record map_of_zp { zero_page = None; made = Some 7 }))
    × (asked (codes "--report=map" ∷ codes "--" ∷ codes "-zp" ∷ []) ≡ Some (record map_of_zp { zero_page = Some (codes "-zp") }))
unfolding bootmem_command clap_on_literals
made_words = (refl, refl)

-- Refused by `clap`: an option twice, an option without a value, a value in a word of its own that
-- begins with a hyphen, two names, an unknown option, and an abbreviated option. Also a flag that
-- is given twice, has a value in the next word or after `=`, or is abbreviated. The empty value is
-- accepted.
faults_of_words : (is_faultless (codes "--report=map" ∷ codes "--report=map" ∷ codes "zp" ∷ []) ≡ false)
    × (is_faultless (codes "zp" ∷ codes "--report" ∷ []) ≡ false)
    × (is_faultless (codes "--cmdline" ∷ codes "-c" ∷ codes "zp" ∷ []) ≡ false) × (is_faultless (codes "zp" ∷ codes "zp" ∷ []) ≡ false)
    × (is_faultless (codes "--help" ∷ []) ≡ false) × (is_faultless (codes "--rep" ∷ codes "map" ∷ codes "zp" ∷ []) ≡ false)
    × (is_faultless (codes "--la57" ∷ codes "zp" ∷ codes "--la57" ∷ []) ≡ false)
    × (is_faultless (codes "--bottom-up" ∷ codes "true" ∷ codes "zp" ∷ []) ≡ false)
    × (is_faultless (codes "--la57=true" ∷ codes "zp" ∷ []) ≡ false) × (is_faultless (codes "--bottom" ∷ codes "zp" ∷ []) ≡ false)
    × (is_faultless (codes "--script" ∷ codes "" ∷ []) ≡ true) × (is_faultless (codes "--script" ∷ []) ≡ false)
unfolding bootmem_command clap_on_literals
faults_of_words = (refl, refl, refl, refl, refl, refl, refl, refl, refl, refl, refl, refl)

-- Accepted by `clap`, but refused for their values: no source of entries, an extension alone, two
-- sources, a made table with an extension, an empty list of reports, a kernel below 1 MiB.
refused_for_what_they_ask : (is_faultless [] ≡ true) × (read_args [] ≡ None) × (read_args (codes "--e820ext=e" ∷ []) ≡ None)
    × (read_args (codes "--make=5" ∷ codes "--report=map" ∷ codes "zp" ∷ []) ≡ None)
    × (read_args (codes "--make=5" ∷ codes "--report=map" ∷ codes "--e820ext=e" ∷ []) ≡ None)
    × (read_args (codes "--report=" ∷ codes "zp" ∷ []) ≡ None)
    × (read_args (codes "--report=map" ∷ codes "--kernel=0xFF000,0x2000000" ∷ codes "zp" ∷ []) ≡ None)
unfolding bootmem_command clap_on_literals
refused_for_what_they_ask = (refl, refl, refl, refl, refl, refl, refl)

-- ---- two programs

-- what the values ask `bootmem` for, and what its words do, written without `bootmem61`
abbrev values_of_bootmem : ArgValues → Option BootmemArgsView
values_of_bootmem value = do
  source ← some_if (has_one_source value)
  made ← made_entry_count (value (codes "make"))
  kernel ← kernel_range_of (address_width_in value) (value (codes "kernel"))
  list ← if are_reports (requested_list value) then Some (requested_list value) else None
  mirrors ← mirrors_of_value (value (codes "mirror"))
  Some (record {
    named = file_name_in value;
    begun = command_line_inputs (address_width_in value) kernel mirrors (is_flag_given value (codes "bottom-up"));
    reports = reports_in list;
    made = made;
  })

abbrev words_of_bootmem : List (List ℕ) → Option BootmemArgsView
words_of_bootmem words = if is_faultless words then values_of_bootmem (arg_value_in (matches_of bootmem_command words)) else None

same_values : (value : ArgValues) → args_from_values value ≡ values_of_bootmem value
same_values value = refl

same_words : (words : List (List ℕ)) → read_args words ≡ words_of_bootmem words
same_words words = refl

-- the list of reports and the name of the file of early claims
abbrev asked61 : List (List ℕ) → Option (List ℕ × Option (List ℕ))
asked61 words = option_map (λ args. (args.list, args.claims)) (read_args61 words)

-- the option and the report of `bootmem61`, which `bootmem` refuses
claims_words : (asked61 (codes "--claims" ∷ codes "c" ∷ codes "--report=map,claims" ∷ codes "zp" ∷ [])
    ≡ Some (codes "map,claims", Some (codes "c")))
    × (asked61 (codes "zp" ∷ []) ≡ Some (codes "buddyinfo", None))
    × (asked61 (codes "--claims=c" ∷ codes "--claims=c" ∷ codes "zp" ∷ []) ≡ None)
    × (is_faultless (codes "--claims=c" ∷ codes "zp" ∷ []) ≡ false)
    × (read_args (codes "--report=claims" ∷ codes "zp" ∷ []) ≡ None)
unfolding bootmem_command bootmem61_command clap_on_literals
claims_words = (refl, refl, refl, refl, refl)

-- ---- the parts

-- 2 to 3000 entries, with or without leading zeros; only digits
entry_examples : (entry_count_in (codes "2") ≡ Some 2)
    × (entry_count_in (codes "0003000") ≡ Some 3000)
    × (entry_count_in (codes "3001") ≡ None)
    × (entry_count_in (codes "4294967298") ≡ None)
    × (entry_count_in [] ≡ None)
    × (entry_count_in (codes "5 ") ≡ None)
    × (made_entry_count (Some (codes "1")) ≡ None)
entry_examples = (refl, refl, refl, refl, refl, refl, refl)

-- Accepted: the lowest and the highest image. Refused: one frame too small, not whole frames, one
-- frame too high for 46 bits but not for 52, and one too high for both. Then texts of other forms,
-- the default, and an image below 1 MiB.
kernel_examples : (kernel_range_in Bits46 (codes "1M,8K") ≡ Some (record { base = 0x100000; size = 8192 }))
    × (kernel_range_in Bits46 (codes "0x3FFFFFFFE000,8192") ≡ Some (record { base = 0x3FFFFFFFE000; size = 8192 }))
    × (kernel_range_in Bits46 (codes "1M,4K") ≡ None)
    × (kernel_range_in Bits46 (codes "0x100800,32M") ≡ None)
    × (kernel_range_in Bits46 (codes "0x3FFFFFFFF000,8192") ≡ None)
    × (kernel_range_in Bits52 (codes "0x3FFFFFFFF000,8192") ≡ Some (record { base = 0x3FFFFFFFF000; size = 8192 }))
    × (kernel_range_in Bits52 (codes "0xFFFFFFFFFF000,8192") ≡ None)
    × (kernel_range_in Bits46 (codes "16M,32M,") ≡ None)
    × (kernel_range_in Bits46 (codes "16M,") ≡ None)
    × (kernel_range_in Bits46 (codes "16E,32M") ≡ None)
    × (kernel_range_of Bits46 None ≡ Some default_kernel)
    × (image_if_allowed Bits46 (record { base = 0; size = 0x2000000 }) ≡ None)
kernel_examples = (refl, refl, refl, refl, refl, refl, refl, refl, refl, refl, refl, refl)

-- a spelling with its value in the next word, the name of the zero page, and a spelling with its
-- value after `=`
abbrev three_spellings : List Spelling
three_spellings = two_word_option (codes "report") (codes "map") ∷ named (codes "zp") ∷ one_word_option (codes "script") (codes "-s") ∷ []

spelled_examples : words_of_spellings three_spellings ≡ codes "--report" ∷ codes "map" ∷ codes "zp" ∷ codes "--script=-s" ∷ []
spelled_examples = refl

-- without a spelling a flag is `false`, and an option has no value
flag_examples : (is_flag options (codes "la57") ≡ true)
    × (is_flag options (codes "mirror") ≡ false)
    × (default_value options (codes "la57") ≡ Some (codes "false"))
    × (default_value options (codes "kernel") ≡ None)
flag_examples = (refl, refl, refl, refl)

-- only `bootmem61` has the option `--claims`, which isn't a flag
claims_examples : (is_option options61 (codes "claims") ≡ true)
    × (is_flag options61 (codes "claims") ≡ false)
    × (is_option options (codes "claims") ≡ false)
    × (is_option options61 (codes "kernel") ≡ true)
claims_examples = (refl, refl, refl, refl)

-- accepted: ranges up to the last address; refused: a range that is too long, and a text of another
-- form
range_examples : (base_size_range (codes "4K,0x1000") ≡ Some (record { base = 4096; size = 4096 }))
    × (base_size_range (codes "0xFFFFFFFFFFFFEFFF,4096") ≡ Some (record { base = 0xFFFFFFFFFFFFEFFF; size = 4096 }))
    × (base_size_range (codes "0xFFFFFFFFFFFFF000,4096") ≡ None)
    × (base_size_range (codes "4K,4K,4K") ≡ None)
range_examples = (refl, refl, refl, refl)

-- The empty list; a list with an empty piece at its end; no list; a piece that isn't a range; and
-- two pieces, one of them without a whole frame.
frames_of_lists : (are_mirror_pieces [] ≡ false)
    × (are_mirror_pieces (codes "64M,16M:") ≡ false)
    × (mirrors_of_value None ≡ Some [])
    × (mirrors_of_value (Some (codes "64M")) ≡ None)
    × (mirrors_of_value (Some (codes "1,2:4K,4K")) ≡ Some (record { base = 4096; size = 4096 } ∷ []))
frames_of_lists = (refl, refl, refl, refl, refl)

-- 64 pieces are accepted, 65 refused
abbrev some_pieces : ℕ → List ℕ
some_pieces zero = codes "0,0"
some_pieces (suc more) = codes "0,0:" ++ some_pieces more

most_pieces : (are_mirror_pieces (some_pieces 63) ≡ true) × (are_mirror_pieces (some_pieces 64) ≡ false)
most_pieces = (refl, refl)

value_examples : (spelled_values options three_spellings (codes "script") ≡ Some (codes "-s"))
    × (spelled_values options three_spellings (codes "kernel") ≡ None)
    × (spelled_values options three_spellings (codes "ZEROPAGE") ≡ Some (codes "zp"))
value_examples = (refl, refl, refl)
