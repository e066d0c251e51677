-- The spelling of the words of a command line and of their values, form by form, as a grammar
-- (`next_arg` of lib/cmdline.c, `parse_memopt` and `parse_memmap_one` of arch/x86/kernel/e820.c,
-- `parse_crashkernel` of kernel/crash_core.c).
use Rattle.std.specs.Prelude.{◌≡◌, ◌≢◌, ℕ, ◌+◌, ◌^◌, ◌<◌, Option, Some, None, List, [], ◌∷◌, ◌++◌, length, codes, Ok}
use Rattle.std.specs.List.{AllByRecursion}
use Rattle.bm_base.specs.Range.{RangeView}
use Rattle.bm_base.specs.Size.{IsSize, IsNumber}
use Rattle.e820_model.specs.declared.entry.TheConstants.{E820_TYPE_RAM, E820_TYPE_RESERVED, E820_TYPE_ACPI, E820_TYPE_PRAM}
use Rattle.e820_model.specs.declared.entry.Edit.TheVariants.{Add, Remove, RemoveAll, Change}
use Rattle.text_words.specs.declared.separators.Separators.TheVariants.{CommandLine}
use Rattle.text_words.specs.Spelling.{HasWords, Unquotes}
use Rattle.boot_options.specs.declared.crash.CrashRange.{CrashRange}
use Rattle.boot_options.specs.declared.map_option.MapOption.{MapOption}
use Rattle.boot_options.specs.declared.map_option.MapOption.TheVariants.{ExactMap, Adding, Other}
use Rattle.boot_options.specs.Crash.{CrashFormView, Plain, High, Low, comma, one_range}
use Rattle.boot_options.specs.MapOptions.{ram_above, unless_empty}
use Rattle.boot_options.specs.Options.{AddEfi, NumaOff, OfCrash, OfMap, WordMeaning, command_line_of}

-- the texts `s` and `a` spell the size and the address of the range; the address plus the size is
-- at most 2^64 - 1
pub record SpellsPlace (s a : List ℕ) (range : RangeView) : Type 0 where
  pub size : IsSize s range.size
  pub base : IsSize a range.base
  pub ends : range.base + range.size < 2 ^ 64

-- the text is the mark and a type, a number from 1 to 2^32 - 1
pub data SpellsType (mark : List ℕ) : List ℕ → ℕ → Type 0 where
  a_type : (text : List ℕ) (kind : ℕ) → IsNumber text kind → 0 < kind → kind < 2 ^ 32 → SpellsType mark (mark ++ text) kind

-- the text gives no type: it is empty, or the mark and the number 0
pub data SpellsNoType (mark : List ℕ) : List ℕ → Type 0 where
  nothing : SpellsNoType mark []
  type_zero : (text : List ℕ) → IsNumber text 0 → SpellsNoType mark (mark ++ text)

-- the text spells a map option of `memmap=`; the option has no edit if its range is empty
pub data SpellsMapOption : List ℕ → MapOption → Type 0 where
  exactmap : SpellsMapOption (codes "exactmap") ExactMap
  ram : (s a : List ℕ) (range : RangeView) → SpellsPlace s a range
      → SpellsMapOption (s ++ (codes "@" ++ a)) (Adding (unless_empty range (Add range E820_TYPE_RAM)))
  acpi : (s a : List ℕ) (range : RangeView) → SpellsPlace s a range
      → SpellsMapOption (s ++ (codes "#" ++ a)) (Adding (unless_empty range (Add range E820_TYPE_ACPI)))
  reserved : (s a : List ℕ) (range : RangeView) → SpellsPlace s a range
      → SpellsMapOption (s ++ (codes "$" ++ a)) (Adding (unless_empty range (Add range E820_TYPE_RESERVED)))
  persistent : (s a : List ℕ) (range : RangeView) → SpellsPlace s a range
      → SpellsMapOption (s ++ (codes "!" ++ a)) (Adding (unless_empty range (Add range E820_TYPE_PRAM)))
  size_alone : (s : List ℕ) (size : ℕ) → IsSize s size → SpellsMapOption s (Other (ram_above size))
  every_type : (s a f t : List ℕ) (range : RangeView) → SpellsPlace s a range → SpellsNoType (codes "-") f → SpellsNoType (codes "+") t
      → SpellsMapOption (s ++ (codes "%" ++ (a ++ (f ++ t)))) (Other (unless_empty range (RemoveAll range)))
  one_type : (s a f t : List ℕ) (range : RangeView) (from : ℕ) → SpellsPlace s a range → SpellsType (codes "-") f from
      → SpellsNoType (codes "+") t
      → SpellsMapOption (s ++ (codes "%" ++ (a ++ (f ++ t)))) (Other (unless_empty range (Remove range from)))
  new_type : (s a f t : List ℕ) (range : RangeView) (to : ℕ) → SpellsPlace s a range → SpellsNoType (codes "-") f
      → SpellsType (codes "+") t to
      → SpellsMapOption (s ++ (codes "%" ++ (a ++ (f ++ t)))) (Adding (unless_empty range (Add range to)))
  other_type : (s a f t : List ℕ) (range : RangeView) (from to : ℕ) → SpellsPlace s a range → SpellsType (codes "-") f from
      → SpellsType (codes "+") t to → from ≢ to
      → SpellsMapOption (s ++ (codes "%" ++ (a ++ (f ++ t)))) (Other (unless_empty range (Change range from to)))

-- the value of `memmap=` spells these map options, one or more, with commas between them
pub data SpellsMapOptions : List ℕ → List MapOption → Type 0 where
  last_option : (text : List ℕ) (option : MapOption) → SpellsMapOption text option → SpellsMapOptions text (option ∷ [])
  next_option : (text value : List ℕ) (option : MapOption) (options : List MapOption) → SpellsMapOption text option
      → SpellsMapOptions value options → SpellsMapOptions (text ++ (codes "," ++ value)) (option ∷ options)

-- the value of `mem=` spells this map option
pub data SpellsMem : List ℕ → MapOption → Type 0 where
  nopentium : SpellsMem (codes "nopentium") (Other None)
  end_of_ram : (s : List ℕ) (size : ℕ) → IsSize s size → 0 < size → SpellsMem s (Other (ram_above size))

-- the text spells the end of a range, which is above the range's start; an empty text means that
-- there is no end
abbrev pub SpellsEnd : List ℕ → Option ℕ → ℕ → Type 0
SpellsEnd text None start = text ≡ []
SpellsEnd text (Some end) start = IsSize text end × (start < end)

-- the text spells the range of total memory and its size: `START-END:SIZE`, where END may be
-- missing
pub record SpellsRange (spelled : List ℕ) (r : CrashRange) : Type 0 where
  pub start_text : List ℕ
  pub end_text : List ℕ
  pub size_text : List ℕ
  pub text : spelled ≡ start_text ++ (codes "-" ++ (end_text ++ (codes ":" ++ size_text)))
  pub start : IsSize start_text r.start
  pub end : SpellsEnd end_text r.end r.start
  pub size : IsSize size_text r.size

-- each text spells the range at the same index of the second list; both lists have the same length
abbrev pub SpellRanges : List (List ℕ) → List CrashRange → Type 0
SpellRanges [] [] = Unit {0}
SpellRanges [] (r ∷ rs) = ⊥
SpellRanges (text ∷ texts) [] = ⊥
SpellRanges (text ∷ texts) (r ∷ rs) = SpellsRange text r × SpellRanges texts rs

-- the texts with commas between them
abbrev pub join_with_commas : List (List ℕ) → List ℕ
join_with_commas [] = []
join_with_commas (text ∷ []) = text
join_with_commas (text ∷ next ∷ texts) = text ++ (comma ∷ join_with_commas (next ∷ texts))

-- the text spells the base of a plain form: a size after `@`, or nothing, which means 0
pub data SpellsBase : List ℕ → ℕ → Type 0 where
  no_base : SpellsBase [] 0
  a_base : (text : List ℕ) (base : ℕ) → IsSize text base → SpellsBase (codes "@" ++ text) base

-- the value of `crashkernel=` spells this form
pub data SpellsForm : List ℕ → CrashFormView → Type 0 where
  one_size : (s b : List ℕ) (size base : ℕ) → IsSize s size → SpellsBase b base → SpellsForm (s ++ b) (Plain (one_range size base))
  by_ranges : (text b : List ℕ) (texts : List (List ℕ)) (ranges : List CrashRange) (base : ℕ) → SpellRanges (text ∷ texts) ranges
      → SpellsBase b base → SpellsForm (join_with_commas (text ∷ texts) ++ b) (Plain (record { ranges = ranges; base = base }))
  high : (s : List ℕ) (size : ℕ) → IsSize s size → SpellsForm (s ++ codes ",high") (High size)
  low : (s : List ℕ) (size : ℕ) → IsSize s size → SpellsForm (s ++ codes ",low") (Low size)

-- the value is one that `mem` may have
abbrev pub IsMemValue : List ℕ → Type 0
IsMemValue value = (option : MapOption) × SpellsMem value option

-- the value is one that `memmap` may have
abbrev pub IsMemmapValue : List ℕ → Type 0
IsMemmapValue value = (options : List MapOption) × SpellsMapOptions value options

-- the value is one that `crashkernel` may have
abbrev pub IsCrashValue : List ℕ → Type 0
IsCrashValue value = (form : CrashFormView) × SpellsForm value form

-- the value is the only one that `numa` may have
abbrev pub IsNumaValue : List ℕ → Type 0
IsNumaValue value = value ≡ codes "off"

-- the word has this name and is malformed: it has no `=`, or its value, without quotation marks,
-- isn't one that the name may have
pub data IsMalformed (name : List ℕ) (IsValue : List ℕ → Type 0) : List ℕ → Type 0 where
  no_value : IsMalformed name IsValue name
  other_value : (raw value : List ℕ) → Unquotes raw value → (IsValue value → ⊥) → IsMalformed name IsValue (name ++ (codes "=" ++ raw))

-- the word is a malformed `mem=`
abbrev pub IsBadMem : List ℕ → Type 0
IsBadMem = IsMalformed (codes "mem") IsMemValue

-- the word is a malformed `memmap=`
abbrev pub IsBadMemmap : List ℕ → Type 0
IsBadMemmap = IsMalformed (codes "memmap") IsMemmapValue

-- the word is a malformed `crashkernel=`
abbrev pub IsBadCrash : List ℕ → Type 0
IsBadCrash = IsMalformed (codes "crashkernel") IsCrashValue

-- the word is a malformed `numa=`
abbrev pub IsBadNuma : List ℕ → Type 0
IsBadNuma = IsMalformed (codes "numa") IsNumaValue

-- the word isn't malformed: it has none of these names, or a value that its name may have
pub record IsSoundWord (word : List ℕ) : Type 0 where
  pub mem : IsBadMem word → ⊥
  pub memmap : IsBadMemmap word → ⊥
  pub crash : IsBadCrash word → ⊥
  pub numa : IsBadNuma word → ⊥

-- the second list has the words of the first without their quotation marks, up to the first `--`
pub data OptionWords : List (List ℕ) → List (List ℕ) → Type 0 where
  line_end : OptionWords [] []
  two_dashes : (raw : List ℕ) (raws : List (List ℕ)) → Unquotes raw (codes "--") → OptionWords (raw ∷ raws) []
  a_word : (raw word : List ℕ) (raws words : List (List ℕ)) → Unquotes raw word → word ≢ codes "--" → OptionWords raws words
      → OptionWords (raw ∷ raws) (word ∷ words)

-- the first malformed word of the line in these bytes has this number, counted from 1, and is
-- malformed as `IsBad` says
pub record IsFirstWordFault (bytes : List ℕ) (number : ℕ) (IsBad : List ℕ → Type 0) : Type 0 where
  pub line : List ℕ
  pub raws : List (List ℕ)
  pub front : List (List ℕ)
  pub word : List ℕ
  pub rest : List (List ℕ)
  pub read : command_line_of bytes ≡ Ok line
  pub lie : HasWords CommandLine line raws
  pub words : OptionWords raws (front ++ (word ∷ rest))
  pub sound : AllByRecursion IsSoundWord front
  pub place : number ≡ length front + 1
  pub bad : IsBad word

-- the word has this name: it is the name, or the name, a `=` and any text
pub data HasName (name : List ℕ) : List ℕ → Type 0 where
  alone : HasName name name
  with_value : (raw : List ℕ) → HasName name (name ++ (codes "=" ++ raw))

-- the word has none of the five names `mem`, `memmap`, `crashkernel`, `numa` and `add_efi_memmap`
pub record IsOtherWord (word : List ℕ) : Type 0 where
  pub mem : HasName (codes "mem") word → ⊥
  pub memmap : HasName (codes "memmap") word → ⊥
  pub crash : HasName (codes "crashkernel") word → ⊥
  pub numa : HasName (codes "numa") word → ⊥
  pub efi : HasName (codes "add_efi_memmap") word → ⊥

-- the word has this meaning, by its name and its value without quotation marks. A word with none
-- of the five names has no effect.
pub data SpellsMeaning : List ℕ → WordMeaning → Type 0 where
  mem_word : (raw value : List ℕ) (option : MapOption) → Unquotes raw value → SpellsMem value option
      → SpellsMeaning (codes "mem" ++ (codes "=" ++ raw)) (OfMap (option ∷ []))
  memmap_word : (raw value : List ℕ) (options : List MapOption) → Unquotes raw value → SpellsMapOptions value options
      → SpellsMeaning (codes "memmap" ++ (codes "=" ++ raw)) (OfMap options)
  crash_word : (raw value : List ℕ) (form : CrashFormView) → Unquotes raw value → SpellsForm value form
      → SpellsMeaning (codes "crashkernel" ++ (codes "=" ++ raw)) (OfCrash form)
  numa_word : (raw : List ℕ) → Unquotes raw (codes "off") → SpellsMeaning (codes "numa" ++ (codes "=" ++ raw)) NumaOff
  efi_word : (word : List ℕ) → HasName (codes "add_efi_memmap") word → SpellsMeaning word AddEfi
  other_word : (word : List ℕ) → IsOtherWord word → SpellsMeaning word (OfMap [])

-- each word has the meaning at the same place in the list, and the words are numbered from
-- `number` on
abbrev pub SpellEach : ℕ → List (List ℕ) → List (ℕ × WordMeaning) → Type 0
SpellEach number [] [] = Unit {0}
SpellEach number [] (s ∷ said) = ⊥
SpellEach number (word ∷ words) [] = ⊥
SpellEach number (word ∷ words) (s ∷ said) = (s.0 ≡ number) × SpellsMeaning word s.1 × SpellEach (number + 1) words said

-- the words of the line up to `--` have these meanings, in order, and are numbered from 1
pub record SpellsLine (line : List ℕ) (said : List (ℕ × WordMeaning)) : Type 0 where
  pub raws : List (List ℕ)
  pub words : List (List ℕ)
  pub lie : HasWords CommandLine line raws
  pub options : OptionWords raws words
  pub spell : SpellEach 1 words said
