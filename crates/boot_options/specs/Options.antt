-- The options of a command line, word by word (`parse_early_param`, `next_arg` of lib/cmdline.c,
-- and the handlers of `mem=`, `memmap=`, `crashkernel=`, `numa=` and `add_efi_memmap`).
use Rattle.std.specs.Prelude.{ℕ, ◌+◌, ◌%◌, ◌<◌, ◌==◌, ◌⊎◌, IsSome, Bool, true, false, nat_lt, if◌then◌else◌, Option, Some, None, List, [], ◌∷◌, map, length, codes, Result, Ok, Err}
use Rattle.std.specs.Option.{option_map, option_and_then, option_or}
use Rattle.std.specs.List.{filter_map}
use Rattle.std.specs.Str.{bytes_eq}
use Rattle.std.specs.Prelude.{count_by}
use Rattle.bm_base.specs.ResultSteps.{◌>>=◌}
use Rattle.e820_model.specs.declared.entry.Edit.{Edit}
use Rattle.e820_model.specs.declared.entry.Edit.TheVariants.{Add, Remove, RemoveAll, Change, Clear}
use Rattle.text_words.specs.declared.separators.Separators.TheVariants.{CommandLine, Byte}
use Rattle.text_words.specs.Parts.{text_before, split_once, parts_in}
use Rattle.text_words.specs.Words.{words_in, unquote, without_last}
use Rattle.boot_options.specs.declared.fault.OptionFault.{OptionFault}
use Rattle.boot_options.specs.declared.fault.OptionFault.TheVariants as faults
use Rattle.boot_options.specs.declared.options.Options.{Options}
use Rattle.boot_options.specs.declared.options.TheConstants.{LONGEST_LINE}
use Rattle.boot_options.specs.declared.map_option.MapOption.{MapOption}
use Rattle.boot_options.specs.declared.map_option.MapOption.TheVariants.{ExactMap, Adding, Other}
use Rattle.boot_options.specs.Crash.{CrashOptionView, CrashFormView, CrashPlainView, Plain, High, Low, crash_option_view, crash_form_of}
use Rattle.boot_options.specs.MapOptions.{map_option_of, mem_of}

-- the command line in a file: the bytes before the first zero byte, without a newline at the end
abbrev pub raw_line : List ℕ → List ℕ
raw_line bytes = without_last 10 (text_before 0 bytes)

-- whether each quotation of the line closes: the line has an even number of `"`
abbrev pub is_closed : List ℕ → Bool
is_closed line = count_by (λ b. b == 34) line % 2 == 0

-- the line, or TooLong if it has more than 2,047 bytes (`COMMAND_LINE_SIZE` less the zero byte), or
-- OpenQuote if it has an odd number of `"`
abbrev pub checked_line : List ℕ → Result (List ℕ) OptionFault
checked_line line =
    if nat_lt LONGEST_LINE (length line) then Err faults.TooLong
    else (if is_closed line then Ok line else Err faults.OpenQuote)

-- the command line in the bytes of a file, or its fault TooLong or OpenQuote
abbrev pub command_line_of : List ℕ → Result (List ℕ) OptionFault
command_line_of bytes = checked_line (raw_line bytes)

-- the meaning of one word: the map options of `mem=` or `memmap=` (none for a word without effect),
-- a form of `crashkernel=`, `numa=off`, or `add_efi_memmap`
pub data WordMeaning : Type 0 where
  OfMap : (options : List MapOption) → WordMeaning
  OfCrash : (form : CrashFormView) → WordMeaning
  NumaOff : WordMeaning
  AddEfi : WordMeaning

-- the map options that these texts spell; None if one is malformed
abbrev pub map_options_of : List (List ℕ) → Option (List MapOption)
map_options_of [] = Some []
map_options_of (text ∷ texts) = option_and_then (λ p. option_map (λ ps. p ∷ ps) (map_options_of texts)) (map_option_of text)

-- the meaning of the value of `memmap=`: one or more map options, with commas between them; None if
-- one is malformed
abbrev pub memmap_of : List ℕ → Option WordMeaning
memmap_of value = option_map OfMap (map_options_of (parts_in (Byte 44) value))

-- the meaning of a value of `mem=`, which is one map option
abbrev pub meaning_of_map_option : MapOption → WordMeaning
meaning_of_map_option p = OfMap (p ∷ [])

-- the meaning of the value of `crashkernel=`; None if the value is malformed
abbrev pub crash_of : List ℕ → Option WordMeaning
crash_of value = option_map OfCrash (crash_form_of value)

-- the meaning of the value of `numa=`, which must be `off`; None for any other value
abbrev pub numa_of : List ℕ → Option WordMeaning
numa_of value = if bytes_eq value (codes "off") then Some NumaOff else None

-- the meaning of a word, or the fault of the first argument if it has none
abbrev pub meaning_or_fault : OptionFault → Option WordMeaning → Result WordMeaning OptionFault
meaning_or_fault fault None = Err fault
meaning_or_fault fault (Some said) = Ok said

-- the meaning of a word, by its name. A word whose name isn't one of the five options has no
-- effect. An option without a value is malformed, except `add_efi_memmap`, which means the same
-- with and without a value (`setup_add_efi_memmap`).
abbrev pub word_meaning : ℕ → List ℕ × Option (List ℕ) → Result WordMeaning OptionFault
word_meaning number word =
    if bytes_eq word.0 (codes "mem") then meaning_or_fault (faults.BadMem number)
    (option_map meaning_of_map_option (option_and_then mem_of word.1)) else
    (if bytes_eq word.0 (codes "memmap") then meaning_or_fault (faults.BadMemmap number) (option_and_then memmap_of word.1) else
    (if bytes_eq word.0 (codes "crashkernel") then meaning_or_fault (faults.BadCrash number) (option_and_then crash_of word.1) else
    (if bytes_eq word.0 (codes "numa") then meaning_or_fault (faults.BadNuma number) (option_and_then numa_of word.1) else
    (if bytes_eq word.0 (codes "add_efi_memmap") then Ok AddEfi else
    Ok (OfMap [])))))

-- the name and the value of a word, from the texts before and after its first `=`. The value loses
-- the quotation marks around it. Without a `=` (None) the whole word is the name, and there is no
-- value.
abbrev pub split_name_value : List ℕ → Option (List ℕ × List ℕ) → List ℕ × Option (List ℕ)
split_name_value word None = (word, None)
split_name_value word (Some halves) = (halves.0, Some (unquote halves.1))

-- the name and the value of a word: the texts before and after its first `=` (byte 61)
abbrev pub name_value_of : List ℕ → List ℕ × Option (List ℕ)
name_value_of word = split_name_value word (split_once 61 word)

-- the words before the first word `--`, or all words if there is none
abbrev pub until_end : List (List ℕ) → List (List ℕ)
until_end [] = []
until_end (word ∷ words) = if bytes_eq word (codes "--") then [] else word ∷ until_end words

-- the words of the line before the word `--`, without the quotation marks around them
abbrev pub option_words : List ℕ → List (List ℕ)
option_words line = until_end (map unquote (words_in CommandLine line))

-- the meaning of each word with its number, or the fault of the first malformed word. The first
-- word has the number `number`.
abbrev pub word_meanings_from : ℕ → List (List ℕ) → Result (List (ℕ × WordMeaning)) OptionFault
word_meanings_from number [] = Ok []
word_meanings_from number (word ∷ words) = do
  said ← word_meaning number (name_value_of word)
  others ← word_meanings_from (number + 1) words
  Ok ((number, said) ∷ others)

-- the map options of one word, each with the number of the word, followed by the list `after`
abbrev pub numbered_map_options : ℕ → List MapOption → List (ℕ × MapOption) → List (ℕ × MapOption)
numbered_map_options number [] after = after
numbered_map_options number (p ∷ ps) after = (number, p) ∷ numbered_map_options number ps after

-- all map options in the order of the line, each with the number of its word
abbrev pub all_map_options : List (ℕ × WordMeaning) → List (ℕ × MapOption)
all_map_options [] = []
all_map_options ((number, OfMap ps) ∷ said) = numbered_map_options number ps (all_map_options said)
all_map_options ((number, OfCrash form) ∷ said) = all_map_options said
all_map_options ((number, NumaOff) ∷ said) = all_map_options said
all_map_options ((number, AddEfi) ∷ said) = all_map_options said

-- the edit that a map option makes, if any
abbrev pub edit_of : MapOption → Option Edit
edit_of ExactMap = Some Clear
edit_of (Adding edit) = edit
edit_of (Other edit) = edit

-- the edits of the numbered map options, in their order; an option without an edit is left out
abbrev pub edits_of : List (ℕ × MapOption) → List Edit
edits_of ps = filter_map (λ p. edit_of p.1) ps

-- whether some word is `numa=off`, by the words' meanings
abbrev pub is_numa_off : List (ℕ × WordMeaning) → Bool
is_numa_off [] = false
is_numa_off ((number, OfMap ps) ∷ said) = is_numa_off said
is_numa_off ((number, OfCrash form) ∷ said) = is_numa_off said
is_numa_off ((number, NumaOff) ∷ said) = true
is_numa_off ((number, AddEfi) ∷ said) = is_numa_off said

-- whether some word is `add_efi_memmap`, by the words' meanings
abbrev pub is_efi_added : List (ℕ × WordMeaning) → Bool
is_efi_added [] = false
is_efi_added ((number, OfMap ps) ∷ said) = is_efi_added said
is_efi_added ((number, OfCrash form) ∷ said) = is_efi_added said
is_efi_added ((number, NumaOff) ∷ said) = is_efi_added said
is_efi_added ((number, AddEfi) ∷ said) = true

-- the plain form of `crashkernel=`, if the word has that form
abbrev pub plain_crash_value : WordMeaning → Option CrashPlainView
plain_crash_value (OfMap ps) = None
plain_crash_value (OfCrash (Plain form)) = Some form
plain_crash_value (OfCrash (High size)) = None
plain_crash_value (OfCrash (Low size)) = None
plain_crash_value NumaOff = None
plain_crash_value AddEfi = None

-- the size of `crashkernel=S,high`, if the word has that form
abbrev pub high_crash_value : WordMeaning → Option ℕ
high_crash_value (OfMap ps) = None
high_crash_value (OfCrash (Plain form)) = None
high_crash_value (OfCrash (High size)) = Some size
high_crash_value (OfCrash (Low size)) = None
high_crash_value NumaOff = None
high_crash_value AddEfi = None

-- the size of `crashkernel=S,low`, if the word has that form
abbrev pub low_crash_value : WordMeaning → Option ℕ
low_crash_value (OfMap ps) = None
low_crash_value (OfCrash (Plain form)) = None
low_crash_value (OfCrash (High size)) = None
low_crash_value (OfCrash (Low size)) = Some size
low_crash_value NumaOff = None
low_crash_value AddEfi = None

-- the value that `pick` finds in the last word in which it finds one, or None
abbrev pub last_value : {A : Type 0} → (WordMeaning → Option A) → List (ℕ × WordMeaning) → Option A
last_value pick [] = None
last_value pick (s ∷ said) = option_or (last_value pick said) (pick s.1)

-- the `crashkernel=` options of all words: the last value of each form
abbrev pub last_crash_values : List (ℕ × WordMeaning) → CrashOptionView
last_crash_values said =
    record { plain = last_value plain_crash_value said; high = last_value high_crash_value said; low = last_value low_crash_value said }

-- the number of map options that add a range, even an empty one
abbrev pub count_adding : List (ℕ × MapOption) → ℕ
count_adding [] = 0
count_adding ((number, ExactMap) ∷ ps) = count_adding ps
count_adding ((number, Adding edit) ∷ ps) = count_adding ps + 1
count_adding ((number, Other edit) ∷ ps) = count_adding ps

-- the last `exactmap` of a list of map options: the number of its word, and how many options after
-- it add a range. The list begins with the option `p`, in the word `number`. The first argument is
-- the result for the options after `p`, and `after` counts those of them that add a range.
abbrev pub last_exact_map : Option (ℕ × ℕ) → ℕ → MapOption → ℕ → Option (ℕ × ℕ)
last_exact_map (Some found) number p after = Some found
last_exact_map None number ExactMap after = Some (number, after)
last_exact_map None number (Adding edit) after = None
last_exact_map None number (Other edit) after = None

-- the last `exactmap` of the map options: the number of its word, and how many map options after it
-- add a range; None if there is no `exactmap`
abbrev pub last_exact : List (ℕ × MapOption) → Option (ℕ × ℕ)
last_exact [] = None
last_exact (p ∷ ps) = last_exact_map (last_exact ps) p.0 p.1 (count_adding ps)

-- the options that a command line sets
pub record OptionsView : Type 0 where
  pub edits : List Edit
  pub crash : CrashOptionView
  pub numa_off : Bool
  pub add_efi : Bool

-- what contracts see of the code's `Options`
abbrev pub options_view : Options → OptionsView
options_view options = record {
  edits = options.edits.items;
  crash = crash_option_view options.crash;
  numa_off = options.numa_off;
  add_efi = options.add_efi;
}

-- the options that these words set
abbrev pub options_of_words : List (ℕ × WordMeaning) → OptionsView
options_of_words said = record {
  edits = edits_of (all_map_options said);
  crash = last_crash_values said;
  numa_off = is_numa_off said;
  add_efi = is_efi_added said;
}

-- the options, or the fault UserMapInvalid. The second argument is the last `exactmap`: the number
-- of its word, and how many map options after it add a range, which must be at least two.
abbrev pub check_user_map : OptionsView → Option (ℕ × ℕ) → Result OptionsView OptionFault
check_user_map options_view None = Ok options_view
check_user_map options_view (Some exact) = if nat_lt exact.1 2 then Err (faults.UserMapInvalid exact.0) else Ok options_view

-- the options that these words set, or the fault UserMapInvalid
abbrev pub options_with_user_map : List (ℕ × WordMeaning) → Result OptionsView OptionFault
options_with_user_map said = check_user_map (options_of_words said) (last_exact (all_map_options said))

-- the options of a file's bytes, or the first fault: that of the line (TooLong, OpenQuote), then
-- that of the first malformed word, then UserMapInvalid
abbrev pub options_of : List ℕ → Result OptionsView OptionFault
options_of bytes = do
  line ← command_line_of bytes
  said ← word_meanings_from 1 (option_words line)
  options_with_user_map said

-- the edit's range, if it has one, isn't empty
abbrev pub HasRange : Edit → Type 0
HasRange (Add range kind) = 0 < range.size
HasRange (Remove range kind) = 0 < range.size
HasRange (RemoveAll range) = 0 < range.size
HasRange (Change range from to) = 0 < range.size
HasRange Clear = Unit {0}

-- no edit of the list has an empty range
abbrev pub HaveRanges : List Edit → Type 0
HaveRanges [] = Unit {0}
HaveRanges (e ∷ es) = HasRange e × HaveRanges es

-- the number of the word in the fault, if it has one, is 1 or more
abbrev pub IsNumbered : OptionFault → Type 0
IsNumbered faults.TooLong = Unit {0}
IsNumbered faults.OpenQuote = Unit {0}
IsNumbered (faults.BadMem word) = 0 < word
IsNumbered (faults.BadMemmap word) = 0 < word
IsNumbered (faults.BadCrash word) = 0 < word
IsNumbered (faults.UserMapInvalid word) = 0 < word
IsNumbered (faults.BadNuma word) = 0 < word
IsNumbered faults.Memory = Unit {0}

-- reading these options allocates: there is an edit of the map, or a plain form of `crashkernel=`
abbrev pub OptionsNeedMemory : OptionsView → Type 0
OptionsNeedMemory options_view = (0 < length options_view.edits) ⊎ IsSome options_view.crash.plain
