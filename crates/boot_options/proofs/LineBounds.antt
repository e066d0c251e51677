-- Bounds of a line's options: types are above 0, ranges aren't empty, and words are numbered from
-- 1.
use Rattle.std.proofs.Common.{◌≡◌, ◌≢◌, ℕ, ◌+◌, ◌<◌, nat_lt, if◌then◌else◌, Bool, true, false, Option, Some, None, List, [], ◌∷◌, length, Result, Ok, Err, IfSome, IfOk, IfErr, arith, codes}
use Rattle.std.specs.List.{cons_option}
use Rattle.std.specs.Option.{option_and_then, option_map, option_or}
use Rattle.std.specs.Str.{bytes_eq}
use Rattle.e820_model.specs.Claims.{HaveTypes}
use Rattle.e820_model.specs.declared.entry.Edit.{Edit}
use Rattle.text_words.specs.declared.separators.Separators.TheVariants.{Byte}
use Rattle.text_words.specs.Parts.{parts_in}
use Rattle.bm_base.specs.Answers.{Answers}
use Rattle.bm_base.specs.ResultSteps.{◌>>=◌}
use Rattle.boot_options.specs.declared.fault.OptionFault.{OptionFault}
use Rattle.boot_options.specs.declared.fault.OptionFault.TheVariants as faults
use Rattle.boot_options.specs.declared.options.Options.{Options}
use Rattle.boot_options.specs.declared.map_option.MapOption.{MapOption}
use Rattle.boot_options.specs.declared.map_option.MapOption.TheVariants.{ExactMap, Adding, Other}
use Rattle.boot_options.specs.MapOptions.{mem_of}
use Rattle.boot_options.specs.declared.crash.CrashPlain.{CrashPlain}
use Rattle.boot_options.specs.Crash.{High, IsPlain, Low, Plain, CrashPlainView, crash_form_of, crash_plain_view}
use Rattle.boot_options.specs.Options.{WordMeaning, OfMap, OfCrash, NumaOff, AddEfi, OptionsView, options_view, crash_of, last_value, plain_crash_value, is_closed, command_line_of, raw_line, map_options_of, memmap_of, meaning_of_map_option, numa_of, meaning_or_fault, word_meaning, name_value_of, word_meanings_from, option_words, numbered_map_options, all_map_options, edit_of, edits_of, count_adding, last_exact_map, last_exact, options_of_words, check_user_map, options_with_user_map, options_of, HaveRanges, IsNumbered}
use Rattle.boot_options.proofs.CrashBounds.{IsSoundForm, sound-form}
use Rattle.boot_options.proofs.MapOptionBounds.{IsSound, IsSoundOption, AreSound, ifsome-and_then, ifsome-map, ifsome-if, sound-mem, sound-map_options}

abbrev pub IsSoundWord : WordMeaning → Type 0
IsSoundWord (OfMap ps) = AreSound ps
IsSoundWord (OfCrash form) = IsSoundForm form
IsSoundWord NumaOff = Unit {0}
IsSoundWord AddEfi = Unit {0}

-- each word has a number above 0, and its meaning has sound edits and ranges
abbrev pub AreSoundWords : List (ℕ × WordMeaning) → Type 0
AreSoundWords [] = Unit {0}
AreSoundWords (s ∷ said) = (0 < s.0) × IsSoundWord s.1 × AreSoundWords said

abbrev pub AreNumbered : List (ℕ × MapOption) → Type 0
AreNumbered [] = Unit {0}
AreNumbered (p ∷ ps) = (0 < p.0) × IsSoundOption p.1 × AreNumbered ps

-- a fault that a line may have: the number of its word is above 0, and it isn't `Memory`
abbrev pub IsLineFault : OptionFault → Type 0
IsLineFault faults.TooLong = Unit {0}
IsLineFault faults.OpenQuote = Unit {0}
IsLineFault (faults.BadMem word) = 0 < word
IsLineFault (faults.BadMemmap word) = 0 < word
IsLineFault (faults.BadCrash word) = 0 < word
IsLineFault (faults.UserMapInvalid word) = 0 < word
IsLineFault (faults.BadNuma word) = 0 < word
IsLineFault faults.Memory = ⊥

-- the result of a step is sound, or is a fault that a line may have
abbrev pub IsSoundOrFault : {A : Type 0} → (A → Type 0) → Result A OptionFault → Type 0
IsSoundOrFault P (Ok a) = P a
IsSoundOrFault P (Err fault) = IsLineFault fault

pub fit-or_fault : (fault : OptionFault) (o : Option WordMeaning) → IsLineFault fault → IfSome o IsSoundWord
    → IsSoundOrFault IsSoundWord (meaning_or_fault fault o)
fit-or_fault fault None numbered_map_options is = numbered_map_options
fit-or_fault fault (Some said) numbered_map_options is = is

pub fit-if : {A : Type 0} (P : A → Type 0) (t : Bool) (x y : Result A OptionFault) → IsSoundOrFault P x → IsSoundOrFault P y
    → IsSoundOrFault P (if t then x else y)
fit-if P true x y a b = a
fit-if P false x y a b = b

-- the meaning of a word is sound, and the fault of a malformed word has its number
pub fit-said_by : (number : ℕ) (word : List ℕ × Option (List ℕ)) → 0 < number → IsSoundOrFault IsSoundWord (word_meaning number word)
fit-said_by number word above =
    fit-if IsSoundWord (bytes_eq word.0 (codes "mem")) _ _
    (fit-or_fault (faults.BadMem number) _ above
    (ifsome-map IsSoundOption IsSoundWord meaning_of_map_option (option_and_then mem_of word.1) (λ p is. (is, tt))
    (ifsome-and_then IsSoundOption mem_of word.1 sound-mem)))
    (fit-if IsSoundWord (bytes_eq word.0 (codes "memmap")) _ _
    (fit-or_fault (faults.BadMemmap number) _ above
    (ifsome-and_then IsSoundWord memmap_of word.1 (λ value.
    ifsome-map AreSound IsSoundWord OfMap (map_options_of (parts_in (Byte 44) value)) (λ ps are. are)
    (sound-map_options (parts_in (Byte 44) value)))))
    (fit-if IsSoundWord (bytes_eq word.0 (codes "crashkernel")) _ _
    (fit-or_fault (faults.BadCrash number) _ above
    (ifsome-and_then IsSoundWord crash_of word.1 (λ value.
    ifsome-map IsSoundForm IsSoundWord OfCrash (crash_form_of value) (λ form is. is) (sound-form value))))
    (fit-if IsSoundWord (bytes_eq word.0 (codes "numa")) _ _
    (fit-or_fault (faults.BadNuma number) _ above
    (ifsome-and_then IsSoundWord numa_of word.1 (λ value.
    ifsome-if IsSoundWord (bytes_eq value (codes "off")) (Some NumaOff) None tt tt)))
    (fit-if IsSoundWord (bytes_eq word.0 (codes "add_efi_memmap")) _ _ tt tt))))

-- two steps in a row have a sound result if the first one has, and if the second one has for each
-- sound input
pub fit-then : {A B : Type 0} (P : A → Type 0) (Q : B → Type 0) (r : Result A OptionFault) (f : A → Result B OptionFault)
    → IsSoundOrFault P r → ((a : A) → P a → IsSoundOrFault Q (f a)) → IsSoundOrFault Q (r >>= f)
fit-then P Q (Ok a) f is each = each a is
fit-then P Q (Err fault) f is each = is

-- the meanings of all words are sound
pub fit-said_from : (number : ℕ) (words : List (List ℕ)) → 0 < number → IsSoundOrFault AreSoundWords (word_meanings_from number words)
fit-said_from number [] above = tt
fit-said_from number (word ∷ words) above =
    fit-then IsSoundWord AreSoundWords (word_meaning number (name_value_of word)) _ (fit-said_by number (name_value_of word) above)
    (λ said is.
    fit-then AreSoundWords AreSoundWords (word_meanings_from (number + 1) words) _
    (fit-said_from (number + 1) words (omega arith)) (λ others are. (above, is, are)))

-- the map options of all words are sound
pub sound-numbered : (number : ℕ) (ps : List MapOption) (after : List (ℕ × MapOption))
    → 0 < number → AreSound ps → AreNumbered after → AreNumbered (numbered_map_options number ps after)
sound-numbered number [] after above are rest = rest
sound-numbered number (p ∷ ps) after above are rest = (above, are.0, sound-numbered number ps after above are.1 rest)

pub sound-all_map_options : (said : List (ℕ × WordMeaning)) → AreSoundWords said → AreNumbered (all_map_options said)
sound-all_map_options [] are = tt
sound-all_map_options ((number, OfMap ps) ∷ said) are =
    sound-numbered number ps (all_map_options said) are.0 are.1 (sound-all_map_options said are.2)
sound-all_map_options ((number, OfCrash form) ∷ said) are = sound-all_map_options said are.2
sound-all_map_options ((number, NumaOff) ∷ said) are = sound-all_map_options said are.2
sound-all_map_options ((number, AddEfi) ∷ said) are = sound-all_map_options said are.2

-- the last plain form has at least one range, and each range ends above its start
pub sound-last_plain : (said : List (ℕ × WordMeaning)) → AreSoundWords said → IfSome (last_value plain_crash_value said) IsPlain
sound-last_plain [] are = tt
sound-last_plain (s ∷ said) are = or_this (last_value plain_crash_value said) s.1 (sound-last_plain said are.2) are.1
  where
    or_this : (found : Option CrashPlainView) (s : WordMeaning) → IfSome found IsPlain → IsSoundWord s
        → IfSome (option_or found (plain_crash_value s)) IsPlain
    or_this (Some form) s is sound = is
    or_this None (OfMap ps) is sound = tt
    or_this None (OfCrash (Plain form)) is sound = sound
    or_this None (OfCrash (High size)) is sound = tt
    or_this None (OfCrash (Low size)) is sound = tt
    or_this None NumaOff is sound = tt
    or_this None AddEfi is sound = tt

-- the edits of sound map options have types above 0 and ranges that aren't empty
pub types-edits : (ps : List (ℕ × MapOption)) → AreNumbered ps → HaveTypes (edits_of ps) × HaveRanges (edits_of ps)
types-edits [] are = (tt, tt)
types-edits (p ∷ ps) are = with_one (edit_of p.1) are.1 (types-edits ps are.2)
  where
    with_one : (e : Option Edit) → IsSound e → HaveTypes (edits_of ps) × HaveRanges (edits_of ps)
        → HaveTypes (cons_option e (edits_of ps)) × HaveRanges (cons_option e (edits_of ps))
    with_one None is rest = rest
    with_one (Some e) is rest = ((is.0, rest.0), (is.1, rest.1))

-- the number of the word with the last `exactmap` is above 0
pub numbered_map_options-last_exact : (ps : List (ℕ × MapOption)) → AreNumbered ps → IfSome (last_exact ps) (λ exact. 0 < exact.0)
numbered_map_options-last_exact [] are = tt
numbered_map_options-last_exact ((number, p) ∷ ps) are = or_this (last_exact ps) p (numbered_map_options-last_exact ps are.2)
  where
    or_this : (found : Option (ℕ × ℕ)) (p : MapOption) → IfSome found (λ exact. 0 < exact.0)
        → IfSome (last_exact_map found number p (count_adding ps)) (λ exact. 0 < exact.0)
    or_this (Some exact) p is = is
    or_this None ExactMap is = are.0
    or_this None (Adding e) is = tt
    or_this None (Other e) is = tt

-- the options of the whole line are sound
abbrev pub AreSoundOptions : OptionsView → Type 0
AreSoundOptions c = HaveTypes c.edits × HaveRanges c.edits × IfSome c.crash.plain IsPlain

pub sound-chosen_by : (said : List (ℕ × WordMeaning)) → AreSoundWords said → AreSoundOptions (options_of_words said)
sound-chosen_by said are =
    let edits = types-edits (all_map_options said) (sound-all_map_options said are) in (edits.0, edits.1, sound-last_plain said are)

pub fit-with_user_map : (said : List (ℕ × WordMeaning)) → AreSoundWords said → IsSoundOrFault AreSoundOptions (options_with_user_map said)
fit-with_user_map said are =
    by_exact (last_exact (all_map_options said)) (numbered_map_options-last_exact (all_map_options said) (sound-all_map_options said are))
  where
    by_exact : (found : Option (ℕ × ℕ)) → IfSome found (λ exact. 0 < exact.0)
        → IsSoundOrFault AreSoundOptions (check_user_map (options_of_words said) found)
    by_exact None is = sound-chosen_by said are
    by_exact (Some exact) is = fit-if AreSoundOptions (nat_lt exact.1 2) _ _ is (sound-chosen_by said are)

abbrev pub IsAnyLine : List ℕ → Type 0
IsAnyLine line = Unit {0}

pub fit-line : (bytes : List ℕ) → IsSoundOrFault IsAnyLine (command_line_of bytes)
fit-line bytes =
    fit-if IsAnyLine (nat_lt 2047 (length (raw_line bytes))) _ _ tt (fit-if IsAnyLine (is_closed (raw_line bytes)) _ _ tt tt)

-- the options of the bytes are sound, or their fault is one that a line may have
pub fit-options : (bytes : List ℕ) → IsSoundOrFault AreSoundOptions (options_of bytes)
fit-options bytes =
    fit-then IsAnyLine AreSoundOptions (command_line_of bytes) _ (fit-line bytes) (λ line _.
    fit-then AreSoundWords AreSoundOptions (word_meanings_from 1 (option_words line)) options_with_user_map
    (fit-said_from 1 (option_words line) (omega arith)) fit-with_user_map)

-- the options that a call returns have types above 0 and ranges that aren't empty
pub types-given : (bytes : List ℕ) (r : Result Options OptionFault) → Answers faults.Memory options_view r (options_of bytes)
    → IfOk r (λ options. HaveTypes options.edits.items)
types-given bytes (Ok options) is = (rw is at (fit-options bytes)).0
types-given bytes (Err fault) is = tt

pub ranges-given : (bytes : List ℕ) (r : Result Options OptionFault) → Answers faults.Memory options_view r (options_of bytes)
    → IfOk r (λ options. HaveRanges options.edits.items)
ranges-given bytes (Ok options) is = (rw is at (fit-options bytes)).1
ranges-given bytes (Err fault) is = tt

pub crash-given : (bytes : List ℕ) (r : Result Options OptionFault) → Answers faults.Memory options_view r (options_of bytes)
    → IfOk r (λ options. IfSome options.crash.plain (λ plain. IsPlain (crash_plain_view plain)))
crash-given bytes (Ok options) is = seen options.crash.plain (rw is at (fit-options bytes)).2
  where
    seen : (plain : Option CrashPlain) → IfSome (option_map crash_plain_view plain) IsPlain
        → IfSome plain (λ p. IsPlain (crash_plain_view p))
    seen None is = tt
    seen (Some plain) is = is
crash-given bytes (Err fault) is = tt

pub numbered_map_options-given : (bytes : List ℕ) (r : Result Options OptionFault) → Answers faults.Memory options_view r (options_of bytes)
    → IfErr r IsNumbered
numbered_map_options-given bytes (Ok options) is = tt
numbered_map_options-given bytes (Err fault) is = by_fault fault is
  where
    by_fault : (fault : OptionFault) → (fault ≢ faults.Memory → options_of bytes ≡ Err fault) → IsNumbered fault
    by_fault faults.TooLong is = tt
    by_fault faults.OpenQuote is = tt
    by_fault (faults.BadMem word) is = rw (is (λ same. cc)) at (fit-options bytes)
    by_fault (faults.BadMemmap word) is = rw (is (λ same. cc)) at (fit-options bytes)
    by_fault (faults.BadCrash word) is = rw (is (λ same. cc)) at (fit-options bytes)
    by_fault (faults.UserMapInvalid word) is = rw (is (λ same. cc)) at (fit-options bytes)
    by_fault (faults.BadNuma word) is = rw (is (λ same. cc)) at (fit-options bytes)
    by_fault faults.Memory is = tt

-- no bytes have the fault `Memory`
pub options_of-not_memory : (bytes : List ℕ) → options_of bytes ≢ Err faults.Memory
options_of-not_memory bytes is = rw is at (fit-options bytes)
