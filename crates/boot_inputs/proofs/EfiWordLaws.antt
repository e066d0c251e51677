-- A command line without a word of the name `add_efi_memmap` doesn't ask for the EFI memory map.
use Rattle.std.proofs.Common.{◌≡◌, ◌∙◌, ℕ, ◌+◌, ◌==◌, Bool, false, List, [], ◌∷◌, Option, Some, None, Result, Ok, Err, codes, refl, arith}
use Rattle.std.specs.Prelude.{IfOk, IfSome, if◌then◌else◌}
use Rattle.std.specs.Option.{option_and_then, option_map}
use Rattle.std.specs.List.{list_any}
use Rattle.std.specs.Str.{bytes_eq}
use Rattle.std.proofs.lemmas.Bool.{or_parts}
use Rattle.bm_base.specs.ResultSteps.{◌>>=◌}
use Rattle.boot_options.specs.MapOptions.{mem_of}
use Rattle.boot_options.specs.declared.fault.OptionFault.{OptionFault}
use Rattle.boot_options.specs.declared.fault.OptionFault.TheVariants as options
use Rattle.boot_options.specs.Options.{AddEfi, OptionsView, NumaOff, OfCrash, OfMap, WordMeaning, all_map_options, checked_line, options_of_words, crash_of, is_efi_added, last_exact, command_line_of, memmap_of, numa_of, meaning_of_map_option, name_value_of, options_of, option_words, meaning_or_fault, raw_line, word_meaning, word_meanings_from, check_user_map, options_with_user_map}
use Rattle.boot_inputs.specs.WithoutEfi.{has_efi_word}

-- the meaning of the word isn't `add_efi_memmap`
abbrev IsNotEfiWord : WordMeaning → Type 0
IsNotEfiWord (OfMap ps) = Unit {0}
IsNotEfiWord (OfCrash form) = Unit {0}
IsNotEfiWord NumaOff = Unit {0}
IsNotEfiWord AddEfi = ⊥

abbrev is_efi_word : List ℕ → Bool
is_efi_word word = bytes_eq (name_value_of word).0 (codes "add_efi_memmap")

then_ok : {A B E : Type 0} (P : A → Type 0) (Q : B → Type 0) (x : Result A E) (f : A → Result B E) → IfOk x P
    → ((a : A) → P a → IfOk (f a) Q) → IfOk (x >>= f) Q
then_ok P Q (Ok a) f first rest = rest a first
then_ok P Q (Err error) f first rest = tt

word_first : (fault : OptionFault) (said : Option WordMeaning) (b : Bool) (y : Result WordMeaning OptionFault) → IfSome said IsNotEfiWord
    → IfOk y IsNotEfiWord
    → IfOk (if b then meaning_or_fault fault said else y) IsNotEfiWord
word_first fault said b y first rest = grind arith

mapped_not : {A : Type 0} (f : A → WordMeaning) (o : Option A) → ((a : A) → IsNotEfiWord (f a)) → IfSome (option_map f o) IsNotEfiWord
mapped_not f None each = tt
mapped_not f (Some a) each = each a

value_not : (f : List ℕ → Option WordMeaning) (o : Option (List ℕ)) → ((value : List ℕ) → IfSome (f value) IsNotEfiWord)
    → IfSome (option_and_then f o) IsNotEfiWord
value_not f None each = tt
value_not f (Some value) each = each value

word_not : (number : ℕ) (word : List ℕ × Option (List ℕ)) → bytes_eq word.0 (codes "add_efi_memmap") ≡ false
    → IfOk (word_meaning number word) IsNotEfiWord
word_not number word other =
    let last : Result WordMeaning OptionFault = if bytes_eq word.0 (codes "add_efi_memmap") then Ok AddEfi else Ok (OfMap []) in
    word_first (options.BadMem number) (option_map meaning_of_map_option (option_and_then mem_of word.1)) (bytes_eq word.0 (codes "mem")) _
    (mapped_not meaning_of_map_option (option_and_then mem_of word.1) (λ p. tt))
    (word_first (options.BadMemmap number) (option_and_then memmap_of word.1) (bytes_eq word.0 (codes "memmap")) _
    (value_not memmap_of word.1 (λ value. mapped_not OfMap _ (λ ps. tt)))
    (word_first (options.BadCrash number) (option_and_then crash_of word.1) (bytes_eq word.0 (codes "crashkernel")) _
    (value_not crash_of word.1 (λ value. mapped_not OfCrash _ (λ form. tt)))
    (word_first (options.BadNuma number) (option_and_then numa_of word.1) (bytes_eq word.0 (codes "numa")) last
    (value_not numa_of word.1 (λ value. grind arith)) (rw other tt))))

first_not : (number : ℕ) (said : WordMeaning) (others : List (ℕ × WordMeaning)) → IsNotEfiWord said → is_efi_added others ≡ false
    → is_efi_added ((number, said) ∷ others) ≡ false
first_not number (OfMap ps) others not rest = rest
first_not number (OfCrash form) others not rest = rest
first_not number NumaOff others not rest = rest
first_not number AddEfi others not rest = absurd not

words_not : (number : ℕ) (words : List (List ℕ)) → list_any is_efi_word words ≡ false
    → IfOk (word_meanings_from number words) (λ said. is_efi_added said ≡ false)
words_not number [] none = refl
words_not number (word ∷ words) none =
    let parts = or_parts (is_efi_word word) (list_any is_efi_word words) none in
    then_ok IsNotEfiWord _ (word_meaning number (name_value_of word)) _ (word_not number (name_value_of word) parts.0)
    (λ said not. then_ok _ _ (word_meanings_from (number + 1) words) _ (words_not (number + 1) words parts.1)
    (λ others rest. first_not number said others not rest))

line_is : (line : List ℕ) → IfOk (checked_line line) (λ l. l ≡ line)
line_is line = grind arith

complete_not : (chosen : OptionsView) (exact : Option (ℕ × ℕ)) → chosen.add_efi ≡ false
    → IfOk (check_user_map chosen exact) (λ c. c.add_efi ≡ false)
complete_not chosen exact not = grind arith

user_map_not : (said : List (ℕ × WordMeaning)) → is_efi_added said ≡ false
    → IfOk (options_with_user_map said) (λ chosen. chosen.add_efi ≡ false)
user_map_not said not = complete_not (options_of_words said) (last_exact (all_map_options said)) not

pub options_not : (bytes : List ℕ) → has_efi_word bytes ≡ false → IfOk (options_of bytes) (λ chosen. chosen.add_efi ≡ false)
options_not bytes none =
    then_ok _ _ (command_line_of bytes) (λ line. word_meanings_from 1 (option_words line)
    >>= options_with_user_map) (line_is (raw_line bytes))
    (λ line is. then_ok _ _ (word_meanings_from 1 (option_words line)) options_with_user_map
    (words_not 1 (option_words line) (rw is none)) user_map_not)
