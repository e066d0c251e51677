-- A word, and then a line, has exactly the meaning that it spells.
use Rattle.std.proofs.Common.{◌≡◌, ◌↔◌, ℕ, ◌+◌, if◌then◌else◌, Bool, true, false, Option, Some, None, List, [], ◌∷◌, ◌++◌, map, refl, subst, ap, sym, ◌∙◌, codes, Result, Ok, Err}
use Rattle.std.proofs.lemmas.Slice.Eq.{bytes_eq-Decides}
use Rattle.std.specs.Option.{option_map}
use Rattle.std.specs.Str.{bytes_eq}
use Rattle.bm_base.specs.ResultSteps.{◌>>=◌}
use Rattle.text_words.specs.declared.separators.Separators.TheVariants.{Byte, CommandLine}
use Rattle.text_words.specs.Parts.{split_once, parts_in}
use Rattle.text_words.specs.Words.{unquote, words_in}
use Rattle.text_words.specs.Spelling.{Unquotes}
use Rattle.text_words.proofs.SpellingLaws.{unquoted_exactly, words_exactly}
use Rattle.boot_options.specs.declared.fault.OptionFault.{OptionFault}
use Rattle.boot_options.specs.declared.fault.OptionFault.TheVariants as faults
use Rattle.boot_options.specs.Crash.{crash_form_of}
use Rattle.boot_options.specs.MapOptions.{mem_of}
use Rattle.boot_options.specs.Options.{WordMeaning, OfMap, OfCrash, NumaOff, AddEfi, split_name_value, command_line_of, map_options_of, name_value_of, meaning_of_map_option, option_words, meaning_or_fault, word_meaning, word_meanings_from, until_end}
use Rattle.boot_options.specs.Spelling.{HasName, SpellEach, SpellsLine, SpellsMeaning, alone, crash_word, efi_word, mem_word, memmap_word, numa_word, other_word, with_value}
use Rattle.boot_options.proofs.CrashSpellingLaws.{Lacks, split_once-mark, split_once-none}
use Rattle.boot_options.proofs.FaultLaws.{Name, crash, line-read, mem, memmap, numa, value_meaning, lacks_equals, text_of, OptionWords-until_end, until_end-words}
use Rattle.boot_options.proofs.SpelledCrashLaws.{split_once-spelled, form-exactly}
use Rattle.boot_options.proofs.SpelledLaws.{map-some, map_options-exactly, mem-exactly}

-- a word with a name and a value spells the meaning of that value
said-spelled : (n : Name) (raw : List ℕ) (said : WordMeaning) → value_meaning n (Some (unquote raw)) ≡ Some said
    → SpellsMeaning (text_of n ++ (61 ∷ raw)) said
said-spelled mem raw said is =
    let found = map-some (mem_of (unquote raw)) meaning_of_map_option said is in
    rw (← found.2) (mem_word raw (unquote raw) found.0 ((unquoted_exactly raw (unquote raw)).0 refl)
    ((mem-exactly (unquote raw) found.0).0 found.1))
said-spelled memmap raw said is =
    let found = map-some (map_options_of (parts_in (Byte 44) (unquote raw))) (λ ps. OfMap ps) said is in
    rw (← found.2) (memmap_word raw (unquote raw) found.0 ((unquoted_exactly raw (unquote raw)).0 refl)
    ((map_options-exactly (unquote raw) found.0).0 found.1))
said-spelled crash raw said is =
    let found = map-some (crash_form_of (unquote raw)) (λ form. OfCrash form) said is in
    rw (← found.2) (crash_word raw (unquote raw) found.0 ((unquoted_exactly raw (unquote raw)).0 refl)
    ((form-exactly (unquote raw) found.0).0 found.1))
said-spelled numa raw said is = by_test (bytes_eq (unquote raw) (codes "off")) refl is
  where
    by_test : (t : Bool) → bytes_eq (unquote raw) (codes "off") ≡ t → (if t then Some NumaOff else None) ≡ Some said
        → SpellsMeaning (text_of numa ++ (61 ∷ raw)) said
    by_test true test is =
        let said_is : NumaOff ≡ said = cc in
        rw (← said_is) (numa_word raw ((unquoted_exactly raw (codes "off")).0 ((bytes_eq-Decides (unquote raw) (codes "off")).0 test)))
    by_test false test is = cc

-- a word whose name is read has that name
named : (name word : List ℕ) → (name_value_of word).0 ≡ name → HasName name word
named name word = by_cut (split_once 61 word) (split_once-spelled 61 word)
  where
    by_cut : (o : Option (List ℕ × List ℕ)) → ((halves : List ℕ × List ℕ) → o ≡ Some halves → word ≡ halves.0 ++ (61 ∷ halves.1))
        → (split_name_value word o).0 ≡ name → HasName name word
    by_cut None spelled is = rw is alone
    by_cut (Some halves) spelled is =
        let whole : word ≡ name ++ (61 ∷ halves.1) = spelled halves refl ∙ ap (λ (name : List ℕ). name ++ (61 ∷ halves.1)) is in
        rw whole (with_value halves.1)

name_is : (name word : List ℕ) → Lacks 61 name → HasName name word → (name_value_of word).0 ≡ name
name_is name word lacks alone = rw (split_once-none 61 name lacks) refl
name_is name word lacks (with_value raw) = rw (split_once-mark 61 name raw lacks) refl

valued : (n : Name) (word : List ℕ) (said : WordMeaning) → (name_value_of word).0 ≡ text_of n
    → value_meaning n (name_value_of word).1 ≡ Some said
    → SpellsMeaning word said
valued n word said = by_cut (split_once 61 word) (split_once-spelled 61 word)
  where
    none_said : (n : Name) → value_meaning n None ≡ None
    none_said mem = refl
    none_said n = refl

    by_cut : (o : Option (List ℕ × List ℕ)) → ((halves : List ℕ × List ℕ) → o ≡ Some halves → word ≡ halves.0 ++ (61 ∷ halves.1))
        → (split_name_value word o).0 ≡ text_of n → value_meaning n (split_name_value word o).1 ≡ Some said → SpellsMeaning word said
    by_cut None spelled is says = let none : None ≡ Some said = sym (none_said n) ∙ says in absurd (cc none)
    by_cut (Some halves) spelled is says =
        let whole : word ≡ text_of n ++ (61 ∷ halves.1) = spelled halves refl ∙ ap (λ (name : List ℕ). name ++ (61 ∷ halves.1)) is in
        rw whole (said-spelled n halves.1 said says)

is_said : (fault : OptionFault) (o : Option WordMeaning) (said : WordMeaning) → meaning_or_fault fault o ≡ Ok said → o ≡ Some said
is_said fault None said is = cc
is_said fault (Some found) said is = cc

lacks_efi : Lacks 61 (codes "add_efi_memmap")
lacks_efi = (refl, (refl, (refl, (refl, (refl, (refl, (refl, (refl, (refl, (refl, (refl, (refl, (refl, (refl, tt))))))))))))))

word-spelled : (number : ℕ) (word : List ℕ) (said : WordMeaning) → word_meaning number (name_value_of word) ≡ Ok said
    → SpellsMeaning word said
word-spelled number word said =
    by_tests (bytes_eq name (codes "mem")) refl (bytes_eq name (codes "memmap")) refl (bytes_eq name (codes "crashkernel")) refl
    (bytes_eq name (codes "numa")) refl (bytes_eq name (codes "add_efi_memmap")) refl
  where
    name : List ℕ
    name = (name_value_of word).0

    is_name : (n : List ℕ) → bytes_eq (name_value_of word).0 n ≡ true → (name_value_of word).0 ≡ n
    is_name n = (bytes_eq-Decides (name_value_of word).0 n).0

    isnt_name : (n : List ℕ) → Lacks 61 n → bytes_eq (name_value_of word).0 n ≡ false → HasName n word → ⊥
    isnt_name n lacks isnt has =
        let is : bytes_eq (name_value_of word).0 n ≡ true = (bytes_eq-Decides (name_value_of word).0 n).1 (name_is n word lacks has) in
        cc (is, isnt)

    by_tests : (a : Bool) → bytes_eq (name_value_of word).0 (codes "mem") ≡ a → (b : Bool)
        → bytes_eq (name_value_of word).0 (codes "memmap") ≡ b
        → (c : Bool) → bytes_eq (name_value_of word).0 (codes "crashkernel") ≡ c
        → (d : Bool) → bytes_eq (name_value_of word).0 (codes "numa") ≡ d
        → (e : Bool) → bytes_eq (name_value_of word).0 (codes "add_efi_memmap") ≡ e
        → (if a then meaning_or_fault (faults.BadMem number) (value_meaning mem (name_value_of word).1) else
        (if b then meaning_or_fault (faults.BadMemmap number) (value_meaning memmap (name_value_of word).1) else
        (if c then meaning_or_fault (faults.BadCrash number) (value_meaning crash (name_value_of word).1) else
        (if d then meaning_or_fault (faults.BadNuma number) (value_meaning numa (name_value_of word).1) else
        (if e then Ok AddEfi else Ok (OfMap [])))))) ≡ Ok said → SpellsMeaning word said
    by_tests true a_is b b_is c c_is d d_is e e_is is = valued mem word said (is_name (codes "mem") a_is) (is_said _ _ said is)
    by_tests false a_is true b_is c c_is d d_is e e_is is = valued memmap word said (is_name (codes "memmap") b_is) (is_said _ _ said is)
    by_tests false a_is false b_is true c_is d d_is e e_is is =
        valued crash word said (is_name (codes "crashkernel") c_is) (is_said _ _ said is)
    by_tests false a_is false b_is false c_is true d_is e e_is is =
        valued numa word said (is_name (codes "numa") d_is) (is_said _ _ said is)
    by_tests false a_is false b_is false c_is false d_is true e_is is =
        let said_is : AddEfi ≡ said = cc in
        rw (← said_is) (efi_word word (named (codes "add_efi_memmap") word (is_name (codes "add_efi_memmap") e_is)))
    by_tests false a_is false b_is false c_is false d_is false e_is is =
        let said_is : OfMap [] ≡ said = cc in
        rw (← said_is) (other_word word (record {
          mem = isnt_name (codes "mem") (lacks_equals mem) a_is;
          memmap = isnt_name (codes "memmap") (lacks_equals memmap) b_is;
          crash = isnt_name (codes "crashkernel") (lacks_equals crash) c_is;
          numa = isnt_name (codes "numa") (lacks_equals numa) d_is;
          efi = isnt_name (codes "add_efi_memmap") lacks_efi e_is;
        }))

-- a word has the meaning that it spells
valued-read : (n : Name) (number : ℕ) (raw value : List ℕ) (said : WordMeaning) → Unquotes raw value
    → value_meaning n (Some value) ≡ Some said
    → word_meaning number (name_value_of (text_of n ++ (61 ∷ raw))) ≡ Ok said
valued-read n number raw value said unquotes says =
    rw (split_once-mark 61 (text_of n) raw (lacks_equals n), (unquoted_exactly raw value).1 unquotes) (by_name n says)
  where
    by_name : (n : Name) → value_meaning n (Some value) ≡ Some said → word_meaning number (text_of n, Some value) ≡ Ok said
    by_name mem says = ap (meaning_or_fault (faults.BadMem number)) says
    by_name memmap says = ap (meaning_or_fault (faults.BadMemmap number)) says
    by_name crash says = ap (meaning_or_fault (faults.BadCrash number)) says
    by_name numa says = ap (meaning_or_fault (faults.BadNuma number)) says

word-read : (number : ℕ) (word : List ℕ) (said : WordMeaning) → SpellsMeaning word said → word_meaning number (name_value_of word) ≡ Ok said
word-read number word said (mem_word raw value option unquotes spells) =
    valued-read mem number raw value (OfMap (option ∷ [])) unquotes
    (ap (option_map meaning_of_map_option) ((mem-exactly value option).1 spells))
word-read number word said (memmap_word raw value options unquotes spells) =
    valued-read memmap number raw value (OfMap options) unquotes
    (ap (option_map (λ ps. OfMap ps)) ((map_options-exactly value options).1 spells))
word-read number word said (crash_word raw value form unquotes spells) =
    valued-read crash number raw value (OfCrash form) unquotes (ap (option_map (λ form. OfCrash form)) ((form-exactly value form).1 spells))
word-read number word said (numa_word raw unquotes) = valued-read numa number raw (codes "off") NumaOff unquotes refl
word-read number word said (efi_word _ has) =
    efi (name_value_of word).0 (name_value_of word).1 (name_is (codes "add_efi_memmap") word lacks_efi has)
  where
    efi : (name : List ℕ) (value : Option (List ℕ)) → name ≡ codes "add_efi_memmap" → word_meaning number (name, value) ≡ Ok AddEfi
    efi name value is = rw is refl
word-read number word said (other_word _ other) =
    rw (
      isnt (codes "mem") other.mem,
      isnt (codes "memmap") other.memmap,
      isnt (codes "crashkernel") other.crash,
      isnt (codes "numa") other.numa,
      isnt (codes "add_efi_memmap") other.efi,
    )
    refl
  where
    by_test : (n : List ℕ) (t : Bool) → (t ≡ true → (name_value_of word).0 ≡ n) → (HasName n word → ⊥) → t ≡ false
    by_test n true is hasnt = absurd (hasnt (named n word (is refl)))
    by_test n false is hasnt = refl

    isnt : (n : List ℕ) → (HasName n word → ⊥) → bytes_eq (name_value_of word).0 n ≡ false
    isnt n hasnt = by_test n (bytes_eq (name_value_of word).0 n) (bytes_eq-Decides (name_value_of word).0 n).0 hasnt

pub word-exactly : (number : ℕ) (word : List ℕ) (said : WordMeaning)
    → word_meaning number (name_value_of word) ≡ Ok said ↔ SpellsMeaning word said
word-exactly number word said = (word-spelled number word said, word-read number word said)

-- the words of a list spell exactly their meanings
each-spelled : (number : ℕ) (words : List (List ℕ)) (said : List (ℕ × WordMeaning)) → word_meanings_from number words ≡ Ok said
    → SpellEach number words said
each-spelled number [] said is = let none : [] ≡ said = cc in subst (SpellEach number []) none tt
each-spelled number (word ∷ words) said is =
    by_word (word_meaning number (name_value_of word)) (word-spelled number word) (each-spelled (number + 1) words) is
  where
    by_others : (one : WordMeaning) → SpellsMeaning word one → (r : Result (List (ℕ × WordMeaning)) OptionFault)
        → ((said : List (ℕ × WordMeaning)) → r ≡ Ok said → SpellEach (number + 1) words said)
        → (r >>= λ others. Ok ((number, one) ∷ others)) ≡ Ok said → SpellEach number (word ∷ words) said
    by_others one spells (Ok others) each is =
        let said_is : (number, one) ∷ others ≡ said = cc in
        subst (SpellEach number (word ∷ words)) said_is (refl, spells, each others refl)
    by_others one spells (Err fault) each is = cc

    by_word : (r : Result WordMeaning OptionFault) → ((one : WordMeaning) → r ≡ Ok one → SpellsMeaning word one)
        → ((said : List (ℕ × WordMeaning)) → word_meanings_from (number + 1) words ≡ Ok said → SpellEach (number + 1) words said)
        → (r >>= λ one. word_meanings_from (number + 1) words >>= λ others. Ok ((number, one) ∷ others)) ≡ Ok said
        → SpellEach number (word ∷ words) said
    by_word (Ok one) spells each is = by_others one (spells one refl) (word_meanings_from (number + 1) words) each is
    by_word (Err fault) spells each is = cc

each-read : (number : ℕ) (words : List (List ℕ)) (said : List (ℕ × WordMeaning)) → SpellEach number words said
    → word_meanings_from number words ≡ Ok said
each-read number [] [] each = refl
each-read number [] (s ∷ said) each = absurd each
each-read number (word ∷ words) [] each = absurd each
each-read number (word ∷ words) ((k, one) ∷ said) each =
    rw (word-read number word one each.1, each-read (number + 1) words said each.2, each.0) refl

-- a line that is accepted spells exactly the meanings of its words
pub line-exactly : (bytes line : List ℕ) (said : List (ℕ × WordMeaning)) → command_line_of bytes ≡ Ok line
    → word_meanings_from 1 (option_words line) ≡ Ok said ↔ SpellsLine line said
line-exactly bytes line said read = (spelled, told)
  where
    spelled : word_meanings_from 1 (option_words line) ≡ Ok said → SpellsLine line said
    spelled is =
        record {
          raws = words_in CommandLine line;
          words = option_words line;
          lie = (words_exactly CommandLine line (words_in CommandLine line) (line-read bytes line read)).0 refl;
          options = OptionWords-until_end (words_in CommandLine line);
          spell = each-spelled 1 (option_words line) said is;
        }

    told : SpellsLine line said → word_meanings_from 1 (option_words line) ≡ Ok said
    told spells =
        let raws : words_in CommandLine line ≡ spells.raws
        = (words_exactly CommandLine line spells.raws (line-read bytes line read)).1 spells.lie in
        let words : option_words line ≡ spells.words
        = ap (λ (ws : List (List ℕ)). until_end (map unquote ws)) raws ∙ until_end-words spells.raws spells.words spells.options in
        rw words (each-read 1 spells.words said spells.spell)
