-- A word has a fault exactly if it is malformed, and the line has the fault of the lowest
-- malformed word.
use Rattle.std.proofs.Common.{◌≡◌, ◌≢◌, ◌↔◌, ℕ, ◌+◌, ◌%◌, ◌==◌, nat_lt, if◌then◌else◌, Bool, true, false, not, suc, Option, Some, None, List, [], ◌∷◌, ◌++◌, length, map, refl, subst, ap, sym, ◌∙◌, codes, Result, Ok, Err, arith}
use Rattle.std.proofs.lemmas.Bool.{eqb-true}
use Rattle.std.proofs.lemmas.List.Sums.{sum_by-cons}
use Rattle.std.proofs.lemmas.Slice.Eq.{bytes_eq-Decides}
use Rattle.std.specs.Prelude.{count_by}
use Rattle.std.specs.List.{AllByRecursion}
use Rattle.std.specs.Option.{option_map, option_and_then}
use Rattle.std.specs.Str.{bytes_eq}
use Rattle.bm_base.specs.ResultSteps.{◌>>=◌}
use Rattle.text_words.specs.declared.separators.Separators.TheVariants.{Byte, CommandLine}
use Rattle.text_words.specs.Parts.{split_once, parts_in}
use Rattle.text_words.specs.Spelling.{QuotesClose}
use Rattle.text_words.specs.Words.{unquote, words_in}
use Rattle.text_words.proofs.SpellingLaws.{unquoted_exactly, words_exactly}
use Rattle.boot_options.specs.declared.fault.OptionFault.{OptionFault}
use Rattle.boot_options.specs.declared.fault.OptionFault.TheVariants as faults
use Rattle.boot_options.specs.declared.options.TheConstants.{LONGEST_LINE}
use Rattle.boot_options.specs.Crash.{crash_form_of}
use Rattle.boot_options.specs.MapOptions.{mem_of}
use Rattle.boot_options.specs.Options.{WordMeaning, OfMap, OfCrash, NumaOff, AddEfi, split_name_value, options_of_words, crash_of, is_closed, last_exact, all_map_options, command_line_of, map_options_of, memmap_of, name_value_of, numa_of, meaning_of_map_option, option_words, options_of, meaning_or_fault, raw_line, word_meaning, word_meanings_from, check_user_map, until_end, options_with_user_map}
use Rattle.boot_options.specs.Spelling.{IsBadCrash, IsBadMem, IsBadMemmap, IsBadNuma, IsCrashValue, IsFirstWordFault, IsMalformed, IsMemValue, IsMemmapValue, IsNumaValue, IsSoundWord, OptionWords, a_word, line_end, no_value, other_value, two_dashes}
use Rattle.boot_options.proofs.CrashSpellingLaws.{Lacks, split_once-mark, split_once-none}
use Rattle.boot_options.proofs.SpelledCrashLaws.{split_once-spelled, form-exactly}
use Rattle.boot_options.proofs.SpelledLaws.{map_options-exactly, mem-exactly}

-- the names whose words may be malformed
pub data Name : Type 0 where
  mem : Name
  memmap : Name
  crash : Name
  numa : Name

abbrev pub text_of : Name → List ℕ
text_of mem = codes "mem"
text_of memmap = codes "memmap"
text_of crash = codes "crashkernel"
text_of numa = codes "numa"

abbrev pub IsValue : Name → List ℕ → Type 0
IsValue mem = IsMemValue
IsValue memmap = IsMemmapValue
IsValue crash = IsCrashValue
IsValue numa = IsNumaValue

abbrev pub fault_at : Name → ℕ → OptionFault
fault_at mem number = faults.BadMem number
fault_at memmap number = faults.BadMemmap number
fault_at crash number = faults.BadCrash number
fault_at numa number = faults.BadNuma number

same_fault : (n m : Name) (w k : ℕ) → fault_at n w ≡ fault_at m k → (n ≡ m) × (w ≡ k)
same_fault mem mem w k is = (refl, cc)
same_fault memmap memmap w k is = (refl, cc)
same_fault crash crash w k is = (refl, cc)
same_fault numa numa w k is = (refl, cc)
same_fault n m w k is = cc

-- the word has no value that its name may have
abbrev NoValue : Name → Option (List ℕ) → Type 0
NoValue n None = Unit {0}
NoValue n (Some value) = IsValue n value → ⊥

-- the meaning of a value, by the name of its word
abbrev pub value_meaning : Name → Option (List ℕ) → Option WordMeaning
value_meaning mem value = option_map meaning_of_map_option (option_and_then mem_of value)
value_meaning memmap value = option_and_then memmap_of value
value_meaning crash value = option_and_then crash_of value
value_meaning numa value = option_and_then numa_of value

-- a text can't be read exactly if it spells nothing
none-exactly : {A B : Type 0} (o : Option A) (f : A → B) (Spells : A → Type 0) → ((a : A) → o ≡ Some a ↔ Spells a)
    → option_map f o ≡ None ↔ (((a : A) × Spells a) → ⊥)
none-exactly None f Spells exact = (λ is spells. let read = (exact spells.0).1 spells.1 in cc read, λ none. refl)
none-exactly (Some a) f Spells exact = (λ is. cc, λ none. absurd (none (a, (exact a).0 refl)))

said_none : (n : Name) (value : Option (List ℕ)) → value_meaning n value ≡ None ↔ NoValue n value
said_none mem None = (λ is. tt, λ none. refl)
said_none mem (Some value) = none-exactly (mem_of value) meaning_of_map_option _ (mem-exactly value)
said_none memmap None = (λ is. tt, λ none. refl)
said_none memmap (Some value) = none-exactly (map_options_of (parts_in (Byte 44) value)) OfMap _ (map_options-exactly value)
said_none crash None = (λ is. tt, λ none. refl)
said_none crash (Some value) = none-exactly (crash_form_of value) OfCrash _ (form-exactly value)
said_none numa None = (λ is. tt, λ none. refl)
said_none numa (Some value) = by_test (bytes_eq value (codes "off")) (bytes_eq-Decides value (codes "off"))
  where
    by_test : (t : Bool) → (t ≡ true → value ≡ codes "off") × (value ≡ codes "off" → t ≡ true)
        → (if t then Some NumaOff else None) ≡ None ↔ (value ≡ codes "off" → ⊥)
    by_test true decides = (λ is. cc, λ none. absurd (none (decides.0 refl)))
    by_test false decides = (λ is off. let told : false ≡ true = decides.1 off in cc told, λ none. refl)

-- the fault of a word, by its name and its value
is_fault : (fault : OptionFault) (o : Option WordMeaning) (found : OptionFault) → meaning_or_fault fault o ≡ Err found
    → (o ≡ None) × (found ≡ fault)
is_fault fault None found is = (refl, cc)
is_fault fault (Some said) found is = cc

abbrev IsFaultOf : ℕ → List ℕ × Option (List ℕ) → OptionFault → Type 0
IsFaultOf number word fault = (n : Name) × (word.0 ≡ text_of n) × NoValue n word.1 × (fault ≡ fault_at n number)

word_meaning-fault : (number : ℕ) (word : List ℕ × Option (List ℕ)) (fault : OptionFault) → word_meaning number word ≡ Err fault
    → IsFaultOf number word fault
word_meaning-fault number word fault =
    by_tests (bytes_eq word.0 (codes "mem")) refl (bytes_eq word.0 (codes "memmap")) refl (bytes_eq word.0 (codes "crashkernel")) refl
    (bytes_eq word.0 (codes "numa")) refl (bytes_eq word.0 (codes "add_efi_memmap"))
  where
    named : (n : Name) → bytes_eq word.0 (text_of n) ≡ true → meaning_or_fault (fault_at n number) (value_meaning n word.1) ≡ Err fault
        → IsFaultOf number word fault
    named n test is =
        let found = is_fault (fault_at n number) (value_meaning n word.1) fault is in
        (n, (bytes_eq-Decides word.0 (text_of n)).0 test, (said_none n word.1).0 found.0, found.1)

    by_tests : (a : Bool) → bytes_eq word.0 (codes "mem") ≡ a → (b : Bool) → bytes_eq word.0 (codes "memmap") ≡ b → (c : Bool)
        → bytes_eq word.0 (codes "crashkernel") ≡ c → (d : Bool) → bytes_eq word.0 (codes "numa") ≡ d → (e : Bool)
        → (if a then meaning_or_fault (faults.BadMem number) (value_meaning mem word.1) else
        (if b then meaning_or_fault (faults.BadMemmap number) (value_meaning memmap word.1) else
        (if c then meaning_or_fault (faults.BadCrash number) (value_meaning crash word.1) else
        (if d then meaning_or_fault (faults.BadNuma number) (value_meaning numa word.1) else (if e then Ok AddEfi else Ok (OfMap []))))))
        ≡ Err fault
        → IsFaultOf number word fault
    by_tests true a_is b b_is c c_is d d_is e is = named mem a_is is
    by_tests false a_is true b_is c c_is d d_is e is = named memmap b_is is
    by_tests false a_is false b_is true c_is d d_is e is = named crash c_is is
    by_tests false a_is false b_is false c_is true d_is e is = named numa d_is is
    by_tests false a_is false b_is false c_is false d_is true is = cc
    by_tests false a_is false b_is false c_is false d_is false is = cc

word_meaning-malformed : (number : ℕ) (n : Name) (name : List ℕ) (value : Option (List ℕ)) → name ≡ text_of n → NoValue n value
    → word_meaning number (name, value) ≡ Err (fault_at n number)
word_meaning-malformed number mem name value is none = rw is (rw ((said_none mem value).1 none) refl)
word_meaning-malformed number memmap name value is none = rw is (rw ((said_none memmap value).1 none) refl)
word_meaning-malformed number crash name value is none = rw is (rw ((said_none crash value).1 none) refl)
word_meaning-malformed number numa name value is none = rw is (rw ((said_none numa value).1 none) refl)

-- a word is malformed exactly if it has one of the names, and no value that this name may have
pub lacks_equals : (n : Name) → Lacks 61 (text_of n)
lacks_equals mem = (refl, (refl, (refl, tt)))
lacks_equals memmap = (refl, (refl, (refl, (refl, (refl, (refl, tt))))))
lacks_equals crash = (refl, (refl, (refl, (refl, (refl, (refl, (refl, (refl, (refl, (refl, (refl, tt)))))))))))
lacks_equals numa = (refl, (refl, (refl, (refl, tt))))

abbrev HasNone : Name → List ℕ × Option (List ℕ) → Type 0
HasNone n word = (word.0 ≡ text_of n) × NoValue n word.1

malformed-none : (n : Name) (word : List ℕ) → IsMalformed (text_of n) (IsValue n) word → HasNone n (name_value_of word)
malformed-none n word no_value = rw (split_once-none 61 (text_of n) (lacks_equals n)) (refl, tt)
malformed-none n word (other_value raw value unquotes none) =
    rw (split_once-mark 61 (text_of n) raw (lacks_equals n)) (refl, rw ((unquoted_exactly raw value).1 unquotes) none)

none-malformed : (n : Name) (word : List ℕ) → HasNone n (name_value_of word) → IsMalformed (text_of n) (IsValue n) word
none-malformed n word = by_cut (split_once 61 word) (split_once-spelled 61 word)
  where
    by_cut : (o : Option (List ℕ × List ℕ)) → ((halves : List ℕ × List ℕ) → o ≡ Some halves → word ≡ halves.0 ++ (61 ∷ halves.1))
        → HasNone n (split_name_value word o) → IsMalformed (text_of n) (IsValue n) word
    by_cut None spelled has = rw has.0 no_value
    by_cut (Some halves) spelled has =
        let whole : word ≡ text_of n ++ (61 ∷ halves.1) = spelled halves refl ∙ ap (λ (name : List ℕ). name ++ (61 ∷ halves.1)) has.0 in
        rw whole (other_value halves.1 (unquote halves.1) ((unquoted_exactly halves.1 (unquote halves.1)).0 refl) has.1)

-- a word has no fault exactly if it isn't malformed
pub sound-ok : (number : ℕ) (word : List ℕ) (said : WordMeaning) → word_meaning number (name_value_of word) ≡ Ok said → IsSoundWord word
sound-ok number word said is =
    record { mem = sound mem; memmap = sound memmap; crash = sound crash; numa = sound numa }
  where
    sound : (n : Name) → IsMalformed (text_of n) (IsValue n) word → ⊥
    sound n malformed =
        let has = malformed-none n word malformed in
        let told : word_meaning number (name_value_of word) ≡ Err (fault_at n number)
        = word_meaning-malformed number n (name_value_of word).0 (name_value_of word).1 has.0 has.1 in
        cc (is, told)

sound_of : (n : Name) (word : List ℕ) → IsSoundWord word → IsMalformed (text_of n) (IsValue n) word → ⊥
sound_of mem word sound = sound.mem
sound_of memmap word sound = sound.memmap
sound_of crash word sound = sound.crash
sound_of numa word sound = sound.numa

ok-sound : (number : ℕ) (word : List ℕ) → IsSoundWord word → (said : WordMeaning) × (word_meaning number (name_value_of word) ≡ Ok said)
ok-sound number word sound = by_said (word_meaning number (name_value_of word)) (word_meaning-fault number (name_value_of word))
  where
    by_said : (r : Result WordMeaning OptionFault) → ((fault : OptionFault) → r ≡ Err fault → IsFaultOf number (name_value_of word) fault)
        → (said : WordMeaning) × (r ≡ Ok said)
    by_said (Ok said) fault = (said, refl)
    by_said (Err f) fault =
        let found = fault f refl in absurd (sound_of found.0 word sound (none-malformed found.0 word (found.1, found.2)))

-- the fault of the first word that has one
record FirstOf (number : ℕ) (words : List (List ℕ)) (n : Name) (w : ℕ) : Type 0 where
  front : List (List ℕ)
  word : List ℕ
  rest : List (List ℕ)
  whole : words ≡ front ++ (word ∷ rest)
  sound : AllByRecursion IsSoundWord front
  place : w ≡ number + length front
  has : HasNone n (name_value_of word)

word_meanings_from-fault : (number : ℕ) (words : List (List ℕ)) (n : Name) (w : ℕ) → word_meanings_from number words ≡ Err (fault_at n w)
    → FirstOf number words n w
word_meanings_from-fault number [] n w is = cc
word_meanings_from-fault number (word ∷ words) n w is =
    by_said (word_meaning number (name_value_of word)) (sound-ok number word) (word_meaning-fault number (name_value_of word))
    (word_meanings_from-fault (number + 1) words n w) is
  where
    first : (fault : OptionFault) → IsFaultOf number (name_value_of word) fault → fault ≡ fault_at n w → FirstOf number (word ∷ words) n w
    first fault found is =
        let same = same_fault n found.0 w number (sym is ∙ found.3) in
        record {
          front = [];
          word = word;
          rest = words;
          whole = refl;
          sound = tt;
          place = omega (arith, same.1);
          has = rw same.0 (found.1, found.2);
        }

    later : IsSoundWord word → FirstOf (number + 1) words n w → FirstOf number (word ∷ words) n w
    later sound others =
        record {
          front = word ∷ others.front;
          word = others.word;
          rest = others.rest;
          whole = ap (λ (ws : List (List ℕ)). word ∷ ws) others.whole;
          sound = (sound, others.sound);
          place = omega (arith, others.place);
          has = others.has;
        }

    by_others : (said : WordMeaning) (r : Result (List (ℕ × WordMeaning)) OptionFault)
        → (r >>= λ others. Ok ((number, said) ∷ others)) ≡ Err (fault_at n w) → r ≡ Err (fault_at n w)
    by_others said (Ok others) is = cc
    by_others said (Err f) is = is

    by_said : (r : Result WordMeaning OptionFault) → ((said : WordMeaning) → r ≡ Ok said → IsSoundWord word)
        → ((fault : OptionFault) → r ≡ Err fault → IsFaultOf number (name_value_of word) fault)
        → (word_meanings_from (number + 1) words ≡ Err (fault_at n w) → FirstOf (number + 1) words n w)
        → (r >>= λ said. word_meanings_from (number + 1) words >>= λ others. Ok ((number, said) ∷ others)) ≡ Err (fault_at n w)
        → FirstOf number (word ∷ words) n w
    by_said (Ok said) sound fault rest is = later (sound said refl) (rest (by_others said (word_meanings_from (number + 1) words) is))
    by_said (Err f) sound fault rest is = first f (fault f refl) cc

word_meanings_from-first : (number : ℕ) (front : List (List ℕ)) (word : List ℕ) (after : List (List ℕ)) (n : Name)
    → AllByRecursion IsSoundWord front
    → HasNone n (name_value_of word) → word_meanings_from number (front ++ (word ∷ after)) ≡ Err (fault_at n (number + length front))
word_meanings_from-first number [] word after n sound has =
    let here : number + 0 ≡ number = omega arith in
    rw here (rw (word_meaning-malformed number n (name_value_of word).0 (name_value_of word).1 has.0 has.1) refl)
word_meanings_from-first number (first ∷ front) word after n sound has =
    let said = ok-sound number first sound.0 in
    let rest = word_meanings_from-first (number + 1) front word after n sound.1 has in
    let place : number + 1 + length front ≡ number + suc (length front) = omega arith in
    rw (said.1, rest, place) refl

-- the words of a line up to `--`
pub until_end-words : (raws words : List (List ℕ)) → OptionWords raws words → until_end (map unquote raws) ≡ words
until_end-words raws words line_end = refl
until_end-words raws words (two_dashes raw others unquotes) = rw ((unquoted_exactly raw (codes "--")).1 unquotes) refl
until_end-words raws words (a_word raw word others more unquotes differ rest) =
    rw ((unquoted_exactly raw word).1 unquotes, isnt (bytes_eq word (codes "--")) (bytes_eq-Decides word (codes "--")).0)
    (ap (λ (ws : List (List ℕ)). word ∷ ws) (until_end-words others more rest))
  where
    isnt : (t : Bool) → (t ≡ true → word ≡ codes "--") → t ≡ false
    isnt true is = absurd (differ (is refl))
    isnt false is = refl

pub OptionWords-until_end : (raws : List (List ℕ)) → OptionWords raws (until_end (map unquote raws))
OptionWords-until_end [] = line_end
OptionWords-until_end (raw ∷ raws) =
    by_test (bytes_eq (unquote raw) (codes "--")) (bytes_eq-Decides (unquote raw) (codes "--")) (OptionWords-until_end raws)
  where
    by_test : (t : Bool) → (t ≡ true → unquote raw ≡ codes "--") × (unquote raw ≡ codes "--" → t ≡ true)
        → OptionWords raws (until_end (map unquote raws))
        → OptionWords (raw ∷ raws) (if t then [] else unquote raw ∷ until_end (map unquote raws))
    by_test true decides rest = two_dashes raw raws ((unquoted_exactly raw (codes "--")).0 (decides.0 refl))
    by_test false decides rest =
        a_word raw (unquote raw) raws (until_end (map unquote raws)) ((unquoted_exactly raw (unquote raw)).0 refl)
        (λ same. let told : false ≡ true = decides.1 same in cc told) rest

-- in a line with an even number of quotation marks each quotation is closed
marks_close : (quoted : Bool) (line : List ℕ) → (count_by (λ b. b == 34) line + (if quoted then 1 else 0)) % 2 ≡ 0
    → QuotesClose CommandLine quoted line
marks_close true [] even = absurd (omega arith)
marks_close false [] even = refl
marks_close quoted (b ∷ bs) even =
    by_test (b == 34) quoted (λ q. marks_close q bs)
    (subst (λ n. (n + (if quoted then 1 else 0)) % 2 ≡ 0) (sum_by-cons (λ (x : ℕ). if x == 34 then 1 else 0) b bs) even)
  where
    by_test : (t quoted : Bool)
        → ((q : Bool) → (count_by (λ b. b == 34) bs + (if q then 1 else 0)) % 2 ≡ 0 → QuotesClose CommandLine q bs)
        → ((if t then 1 else 0) + count_by (λ b. b == 34) bs + (if quoted then 1 else 0)) % 2 ≡ 0
        → QuotesClose CommandLine (if t then not quoted else quoted) bs
    by_test true true close even = close false (omega arith)
    by_test true false close even = close true (omega arith)
    by_test false true close even = close true (omega arith)
    by_test false false close even = close false (omega arith)

-- the checks of the line don't return the fault of a word, and in a checked line each quotation is
-- closed
abbrev checked : Bool → Bool → List ℕ → Result (List ℕ) OptionFault
checked long closed line = if long then Err faults.TooLong else (if closed then Ok line else Err faults.OpenQuote)

pub line-read : (bytes line : List ℕ) → command_line_of bytes ≡ Ok line → QuotesClose CommandLine false line
line-read bytes line = by_tests (nat_lt LONGEST_LINE (length (raw_line bytes))) (is_closed (raw_line bytes)) refl
  where
    closes : is_closed (raw_line bytes) ≡ true → QuotesClose CommandLine false (raw_line bytes)
    closes is =
        let even : count_by (λ b. b == 34) (raw_line bytes) % 2 ≡ 0 = eqb-true _ _ is in
        let none : count_by (λ b. b == 34) (raw_line bytes) + 0 ≡ count_by (λ b. b == 34) (raw_line bytes) = omega arith in
        marks_close false (raw_line bytes) (rw none even)

    by_tests : (long closed : Bool) → is_closed (raw_line bytes) ≡ closed → checked long closed (raw_line bytes) ≡ Ok line
        → QuotesClose CommandLine false line
    by_tests true closed test is = cc
    by_tests false false test is = cc
    by_tests false true test is = let same : raw_line bytes ≡ line = cc in subst (QuotesClose CommandLine false) same (closes test)

other_fault : (n : Name) (w : ℕ) → faults.TooLong ≢ fault_at n w
other_fault mem w is = cc
other_fault n w is = cc

open_fault : (n : Name) (w : ℕ) → faults.OpenQuote ≢ fault_at n w
open_fault mem w is = cc
open_fault n w is = cc

user_fault : (n : Name) (k w : ℕ) → faults.UserMapInvalid k ≢ fault_at n w
user_fault mem k w is = cc
user_fault n k w is = cc

line-fault : (bytes : List ℕ) (n : Name) (w : ℕ) → command_line_of bytes ≢ Err (fault_at n w)
line-fault bytes n w = by_tests (nat_lt LONGEST_LINE (length (raw_line bytes))) (is_closed (raw_line bytes))
  where
    by_tests : (long closed : Bool) → checked long closed (raw_line bytes) ≢ Err (fault_at n w)
    by_tests true closed is = other_fault n w cc
    by_tests false false is = open_fault n w cc
    by_tests false true is = cc

-- the check of the user map doesn't return the fault of a word either
user_map-fault : (said : List (ℕ × WordMeaning)) (n : Name) (w : ℕ) → options_with_user_map said ≢ Err (fault_at n w)
user_map-fault said n w = by_exact (last_exact (all_map_options said))
  where
    by_count : (k : ℕ) (t : Bool) → (if t then Err (faults.UserMapInvalid k) else Ok (options_of_words said)) ≢ Err (fault_at n w)
    by_count k true is = user_fault n k w cc
    by_count k false is = cc

    by_exact : (found : Option (ℕ × ℕ)) → check_user_map (options_of_words said) found ≢ Err (fault_at n w)
    by_exact None is = cc
    by_exact (Some exact) is = by_count exact.0 (nat_lt exact.1 2) is

-- the fault of a word is reported exactly if that word is the lowest malformed one
pub first-exactly : (n : Name) (bytes : List ℕ) (w : ℕ)
    → options_of bytes ≡ Err (fault_at n w) ↔ IsFirstWordFault bytes w (IsMalformed (text_of n) (IsValue n))
first-exactly n bytes w = (by_line (command_line_of bytes) refl, told)
  where
    found : (line : List ℕ) → command_line_of bytes ≡ Ok line → word_meanings_from 1 (option_words line) ≡ Err (fault_at n w)
        → IsFirstWordFault bytes w (IsMalformed (text_of n) (IsValue n))
    found line read is =
        let first = word_meanings_from-fault 1 (option_words line) n w is in
        record {
          line = line;
          raws = words_in CommandLine line;
          front = first.front;
          word = first.word;
          rest = first.rest;
          read = read;
          lie = (words_exactly CommandLine line (words_in CommandLine line) (line-read bytes line read)).0 refl;
          words = subst (OptionWords (words_in CommandLine line)) first.whole (OptionWords-until_end (words_in CommandLine line));
          sound = first.sound;
          place = omega (arith, first.place);
          bad = none-malformed n first.word first.has;
        }

    by_said : (line : List ℕ) → command_line_of bytes ≡ Ok line → (r : Result (List (ℕ × WordMeaning)) OptionFault)
        → word_meanings_from 1 (option_words line) ≡ r
        → (r >>= options_with_user_map) ≡ Err (fault_at n w) → IsFirstWordFault bytes w (IsMalformed (text_of n) (IsValue n))
    by_said line read (Ok said) from is = absurd (user_map-fault said n w is)
    by_said line read (Err fault) from is =
        let same : fault ≡ fault_at n w = cc is in found line read (from ∙ ap (λ (f : OptionFault). Err f) same)

    by_line : (r : Result (List ℕ) OptionFault) → command_line_of bytes ≡ r
        → (r >>= λ line. word_meanings_from 1 (option_words line) >>= options_with_user_map) ≡ Err (fault_at n w)
        → IsFirstWordFault bytes w (IsMalformed (text_of n) (IsValue n))
    by_line (Ok line) read is = by_said line read (word_meanings_from 1 (option_words line)) refl is
    by_line (Err fault) read is =
        let same : fault ≡ fault_at n w = cc is in absurd (line-fault bytes n w (read ∙ ap (λ (f : OptionFault). Err f) same))

    told : IsFirstWordFault bytes w (IsMalformed (text_of n) (IsValue n)) → options_of bytes ≡ Err (fault_at n w)
    told first =
        let raws : words_in CommandLine first.line ≡ first.raws
        = (words_exactly CommandLine first.line first.raws (line-read bytes first.line first.read)).1 first.lie in
        let words : option_words first.line ≡ first.front ++ (first.word ∷ first.rest)
        = ap (λ (ws : List (List ℕ)). until_end (map unquote ws)) raws
        ∙ until_end-words first.raws (first.front ++ (first.word ∷ first.rest)) first.words in
        let place : w ≡ 1 + length first.front = omega (arith, first.place) in
        rw (
          first.read,
          words,
          place,
          word_meanings_from-first 1 first.front first.word first.rest n first.sound
              (malformed-none n first.word first.bad),
        )
        refl

pub mem-exactly_first : (bytes : List ℕ) (w : ℕ) → options_of bytes ≡ Err (faults.BadMem w) ↔ IsFirstWordFault bytes w IsBadMem
mem-exactly_first = first-exactly mem

pub memmap-exactly_first : (bytes : List ℕ) (w : ℕ) → options_of bytes ≡ Err (faults.BadMemmap w) ↔ IsFirstWordFault bytes w IsBadMemmap
memmap-exactly_first = first-exactly memmap

pub crash-exactly_first : (bytes : List ℕ) (w : ℕ) → options_of bytes ≡ Err (faults.BadCrash w) ↔ IsFirstWordFault bytes w IsBadCrash
crash-exactly_first = first-exactly crash

pub numa-exactly_first : (bytes : List ℕ) (w : ℕ) → options_of bytes ≡ Err (faults.BadNuma w) ↔ IsFirstWordFault bytes w IsBadNuma
numa-exactly_first = first-exactly numa
