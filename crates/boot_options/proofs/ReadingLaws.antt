-- Reading a line word by word: the next word, and the user map at the end.
use Rattle.std.proofs.Common.{◌≡◌, ℕ, ◌+◌, false, List, ◌∷◌, refl, sym, codes, Result, Ok, Err}
use Rattle.std.specs.Str.{bytes_eq}
use Rattle.text_words.specs.declared.separators.Separators.TheVariants.{CommandLine}
use Rattle.text_words.specs.Words.{words_in, unquote}
use Rattle.bm_base.specs.ResultSteps.{◌>>=◌}
use Rattle.boot_options.specs.declared.fault.OptionFault.{OptionFault}
use Rattle.boot_options.specs.Options.{WordMeaning, name_value_of, word_meaning, word_meanings_from, option_words}
use Rattle.boot_options.specs.declared.reading.Reading.{Reading}
use Rattle.boot_options.specs.Reading.{ReadingState, IsReadTo, IsInState, reading_after_word, after_meaning, after_meanings}

-- the option words of a line are its first word, unless that is `--`, and those of the rest;
-- stated for the values that the reader compares
pub option_words-read : (line word after bare dashes : List ℕ) → words_in CommandLine line ≡ word ∷ words_in CommandLine after
    → bare ≡ unquote word → dashes ≡ codes "--" → false ≡ bytes_eq bare dashes → option_words line ≡ bare ∷ option_words after
option_words-read line word after bare dashes is unquotes marks test =
    let other : bytes_eq (unquote word) (codes "--") ≡ false = sym (rw (unquotes, marks) at test) in
    rw unquotes (rw is (rw other refl))

-- the reader is in the state that the definition gives
pub state_at : (r : Reading) (d : Result ReadingState OptionFault) → IsInState r d → (st : ReadingState) × IsReadTo r st × (d ≡ Ok st)
state_at r (Ok st) has = (st, has, refl)
state_at r (Err fault) has = absurd has

-- the fault of the next word is the fault of the rest of the line
pub after_meanings-fault : (number : ℕ) (st : ReadingState) (fault : OptionFault) (word : List ℕ) (words : List (List ℕ))
    → after_meaning number st (word_meaning number (name_value_of word)) ≡ Err fault
    → after_meanings st (word_meanings_from number (word ∷ words)) ≡ Err fault
after_meanings-fault number st fault word words = by_said (word_meaning number (name_value_of word))
  where
    by_said : (r : Result WordMeaning OptionFault) → after_meaning number st r ≡ Err fault
        → after_meanings st (r >>= λ said. word_meanings_from (number + 1) words >>= λ others. Ok ((number, said) ∷ others)) ≡ Err fault
    by_said (Ok said) is = cc
    by_said (Err f) is = cc

-- a word without a fault gives a new state, from which the words after it are read
pub after_meanings-step : (number : ℕ) (old new : ReadingState) (word : List ℕ) (words : List (List ℕ))
    → after_meaning number old (word_meaning number (name_value_of word)) ≡ Ok new
    → after_meanings old (word_meanings_from number (word ∷ words)) ≡ after_meanings new (word_meanings_from (number + 1) words)
after_meanings-step number old new word words = by_said (word_meaning number (name_value_of word))
  where
    by_others : (said : WordMeaning) (r : Result (List (ℕ × WordMeaning)) OptionFault) → reading_after_word number old said ≡ new
        → after_meanings old (r >>= λ others. Ok ((number, said) ∷ others)) ≡ after_meanings new r
    by_others said (Ok others) is = rw is refl
    by_others said (Err f) is = refl

    by_said : (r : Result WordMeaning OptionFault) → after_meaning number old r ≡ Ok new
        → after_meanings old (r >>= λ said. word_meanings_from (number + 1) words >>= λ others. Ok ((number, said) ∷ others))
        ≡ after_meanings new (word_meanings_from (number + 1) words)
    by_said (Ok said) is = by_others said (word_meanings_from (number + 1) words) cc
    by_said (Err f) is = cc
