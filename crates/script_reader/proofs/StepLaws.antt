-- The single steps of reading a line: words, a number, an alignment, a size, a range. A step
-- accepts exactly what the grammar allows.
use Rattle.std.proofs.Common.{◌≡◌, ℕ, ◌+◌, ◌^◌, ◌<◌, ◌≤◌, ◌==◌, Bool, true, false, IsTrue, nat_le, nat_lt, List, [], ◌∷◌, ◌++◌, length, Option, Some, None, Result, Ok, Err, refl, ap, arith, ◌⊎◌, inl, inr}
use Rattle.std.specs.Prelude.{IfSome}
use Rattle.std.specs.Option.{option_map}
use Rattle.std.specs.Str.{bytes_eq}
use Rattle.std.proofs.lemmas.Bool.Decides.{nat_tests}
use Rattle.std.proofs.lemmas.Slice.Eq.{bytes_eq-Decides}
use Rattle.std.specs.Int.{is_power_of_two}
use Rattle.bm_base.specs.ResultSteps.{◌>>=◌}
use Rattle.bm_base.specs.Size.{size_of, IsSize}
use Rattle.bm_base.specs.declared.size.NumFault.{NumFault}
use Rattle.text_words.specs.Spelling.{HasWords, QuotesClose}
use Rattle.text_words.specs.Words.{words_in}
use Rattle.text_words.specs.declared.separators.Separators.TheVariants as separators
use Rattle.text_words.proofs.SpellingLaws.{words_exactly}
use Rattle.script_reader.specs.declared.fault.ScriptLineFault.{ScriptLineFault}
use Rattle.script_reader.specs.declared.fault.ScriptLineFault.TheVariants as wrong
use Rattle.script_reader.specs.Forms.{greatest_u64}
use Rattle.script_reader.specs.Numbers.{Words, expect_no_words, one_word, two_words, three_words, word_after_key, number_if_whole, number_if_within, number_in_word, number_within, optional_number, check_power_of_two, check_not_zero, range_or_fault}
use Rattle.script_reader.specs.Grammar.{IsWithin, front_value, value_of_word}
use Rattle.script_reader.specs.Spelling.{key_with_word}

-- a script has no quotations, so each text has the words that the grammar finds in it
no_quotes : (text : List ℕ) → QuotesClose separators.Script false text
no_quotes [] = refl
no_quotes (b ∷ text) = no_quotes text

pub words_spelled : (text : List ℕ) → HasWords separators.Script text (words_in separators.Script text)
words_spelled text = (words_exactly separators.Script text (words_in separators.Script text) (no_quotes text)).0 refl

-- a step returns its value if its condition holds, and its fault otherwise
abbrev pub ChecksExactly : {A : Type 0} → Type 0 → A → ScriptLineFault → Result A ScriptLineFault → Type 0
ChecksExactly Good value_of_word fault r = (Good × (r ≡ Ok value_of_word)) ⊎ ((¬ Good) × (r ≡ Err fault))

pub passed : {A : Type 0} {Good : Type 0} {v : A} {fault : ScriptLineFault} {r : Result A ScriptLineFault} → ChecksExactly Good v fault r
    → Good → r ≡ Ok v
passed judged good = elim judged [ inl is ↦ is.1 | inr bad ↦ absurd (bad.0 good) ]

pub failed : {A : Type 0} {Good : Type 0} {v : A} {fault : ScriptLineFault} {r : Result A ScriptLineFault} → ChecksExactly Good v fault r
    → ¬ Good → r ≡ Err fault
failed judged bad = elim judged [ inl is ↦ absurd (bad is.0) | inr is ↦ is.1 ]

-- a number: a size that takes its whole word and is within its limit
abbrev IsWhole : List ℕ → Result (ℕ × ℕ) NumFault → Type 0
IsWhole word r = (n : ℕ) × (r ≡ Ok (n, length word))

whole_or : (word : List ℕ) (r : Result (ℕ × ℕ) NumFault)
    → ChecksExactly (IsWhole word r) (front_value r) wrong.Number (number_if_whole word r)
whole_or word (Err fault) = inr (λ is. cc (is.1), refl)
whole_or word (Ok found) = by_test found.0 found.1 (found.1 == length word) refl
  where
    by_test : (n taken : ℕ) (t : Bool) → (taken == length word) ≡ t
        → ChecksExactly (IsWhole word (Ok (n, taken))) n wrong.Number (number_if_whole word (Ok (n, taken)))
    by_test n taken true all =
        let same : taken ≡ length word = grind (arith, nat_tests, all) in inl ((n, ap (λ (m : ℕ). Ok (n, m)) same), rw all refl)
    by_test n taken false part =
        inr (
          λ is. let pair : (n, taken) ≡ (is.0, length word) = cc (is.1) in
              let same : taken ≡ length word = ap (λ (found : ℕ × ℕ). found.1) pair in absurd (grind (arith, nat_tests, part, same)),
          rw part refl,
        )

within_bound : (most n : ℕ) → ChecksExactly (n ≤ most) n wrong.Number (number_if_within most n)
within_bound most n = by_test (nat_le n most) refl
  where
    by_test : (t : Bool) → nat_le n most ≡ t → ChecksExactly (n ≤ most) n wrong.Number (number_if_within most n)
    by_test true fits = inl (grind (arith, nat_tests, fits), rw fits refl)
    by_test false above = inr (λ fits. absurd (grind (arith, nat_tests, above, fits)), rw above refl)

front_value-whole : (word : List ℕ) (r : Result (ℕ × ℕ) NumFault) (n : ℕ) → r ≡ Ok (n, length word) → front_value r ≡ n
front_value-whole word r n is = rw is refl

bounded_or : (most : ℕ) (word : List ℕ) (r : Result (ℕ × ℕ) NumFault)
    → ChecksExactly ((n : ℕ) × (r ≡ Ok (n, length word)) × (n ≤ most)) (front_value r) wrong.Number (number_if_whole word r
    >>= number_if_within most)
bounded_or most word r =
    elim (whole_or word r) [
      | inl is ↦ elim (within_bound most (front_value r)) [
        | inl fits ↦ inl (
          (is.0.0, is.0.1, let same : front_value r ≡ is.0.0 = front_value-whole word r is.0.0 is.0.1 in omega (arith, fits.0)),
          rw is.1 fits.1,
        )
        | inr above ↦ inr (
          λ good. above.0 (let same : front_value r ≡ good.0 = front_value-whole word r good.0 good.1 in omega (arith, good.2)),
          rw is.1 above.1,
        )
      ]
      | inr isnt ↦ inr (λ good. isnt.0 (good.0, good.1), rw isnt.1 refl)
    ]

pub within_or : (most : ℕ) (word : List ℕ) → ChecksExactly (IsWithin most word) (value_of_word word) wrong.Number (number_within most word)
within_or most word = bounded_or most word (size_of word)

-- a number that is a size within its limit is below 2^64
size_below : (word : List ℕ) (n : ℕ) → IsSize word n → n ≤ greatest_u64
size_below word n is = grind (arith, nat_tests)

pub number_or : (word : List ℕ) → ChecksExactly (IsWithin greatest_u64 word) (value_of_word word) wrong.Number (number_in_word word)
number_or word =
    elim (whole_or word (size_of word)) [
      | inl is ↦ inl ((is.0.0, is.0.1, size_below word is.0.0 is.0.1), is.1)
      | inr isnt ↦ inr (λ good. isnt.0 (good.0, good.1), isnt.1)
    ]

pub optional_or : (most : ℕ) (word : Option (List ℕ))
    → ChecksExactly (IfSome word (IsWithin most)) (option_map value_of_word word) wrong.Number (optional_number most word)
optional_or most None = inl (tt, refl)
optional_or most (Some word) =
    elim (within_or most word) [ inl is ↦ inl (is.0, rw (is.1) refl) | inr isnt ↦ inr (isnt.0, rw (isnt.1) refl) ]

-- the checks of an alignment, of a size, and of a range accept exactly what the grammar allows
pub power_or : (n : ℕ) → ChecksExactly (IsTrue (is_power_of_two n)) n wrong.Align (check_power_of_two n)
power_or n = by_test (is_power_of_two n) refl
  where
    by_test : (t : Bool) → is_power_of_two n ≡ t → ChecksExactly (IsTrue (is_power_of_two n)) n wrong.Align (check_power_of_two n)
    by_test true is = inl (is, rw is refl)
    by_test false isnt = inr (λ is. cc, rw isnt refl)

pub some_or : (n : ℕ) → ChecksExactly (0 < n) n wrong.ZeroSize (check_not_zero n)
some_or n = by_test (n == 0) refl
  where
    by_test : (t : Bool) → (n == 0) ≡ t → ChecksExactly (0 < n) n wrong.ZeroSize (check_not_zero n)
    by_test true none = inr (λ above. absurd (grind (arith, nat_tests, none, above)), rw none refl)
    by_test false isnt = inl (grind (arith, nat_tests, isnt), rw isnt refl)

pub range_or : (base size : ℕ)
    → ChecksExactly (base + size < 2 ^ 64) (record { base = base; size = size }) wrong.TooFar (range_or_fault base size)
range_or base size = by_test (nat_lt (base + size) (2 ^ 64)) refl
  where
    by_test : (t : Bool) → nat_lt (base + size) (2 ^ 64) ≡ t
        → ChecksExactly (base + size < 2 ^ 64) (record { base = base; size = size }) wrong.TooFar (range_or_fault base size)
    by_test true fits = inl (grind (arith, nat_tests, fits), rw fits refl)
    by_test false far = inr (λ fits. absurd (grind (arith, nat_tests, far, fits)), rw far refl)

-- words either have a form or the fault `Form`
pub is_key : (word key : List ℕ) → (word ≡ key) ⊎ (bytes_eq word key ≡ false)
is_key word key = by_test (bytes_eq word key) refl
  where
    by_test : (t : Bool) → bytes_eq word key ≡ t → (word ≡ key) ⊎ (bytes_eq word key ≡ false)
    by_test true is = inl ((bytes_eq-Decides word key).0 is)
    by_test false isnt = inr isnt

pub at_end : (words : Words) → (words ≡ []) ⊎ (expect_no_words words ≡ Err wrong.Form)
at_end [] = inl refl
at_end (w ∷ ws) = inr refl

pub one_or : (words : Words) → ((a : List ℕ) × (words ≡ a ∷ [])) ⊎ (one_word words ≡ Err wrong.Form)
one_or [] = inr refl
one_or (a ∷ []) = inl (a, refl)
one_or (a ∷ w ∷ ws) = inr refl

pub two_or : (words : Words) → ((a b : List ℕ) × (words ≡ a ∷ b ∷ [])) ⊎ (two_words words ≡ Err wrong.Form)
two_or [] = inr refl
two_or (a ∷ words) = elim (one_or words) [ inl is ↦ inl (a, is.0, rw (is.1) refl) | inr isnt ↦ inr (rw isnt refl) ]

pub three_or : (words : Words) → ((a b d : List ℕ) × (words ≡ a ∷ b ∷ d ∷ [])) ⊎ (three_words words ≡ Err wrong.Form)
three_or [] = inr refl
three_or (a ∷ words) = elim (two_or words) [ inl is ↦ inl (a, is.0, is.1, rw (is.2) refl) | inr isnt ↦ inr (rw isnt refl) ]

pub optional_spelled : (key : List ℕ) (words : Words)
    → words ≡ key_with_word key (word_after_key key words).0 ++ (word_after_key key words).1
optional_spelled key [] = refl
optional_spelled key (w ∷ []) = refl
optional_spelled key (w ∷ v ∷ ws) = by_test (bytes_eq w key) refl
  where
    by_test : (t : Bool) → bytes_eq w key ≡ t
        → w ∷ v ∷ ws ≡ key_with_word key (word_after_key key (w ∷ v ∷ ws)).0 ++ (word_after_key key (w ∷ v ∷ ws)).1
    by_test true is = rw is (ap (λ (k : List ℕ). k ∷ v ∷ ws) ((bytes_eq-Decides w key).0 is))
    by_test false isnt = rw isnt refl
