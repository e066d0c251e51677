-- Words are read exactly as they are spelled, and unquoting removes exactly the marks that the
-- grammar allows.
use Rattle.std.proofs.Common.{◌≡◌, ◌≢◌, ◌↔◌, ◌⊎◌, inl, inr, ℕ, ◌+◌, ◌≤◌, ◌==◌, if◌then◌else◌, zero, suc, Bool, true, false, List, [], ◌∷◌, ◌++◌, length, refl, subst, ap, sym, ◌∙◌, codes, eq-eqb, length-append, arith}
use Rattle.std.proofs.lemmas.Bool.{eqb-true, ne_eqb}
use Rattle.text_words.specs.declared.separators.Separators.{Separators}
use Rattle.text_words.specs.declared.separators.Separators.TheVariants.{CommandLine, Script, Byte}
use Rattle.text_words.specs.Parts.{separates, quotes, quoted_after}
use Rattle.text_words.specs.Words.{words_in, unquote, without_last, IsClosed, IsWord}
use Rattle.text_words.specs.Spelling.{QuotesClose, HasWords, no_byte, blank_first, word_alone, word_first, Unquotes, no_mark, both_marks, first_mark}
use Rattle.text_words.proofs.WordsLaws.{words-spelled, words-one, without_last-mark}

-- a separator opens no quotation
separator-quotes : (s : Separators) (b : ℕ) → separates s b ≡ true → quotes s b ≡ false
separator-quotes CommandLine b is = ne_eqb b 34 (λ same. let isnt : separates CommandLine 34 ≡ true = rw same at is in cc)
separator-quotes Script b is = refl
separator-quotes (Byte mark) b is = refl

-- a text is one part, or its first part ends at a separator
abbrev pub FirstPart : Separators → Bool → List ℕ → Type 0
FirstPart s quoted text =
    IsClosed s quoted text
    ⊎ ((part : List ℕ) × (b : ℕ) × (rest : List ℕ) × (text ≡ part ++ (b ∷ rest)) × IsClosed s quoted part
    × (separates s b ≡ true) × QuotesClose s false rest)

pub first_part : (s : Separators) (quoted : Bool) (text : List ℕ) → QuotesClose s quoted text → FirstPart s quoted text
first_part s quoted [] close = inl close
first_part s true (a ∷ text) close = longer (first_part s (quoted_after s true a) text close)
  where
    longer : FirstPart s (quoted_after s true a) text → FirstPart s true (a ∷ text)
    longer (inl closed) = inl closed
    longer (inr found) =
        inr (a ∷ found.0, found.1, found.2, ap (λ (bs : List ℕ). a ∷ bs) found.3, found.4, found.5, found.6)
first_part s false (a ∷ text) close = by_test (separates s a) refl (first_part s (quoted_after s false a) text close)
  where
    by_test : (t : Bool) → separates s a ≡ t → FirstPart s (quoted_after s false a) text → FirstPart s false (a ∷ text)
    by_test true is found =
        let after : QuotesClose s false text = rw (separator-quotes s a is) at close in
        inr ([], a, text, refl, refl, is, after)
    by_test false is (inl closed) = inl (is, closed)
    by_test false is (inr found) =
        inr (a ∷ found.0, found.1, found.2, ap (λ (bs : List ℕ). a ∷ bs) found.3, (is, found.4), found.5, found.6)

-- the words of a text are words of the text by the grammar
one_word : (s : Separators) (text : List ℕ) → IsClosed s false text → HasWords s text (words_in s text)
one_word s [] closed = no_byte
one_word s (a ∷ bs) closed =
    let word : IsWord s (a ∷ bs) = record { some = omega arith; closed = closed } in
    rw (words-one s (a ∷ bs) word) (word_alone (a ∷ bs) word)

word_more : (s : Separators) (part : List ℕ) (b : ℕ) (rest : List ℕ) → IsClosed s false part → separates s b ≡ true
    → HasWords s rest (words_in s rest) → HasWords s (part ++ (b ∷ rest)) (words_in s (part ++ (b ∷ rest)))
word_more s [] b rest closed is lie = rw is (blank_first b rest (words_in s rest) is lie)
word_more s (a ∷ bs) b rest closed is lie =
    let word : IsWord s (a ∷ bs) = record { some = omega arith; closed = closed } in
    rw (words-spelled s (a ∷ bs) b rest word is) (word_first (a ∷ bs) b rest (words_in s rest) word is lie)

words_within : (s : Separators) (most : ℕ) (text : List ℕ) → length text ≤ most → QuotesClose s false text
    → HasWords s text (words_in s text)
words_within s zero [] short close = no_byte
words_within s zero (a ∷ bs) short close = absurd (omega arith)
words_within s (suc most) text short close = by_part (first_part s false text close) (λ rest. words_within s most rest)
  where
    by_part : FirstPart s false text
        → ((rest : List ℕ) → length rest ≤ most → QuotesClose s false rest → HasWords s rest (words_in s rest))
        → HasWords s text (words_in s text)
    by_part (inl closed) lie = one_word s text closed
    by_part (inr found) lie =
        let lengths : length text ≡ length found.0 + suc (length found.2) = ap length found.3 ∙ length-append found.0 (found.1 ∷ found.2) in
        let fits : length found.2 ≤ most = omega (arith, short, lengths) in
        subst (λ t. HasWords s t (words_in s t)) (sym found.3)
        (word_more s found.0 found.1 found.2 found.4 found.5 (lie found.2 fits found.6))

pub has_words : (s : Separators) (text : List ℕ) (words : List (List ℕ)) → HasWords s text words → words_in s text ≡ words
has_words s text words no_byte = refl
has_words s text words (blank_first b after ws is rest) = rw is (has_words s after ws rest)
has_words s text words (word_alone word is) = words-one s word is
has_words s text words (word_first word b after ws is blank rest) =
    words-spelled s word b after is blank ∙ ap (λ (ws : List (List ℕ)). word ∷ ws) (has_words s after ws rest)

pub words_exactly : (s : Separators) (text : List ℕ) (words : List (List ℕ)) → QuotesClose s false text
    → words_in s text ≡ words ↔ HasWords s text words
words_exactly s text words close = (
  λ is. subst (HasWords s text) is (words_within s (length text) text (omega arith) close),
  has_words s text words,
)

-- a text either ends with a quotation mark or doesn't
abbrev EndsOrNot : List ℕ → Type 0
EndsOrNot text =
    ((front : List ℕ) × (text ≡ front ++ codes "\"") × (without_last 34 text ≡ front))
    ⊎ (((front : List ℕ) → text ≢ front ++ codes "\"") × (without_last 34 text ≡ text))

nothing_ends : (front : List ℕ) → [] ≢ front ++ codes "\""
nothing_ends [] same = cc
nothing_ends (a ∷ front) same = cc

ends_or_not : (text : List ℕ) → EndsOrNot text
ends_or_not [] = inr (nothing_ends, refl)
ends_or_not (b ∷ []) = by_test (b == 34) refl
  where
    by_test : (t : Bool) → b == 34 ≡ t → EndsOrNot (b ∷ [])
    by_test true is = inl ([], ap (λ (n : ℕ). n ∷ []) (eqb-true b 34 is), rw is refl)
    by_test false is = inr (other, rw is refl)
      where
        other : (front : List ℕ) → b ∷ [] ≢ front ++ codes "\""
        other [] same = let mark : b ≡ 34 = cc in let test : b == 34 ≡ true = eq-eqb b 34 mark in cc
        other (a ∷ front) same = let rest : [] ≡ front ++ codes "\"" = cc in nothing_ends front rest
ends_or_not (b ∷ c ∷ bs) = longer (ends_or_not (c ∷ bs))
  where
    longer : EndsOrNot (c ∷ bs) → EndsOrNot (b ∷ c ∷ bs)
    longer (inl ends) = inl (b ∷ ends.0, ap (λ (rest : List ℕ). b ∷ rest) ends.1, ap (λ (rest : List ℕ). b ∷ rest) ends.2)
    longer (inr not) = inr (other, ap (λ (rest : List ℕ). b ∷ rest) not.1)
      where
        other : (front : List ℕ) → b ∷ c ∷ bs ≢ front ++ codes "\""
        other [] same = cc
        other (a ∷ front) same = let rest : c ∷ bs ≡ front ++ codes "\"" = cc in not.0 front rest

no_quote : (b : ℕ) (bs : List ℕ) → b == 34 ≡ false → (rest : List ℕ) → b ∷ bs ≢ codes "\"" ++ rest
no_quote b bs isnt rest same = let is : b ≡ 34 = cc in let test : b == 34 ≡ true = eq-eqb b 34 is in cc

-- unquoting removes the marks that the grammar says, for each form of the text
unquote-spelled : (text : List ℕ) → Unquotes text (unquote text)
unquote-spelled [] = no_mark [] (λ rest same. cc)
unquote-spelled (b ∷ bs) = by_test (b == 34) refl (ends_or_not bs)
  where
    by_test : (t : Bool) → b == 34 ≡ t → EndsOrNot bs → Unquotes (b ∷ bs) (if t then without_last 34 bs else b ∷ bs)
    by_test false is ends = no_mark (b ∷ bs) (no_quote b bs is)
    by_test true is (inl ends) = rw (eqb-true b 34 is, ends.2, ends.1) (both_marks ends.0)
    by_test true is (inr not) = rw (eqb-true b 34 is, not.1) (first_mark bs not.0)

unquoted_is : (text inner : List ℕ) → Unquotes text inner → unquote text ≡ inner
unquoted_is text inner (no_mark _ not) = bare text not
  where
    bare : (text : List ℕ) → ((rest : List ℕ) → text ≢ codes "\"" ++ rest) → unquote text ≡ text
    bare [] not = refl
    bare (b ∷ bs) not =
        let isnt : b == 34 ≡ false = ne_eqb b 34 (λ same. not bs (ap (λ (n : ℕ). n ∷ bs) same)) in rw isnt refl
unquoted_is text inner (both_marks _) = without_last-mark 34 inner 34 refl
unquoted_is text inner (first_mark _ not) = by_end (ends_or_not inner)
  where
    by_end : EndsOrNot inner → without_last 34 inner ≡ inner
    by_end (inl ends) = absurd (not ends.0 ends.1)
    by_end (inr has) = has.1

pub unquoted_exactly : (text inner : List ℕ) → unquote text ≡ inner ↔ Unquotes text inner
unquoted_exactly text inner = (λ is. subst (Unquotes text) is (unquote-spelled text), unquoted_is text inner)
