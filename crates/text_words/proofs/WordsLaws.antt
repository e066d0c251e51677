-- The words of a text, and the removal of its last byte.
use Rattle.std.proofs.Common.{◌≡◌, ℕ, ◌==◌, true, false, List, [], ◌∷◌, ◌++◌, refl, ap, length, arith, Bor, Option, Some, None, ◌+◌}
use Rattle.text_words.specs.declared.separators.Separators.{Separators}
use Rattle.text_words.specs.Parts.{separates}
use Rattle.text_words.specs.Words.{words_in, without_last, IsWord}
use Rattle.text_words.proofs.PartsLaws.{parts-spelled, parts-one}

-- the last byte is removed if it is the mark
pub without_last-mark : (mark : ℕ) (front : List ℕ) (b : ℕ) → b == mark ≡ true → without_last mark (front ++ (b ∷ [])) ≡ front
without_last-mark mark [] b is = rw is refl
without_last-mark mark (a ∷ []) b is = rw is refl
without_last-mark mark (a ∷ c ∷ front) b is = ap (λ (bs : List ℕ). a ∷ bs) (without_last-mark mark (c ∷ front) b is)

-- the last byte stays if it isn't the mark
pub without_last-other : (mark : ℕ) (front : List ℕ) (b : ℕ) → b == mark ≡ false → without_last mark (front ++ (b ∷ [])) ≡ front ++ (b ∷ [])
without_last-other mark [] b is = rw is refl
without_last-other mark (a ∷ []) b is = rw is refl
without_last-other mark (a ∷ c ∷ front) b is = ap (λ (bs : List ℕ). a ∷ bs) (without_last-other mark (c ∷ front) b is)

-- a word ends before the next separator
pub words-spelled : (s : Separators) (word : List ℕ) (b : ℕ) (rest : List ℕ)
    → IsWord s word → separates s b ≡ true → words_in s (word ++ (b ∷ rest)) ≡ word ∷ words_in s rest
words-spelled s [] b rest w is = absurd (omega (arith, w.some))
words-spelled s (a ∷ word) b rest w is = rw (parts-spelled s false (a ∷ word) b rest w.closed is) refl

-- a text that can be a word has one word, which is the whole text
pub words-one : (s : Separators) (word : List ℕ) → IsWord s word → words_in s word ≡ word ∷ []
words-one s [] w = absurd (omega (arith, w.some))
words-one s (a ∷ word) w = rw (parts-one s false (a ∷ word) w.closed) refl

-- the bytes of an optional slice
abbrev pub text_of : Option (Bor (List ℕ)) → Option (List ℕ)
text_of None = None
text_of (Some text) = Some text.now

-- the length of the rest of a text plus 1, or 0 without a rest; a loop over the rest decreases it
abbrev pub left : Option (Bor (List ℕ)) → ℕ
left None = 0
left (Some text) = length text.now + 1
