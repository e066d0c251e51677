-- The grammar of words and quotation marks (`next_arg` of lib/cmdline.c).
use Rattle.std.specs.Prelude.{◌≡◌, ◌≢◌, ℕ, Bool, true, false, List, [], ◌∷◌, ◌++◌, codes}
use Rattle.text_words.specs.declared.separators.Separators.{Separators}
use Rattle.text_words.specs.Parts.{separates, quoted_after}
use Rattle.text_words.specs.Words.{IsWord}

-- each quotation of the text closes. The flag says whether a quotation is open at the start.
abbrev pub QuotesClose : Separators → Bool → List ℕ → Type 0
QuotesClose s quoted [] = quoted ≡ false
QuotesClose s quoted (b ∷ bs) = QuotesClose s (quoted_after s quoted b) bs

-- the text has exactly the words of the list, with at least one separator between two of them, and
-- any number before the first and after the last
pub data HasWords (s : Separators) : List ℕ → List (List ℕ) → Type 0 where
  no_byte : HasWords s [] []
  blank_first : (b : ℕ) (text : List ℕ) (words : List (List ℕ)) → separates s b ≡ true → HasWords s text words
      → HasWords s (b ∷ text) words
  word_alone : (word : List ℕ) → IsWord s word → HasWords s word (word ∷ [])
  word_first : (word : List ℕ) (b : ℕ) (text : List ℕ) (words : List (List ℕ)) → IsWord s word → separates s b ≡ true
      → HasWords s text words → HasWords s (word ++ (b ∷ text)) (word ∷ words)

-- unquoting the first text gives the second. A text that begins with `"` loses it, and a `"` at
-- its end; any other text stays as it is.
pub data Unquotes : List ℕ → List ℕ → Type 0 where
  no_mark : (text : List ℕ) → ((rest : List ℕ) → text ≢ codes "\"" ++ rest) → Unquotes text text
  both_marks : (inner : List ℕ) → Unquotes (codes "\"" ++ (inner ++ codes "\"")) inner
  first_mark : (inner : List ℕ) → ((front : List ℕ) → inner ≢ front ++ codes "\"") → Unquotes (codes "\"" ++ inner) inner
