-- The words of a text, and quotation marks around them (`next_arg` of lib/cmdline.c).
use Rattle.std.specs.Prelude.{◌≡◌, ℕ, ◌<◌, ◌==◌, Bool, true, false, if◌then◌else◌, List, [], ◌∷◌, filter, length}
use Rattle.text_words.specs.declared.separators.Separators.{Separators}
use Rattle.text_words.specs.Parts.{separates, quoted_after, parts_in}

-- whether the part is a word: it isn't empty
abbrev pub is_word : List ℕ → Bool
is_word [] = false
is_word (b ∷ bs) = true

-- the words of a text: its parts that aren't empty
abbrev pub words_in : Separators → List ℕ → List (List ℕ)
words_in s text = filter is_word (parts_in s text)

-- the text without its last byte if that byte is the mark, else the whole text
abbrev pub without_last : ℕ → List ℕ → List ℕ
without_last mark [] = []
without_last mark (b ∷ []) = if b == mark then [] else b ∷ []
without_last mark (b ∷ c ∷ bs) = b ∷ without_last mark (c ∷ bs)

-- the text without the `"` at its start and, if there is one, the `"` at its end; a text that
-- doesn't begin with `"` stays as it is
abbrev pub unquote : List ℕ → List ℕ
unquote [] = []
unquote (b ∷ bs) = if b == 34 then without_last 34 bs else b ∷ bs

-- the text has no separator outside quotations, and each of its quotations closes. The flag says
-- whether a quotation is open at the start.
abbrev pub IsClosed : Separators → Bool → List ℕ → Type 0
IsClosed s quoted [] = quoted ≡ false
IsClosed s true (b ∷ bs) = IsClosed s (quoted_after s true b) bs
IsClosed s false (b ∷ bs) = (separates s b ≡ false) × IsClosed s (quoted_after s false b) bs

-- the text can be a word: it isn't empty, has no separator outside quotations, and closes its
-- quotations
pub record IsWord (s : Separators) (word : List ℕ) : Type 0 where
  pub some : 0 < length word
  pub closed : IsClosed s false word
