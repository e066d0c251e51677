-- How a text is split into parts: the lines of a file, the words of a line, the items of a list.
-- The command line is split as in `next_arg` of lib/cmdline.c.
use Rattle.std.specs.Prelude.{ℕ, ◌==◌, Bool, false, not, ◌&&◌, ◌||◌, nat_le, if◌then◌else◌, Option, Some, None, List, [], ◌∷◌, ◌++◌}
use Rattle.std.specs.Option.{option_map}
use Rattle.text_words.specs.declared.separators.Separators.{Separators}
use Rattle.text_words.specs.declared.separators.Separators.TheVariants.{CommandLine, Script, Byte}

-- whether the byte separates parts: 0x20 and 0x09 to 0x0D for `CommandLine`; 0x20, 0x09 and 0x0D
-- for `Script`; only the byte `mark` for `Byte mark`
abbrev pub separates : Separators → ℕ → Bool
separates CommandLine b = (b == 32) || (nat_le 9 b && nat_le b 13)
separates Script b = (b == 32) || ((b == 9) || (b == 13))
separates (Byte mark) b = b == mark

-- whether the byte opens and closes a quotation: `"` in a command line
abbrev pub quotes : Separators → ℕ → Bool
quotes CommandLine b = b == 34
quotes Script b = false
quotes (Byte mark) b = false

-- whether a quotation is open after the byte, given whether one was open before it
abbrev pub quoted_after : Separators → Bool → ℕ → Bool
quoted_after s quoted b = if quotes s b then not quoted else quoted

-- the parts of a text after a byte has been put before the text: the byte is now the first one of
-- the first part
abbrev pub prepend_byte : ℕ → List (List ℕ) → List (List ℕ)
prepend_byte b [] = (b ∷ []) ∷ []
prepend_byte b (p ∷ ps) = (b ∷ p) ∷ ps

-- the parts of a text, split at the separators outside quotations; a part may be empty. The flag
-- says whether a quotation is open at the start
abbrev pub parts_from : Separators → Bool → List ℕ → List (List ℕ)
parts_from s quoted [] = [] ∷ []
parts_from s quoted (b ∷ bs) =
    if separates s b && not quoted
    then [] ∷ parts_from s quoted bs
    else prepend_byte b (parts_from s (quoted_after s quoted b) bs)

-- the parts of a text, split at the separators outside quotations; no quotation is open at its
-- start
abbrev pub parts_in : Separators → List ℕ → List (List ℕ)
parts_in s text = parts_from s false text

-- the parts of the text after a separator; the empty list if no separator follows (None)
abbrev pub parts_of_rest : Separators → Option (List ℕ) → List (List ℕ)
parts_of_rest s None = []
parts_of_rest s (Some text) = parts_in s text

-- the text before the first byte `mark`, or the whole text if it doesn't contain `mark`
abbrev pub text_before : ℕ → List ℕ → List ℕ
text_before mark [] = []
text_before mark (b ∷ bs) = if b == mark then [] else b ∷ text_before mark bs

-- the pair of texts, with `front` put before its first text
abbrev pub prepend_text : List ℕ → List ℕ × List ℕ → List ℕ × List ℕ
prepend_text front halves = (front ++ halves.0, halves.1)

-- the texts before and after the first byte `mark`, or None if the text doesn't contain `mark`
abbrev pub split_once : ℕ → List ℕ → Option (List ℕ × List ℕ)
split_once mark [] = None
split_once mark (b ∷ bs) = if b == mark then Some ([], bs) else option_map (prepend_text (b ∷ [])) (split_once mark bs)
