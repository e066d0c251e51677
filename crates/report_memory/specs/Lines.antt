-- The texts that several reports share: a list of lines, a range of addresses, and the index at the
-- start of a line.
use Rattle.std.specs.Prelude.{ℕ, ◌+◌, ◌-◌, List, [], ◌∷◌, ◌++◌, codes}
use Rattle.bm_base.specs.Range.{RangeView, end_of}
use Rattle.bm_base.specs.Text.{hex_text, padded_decimal}

-- the text of a list: a line for each element, in order. `line` makes a line from an index and an
-- element. The first element has the index `n`, and each other one the next number.
abbrev pub indexed_lines : {X : Type 0} → (ℕ → X → List ℕ) → ℕ → List X → List ℕ
indexed_lines line n [] = []
indexed_lines line n (x ∷ xs) = line n x ++ indexed_lines line (n + 1) xs

-- the text of a range: the addresses of its first and its last byte, each as `0x` and sixteen
-- digits. For an empty range the second address is one below the first, or 0 if the first is 0.
abbrev pub range_text : RangeView → List ℕ
range_text r = hex_text r.base ++ codes ".." ++ hex_text (end_of r - 1)

-- the index at the start of a line, right-aligned in four columns, and `: `, as in `  12: `
abbrev pub index_text : ℕ → List ℕ
index_text n = padded_decimal 4 n ++ codes ": "
