-- Lemmas: a text that was made of lines is split into these lines.
use Rattle.std.proofs.Common.{◌≡◌, ℕ, ◌==◌, false, List, [], ◌∷◌, ◌++◌, refl, ap}
use Rattle.audit_lines.specs.Reports.{split_lines, lines_with_byte}

abbrev pub IsOneLine : List ℕ → Type 0
IsOneLine [] = Unit {0}
IsOneLine (b ∷ bs) = ((b == 10) ≡ false) × IsOneLine bs

pub one_line-append : (xs ys : List ℕ) → IsOneLine xs → IsOneLine ys → IsOneLine (xs ++ ys)
one_line-append [] ys first second = second
one_line-append (x ∷ xs) ys first second = (first.0, one_line-append xs ys first.1 second)

-- the first line of a text, and the lines of the rest
pub split_first : (text rest : List ℕ) → IsOneLine text
    → split_lines (text ++ (10 ∷ rest)) ≡ (text ∷ (split_lines rest).0, (split_lines rest).1)
unfolding split_lines
split_first [] rest one = refl
split_first (b ∷ bs) rest one = rw (one.0) (ap (lines_with_byte b) (split_first bs rest one.1))
