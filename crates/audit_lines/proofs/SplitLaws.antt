-- Lemmas on splitting a text into lines byte by byte.
use Rattle.std.proofs.Common.{◌≡◌, ◌≢◌, ℕ, ◌+◌, ◌<◌, ◌==◌, false, List, [], ◌∷◌, ◌++◌, length, take, drop, get_or, refl, ap, add-one, drop-cons, eq-eqb, suc}
use Rattle.std.proofs.lemmas.Bool.{ne_eqb}
use Rattle.std.proofs.lemmas.List.{take_more}
use Rattle.audit_lines.specs.Reports.{LinesAndRest, split_lines, lines_with_byte, lines_with_newline}

-- the lines of a text with these bytes, none of them a newline, put in front
abbrev pub glued : List ℕ → LinesAndRest → LinesAndRest
glued [] split = split
glued (b ∷ bs) split = lines_with_byte b (glued bs split)

pub glued_more : (front : List ℕ) (b : ℕ) (split : LinesAndRest) → glued (front ++ (b ∷ [])) split ≡ glued front (lines_with_byte b split)
glued_more [] b split = refl
glued_more (a ∷ front) b split = ap (lines_with_byte a) (glued_more front b split)

glued_line : (front : List ℕ) (lines : List (List ℕ)) (left : List ℕ)
    → glued front (lines_with_newline (lines, left)) ≡ (front ∷ lines, left)
glued_line [] lines left = refl
glued_line (a ∷ front) lines left = ap (lines_with_byte a) (glued_line front lines left)

pub glued_end : (front : List ℕ) → glued front ([], []) ≡ ([], front)
glued_end [] = refl
glued_end (a ∷ front) = ap (lines_with_byte a) (glued_end front)

-- at a newline the bytes before it are a line
pub newline_found : (text : List ℕ) (i : ℕ) → i < length text → get_or text i 0 ≡ 10
    → glued (take i text) (split_lines (drop i text))
    ≡ (take i text ∷ (split_lines (drop (i + 1) text)).0, (split_lines (drop (i + 1) text)).1)
unfolding split_lines
newline_found text i inside is =
    rw (add-one, drop-cons text i 0 inside, eq-eqb (get_or text i 0) 10 is)
    (glued_line (take i text) (split_lines (drop (suc i) text)).0 (split_lines (drop (suc i) text)).1)

-- any byte but a newline belongs to the line that has begun
pub byte_passed : (text : List ℕ) (i : ℕ) → i < length text → get_or text i 0 ≢ 10
    → glued (take (i + 1) text) (split_lines (drop (i + 1) text)) ≡ glued (take i text) (split_lines (drop i text))
unfolding split_lines
byte_passed text i inside other =
    let not_ten : get_or text i 0 == 10 ≡ false = ne_eqb (get_or text i 0) 10 other in
    rw (
      take_more text i 0 inside,
      glued_more (take i text) (get_or text i 0) (split_lines (drop (i + 1) text)),
      add-one,
      drop-cons text i 0 inside,
      not_ten,
    ) refl
