-- The hexadecimal and decimal digits that the code writes one by one are those of `digits`.
use Rattle.std.proofs.Common.{◌≡◌, ℕ, zero, suc, ◌+◌, ◌-◌, ◌/◌, ◌%◌, ◌^◌, ◌<◌, ◌≤◌, false, nat_eq, List, [], ◌∷◌, ◌++◌, length, take, drop, set, min, replicate, codes, refl, ap, sym, ◌∙◌, append-nil, arith, ⊎_elim}
use Rattle.std.proofs.lemmas.Bool.{cases_lt}
use Rattle.std.proofs.lemmas.Bool.Decides.{nat_tests}
use Rattle.std.proofs.lemmas.List.{drop-set, take-append-drop, drop-append-le, take-replicate, drop-replicate, length-replicate}
use Rattle.std.specs.Fmt.{digits, digits_onto, digit_glyph, decimal}
use Rattle.bm_base.specs.Text.{hex_text, padded_decimal}

-- digits, padded with zeros on the left to the width
abbrev pub padded : ℕ → List ℕ → List ℕ
padded w ds = replicate (w - length ds) 48 ++ ds

-- writes the last k hexadecimal digits of n to the left of the rest
unfoldable pub prepend_hex_digits : ℕ → ℕ → List ℕ → List ℕ
prepend_hex_digits zero n rest = rest
prepend_hex_digits (suc k) n rest = prepend_hex_digits k (n / 16) (digit_glyph false (n % 16) ∷ rest)

hex_none : (n : ℕ) (rest : List ℕ) → prepend_hex_digits 0 n rest ≡ rest
unfolding prepend_hex_digits
hex_none n rest = refl

-- moving a zero from the rest to the padding changes nothing
zero_moves_to_padding : (k : ℕ) (rest : List ℕ) → replicate k 48 ++ (48 ∷ rest) ≡ replicate (suc k) 48 ++ rest
zero_moves_to_padding zero rest = refl
zero_moves_to_padding (suc k) rest = ap (λ xs. 48 ∷ xs) (zero_moves_to_padding k rest)

-- k digits of 0 are k zeros
hex_zeros : (k : ℕ) (rest : List ℕ) → prepend_hex_digits k 0 rest ≡ replicate k 48 ++ rest
unfolding prepend_hex_digits
hex_zeros zero rest = refl
hex_zeros (suc k) rest = hex_zeros k (48 ∷ rest) ∙ zero_moves_to_padding k rest

-- a number below 16, padded, is zeros and one digit
one_digit : (k j n : ℕ) (rest : List ℕ) → n < 16
    → prepend_hex_digits (suc k) n rest ≡ padded (suc k + length rest) (digits_onto (suc j) 16 false n rest)
unfolding prepend_hex_digits
one_digit k j n rest small =
    let none : n / 16 ≡ 0 = omega arith in
    let width : suc k + length rest - length (digit_glyph false (n % 16) ∷ rest) ≡ k = omega arith in
    rw (none, width) (hex_zeros k (digit_glyph false (n % 16) ∷ rest))

-- the last k + 1 digits of a number below 16^(k+1) are its digits, padded with zeros
padded_onto : (k j n : ℕ) (rest : List ℕ) → n < 16 ^ (suc k) → k ≤ j
    → prepend_hex_digits (suc k) n rest ≡ padded (suc k + length rest) (digits_onto (suc j) 16 false n rest)
unfolding prepend_hex_digits
padded_onto zero j n rest small fuel = one_digit zero j n rest (omega arith)
padded_onto (suc k) zero n rest small fuel = absurd (omega arith)
padded_onto (suc k) (suc j) n rest small fuel =
    ⊎_elim (λ below. one_digit (suc k) (suc j) n rest below)
    (λ above.
    let some : nat_eq (n / 16) 0 ≡ false = grind (arith, nat_tests) in
    let width : suc (suc k) + length rest ≡ suc k + length (digit_glyph false (n % 16) ∷ rest) = omega arith in
    rw (some, width) (padded_onto k j (n / 16) (digit_glyph false (n % 16) ∷ rest) (omega arith) (omega arith)))
    (cases_lt n 16)

-- the text of an address is `0x` and the last 16 digits of the address
pub hex_sixteen : (n : ℕ) → n < 2 ^ 64 → codes "0x" ++ prepend_hex_digits 16 n [] ≡ hex_text n
unfolding digits
hex_sixteen n small = ap (λ ds. codes "0x" ++ ds) (padded_onto 15 63 n [] (omega arith) (omega arith))

-- one step writes one digit to the left; the digits written and those still to be written make the
-- same text as before
pub hex_step : (text : List ℕ) (i left : ℕ) → i < 16 → length text ≡ 18
    → prepend_hex_digits (16 - (i + 1)) (left / 16) (drop (18 - (i + 1)) (set text (17 - i) (digit_glyph false (left % 16))))
    ≡ prepend_hex_digits (16 - i) left (drop (18 - i) text)
unfolding prepend_hex_digits
hex_step text i left below long =
    let place : 18 - (i + 1) ≡ 17 - i = omega arith in
    let count : 16 - i ≡ suc (16 - (i + 1)) = omega arith in
    let after : 17 - i + 1 ≡ 18 - i = omega arith in
    let inside : 17 - i < length text = omega arith in
    rw (place, count, drop-set text (17 - i) (digit_glyph false (left % 16)) inside, after) refl

-- after 16 steps the text is `0x` and all digits
pub hex_end : (text : List ℕ) (i left n : ℕ) → i ≡ 16 → n < 2 ^ 64 → take 2 text ≡ codes "0x"
    → prepend_hex_digits (16 - i) left (drop (18 - i) text) ≡ prepend_hex_digits 16 n [] → text ≡ hex_text n
hex_end text i left n end small head digits =
    let ready : drop 2 text ≡ prepend_hex_digits 16 n [] = sym (hex_none left (drop 2 text)) ∙ rw end at digits in
    sym (take-append-drop 2 text) ∙ rw (head, ready) (hex_sixteen n small)

-- a number at the right end of 20 spaces, cut to the width or to its first digit, is the padded
-- number
pub right_aligned : (width start n : ℕ) (text : List ℕ) → width ≤ 20 → start + length (decimal n) ≡ 20
    → drop start text ≡ decimal n ++ [] → take start text ≡ take start (replicate 20 32)
    → drop (min start (20 - width)) text ≡ padded_decimal width n
right_aligned width start n text small place written spaces =
    let inside : start ≤ 20 = omega arith in
    let front : take start text ≡ replicate start 32 = spaces ∙ take-replicate start 20 32 inside in
    let whole : text ≡ replicate start 32 ++ decimal n =
    sym (take-append-drop start text) ∙ rw (front, written, append-nil) refl in
    let long : length (replicate {A = ℕ} start 32) ≡ start = length-replicate {A = ℕ} start 32 in
    let low : min start (20 - width) ≤ length (replicate {A = ℕ} start 32) = omega arith in
    let left : start - min start (20 - width) ≡ width - length (decimal n) = omega arith in
    ap (λ xs. drop (min start (20 - width)) xs) whole
    ∙ drop-append-le (min start (20 - width)) (replicate start 32) (decimal n) low
    ∙ rw (drop-replicate {X = ℕ} (min start (20 - width)) start 32, left) refl
