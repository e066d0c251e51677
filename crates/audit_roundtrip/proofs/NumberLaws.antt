-- Lemmas: printed numbers, addresses and ranges are read back.
use Rattle.std.proofs.Common.{◌≡◌, ℕ, zero, suc, ◌+◌, ◌-◌, ◌/◌, ◌%◌, ◌^◌, ◌<◌, ◌≤◌, ◌==◌, Bool, true, false, nat_le, nat_lt, if◌then◌else◌, List, [], ◌∷◌, ◌++◌, length, take, drop, replicate, codes, get_or, Some, Result, Ok, Err, refl, ap, ◌∙◌, inl, inr, arith, append_assoc, append-nil}
use Rattle.std.specs.List.{list_all}
use Rattle.std.specs.Char.{digit_value, is_digit}
use Rattle.std.specs.Fmt.{decimal, digits, digit_glyph}
use Rattle.std.specs.Str.Parse.{digits_value, AllDigits}
use Rattle.std.proofs.Math.Nat.{zero-add}
use Rattle.std.proofs.lemmas.Bool.{cases_lt, ne_eqb}
use Rattle.std.proofs.lemmas.Bool.Decides.{nat_tests}
use Rattle.std.proofs.lemmas.Fmt.{decimal_is_IsNumeral, digits_is_IsNumeral, first_decimal, decimal_digit}
use Rattle.bm_base.specs.declared.size.NumFault.{NumFault}
use Rattle.bm_base.specs.declared.size.NumFault.TheVariants.{NoDigits}
use Rattle.bm_base.specs.Range.{RangeView, end_of}
use Rattle.bm_base.specs.Size.{begins_with_digit, begins_with_zero, fit_in_u64, front_digits, is_hexadecimal, number_of, prefix_of, radix_of, front_digits_value}
use Rattle.bm_base.specs.Text.{hex_text, hex_digits, padded_decimal}
use Rattle.bm_base.proofs.SizeLaws.{front_digits-all, is_hexadecimal-other, number_of-mark}
use Rattle.bm_base.proofs.TextLaws.{prepend_hex_digits, hex_sixteen}
use Rattle.audit_lines.specs.Fields.{address_in, number_at_most, rest_after, is_address, is_lower_hex, number_in, range_at_start}
use Rattle.audit_lines.proofs.FieldLaws.{after_front}
use Rattle.report_memory.specs.Lines.{range_text}
use Rattle.audit_roundtrip.proofs.SplitLaws.{IsOneLine, one_line-append}
use Rattle.report_stages.proofs.BatchLaws.{hex_length}

-- the byte is a lower-case hexadecimal digit
abbrev pub IsGlyph : ℕ → Type 0
IsGlyph c = (is_lower_hex c ≡ true) × ((is_digit c 16 ≡ true) × ((c == 10) ≡ false))

glyph_is : (d : ℕ) → d < 16 → IsGlyph (digit_glyph false d)
glyph_is d small =
    elim (cases_lt d 10) as (λ _. IsGlyph (digit_glyph false d)) [
      | inl below ↦
          let test : nat_lt d 10 ≡ true = grind (arith, nat_tests) in
          rw test (grind (arith, nat_tests), (grind (arith, nat_tests), grind (arith, nat_tests)))
      | inr above ↦
          let test : nat_lt d 10 ≡ false = grind (arith, nat_tests) in
          rw test (grind (arith, nat_tests), (grind (arith, nat_tests), grind (arith, nat_tests)))
    ]

abbrev pub AreGlyphs : List ℕ → Type 0
AreGlyphs [] = Unit {0}
AreGlyphs (c ∷ cs) = IsGlyph c × AreGlyphs cs

hex_glyphs : (k n : ℕ) (rest : List ℕ) → AreGlyphs rest → AreGlyphs (prepend_hex_digits k n rest)
unfolding prepend_hex_digits
hex_glyphs zero n rest glyphs = glyphs
hex_glyphs (suc k) n rest glyphs =
    hex_glyphs k (n / 16) (digit_glyph false (n % 16) ∷ rest) (glyph_is (n % 16) (omega arith), glyphs)

front_glyphs : (ds : List ℕ) → AreGlyphs ds → front_digits 16 ds ≡ ds
front_glyphs [] glyphs = refl
front_glyphs (d ∷ ds) glyphs = rw (glyphs.0.1.0) (ap (λ (rest : List ℕ). d ∷ rest) (front_glyphs ds glyphs.1))

lower_glyphs : (ds : List ℕ) → AreGlyphs ds → list_all is_lower_hex ds ≡ true
lower_glyphs [] glyphs = refl
lower_glyphs (d ∷ ds) glyphs = rw (glyphs.0.0) (lower_glyphs ds glyphs.1)

-- leading zeros don't change the value
zeros_value : (z : ℕ) (ds : List ℕ) → digits_value 16 (replicate z 48 ++ ds) ≡ digits_value 16 ds
zeros_value zero ds = refl
zeros_value (suc z) ds = zeros_value z ds

-- the sixteen digits of an address
abbrev pub address_digits : ℕ → List ℕ
address_digits n = replicate (16 - length (hex_digits n)) 48 ++ hex_digits n

digits_are : (n : ℕ) → n < 2 ^ 64 → prepend_hex_digits 16 n [] ≡ address_digits n
digits_are n small = ap (drop 2) (hex_sixteen n small)

digits_glyphs : (n : ℕ) → n < 2 ^ 64 → AreGlyphs (address_digits n)
digits_glyphs n small = rw (← digits_are n small) (hex_glyphs 16 n [] tt)

digits_length : (n : ℕ) → n < 2 ^ 64 → length (address_digits n) ≡ 16
digits_length n small = rw (← digits_are n small) (hex_length 16 n [])

digits_number : (n : ℕ) → n < 2 ^ 64 → digits_value 16 (address_digits n) ≡ n
digits_number n small =
    zeros_value (16 - length (hex_digits n)) (hex_digits n)
    ∙ (digits_is_IsNumeral 16 false (omega arith) (omega arith) n (omega arith)).1

-- the text `0x` followed by hexadecimal digits is read as the number that they spell
pub hex_number : (ds : List ℕ) → AreGlyphs ds → 0 < length ds → number_of (48 ∷ 120 ∷ ds) ≡ fit_in_u64 (digits_value 16 ds) (2 + length ds)
hex_number [] glyphs some = absurd (omega arith)
hex_number (d ∷ ds) glyphs some =
    let hexa : is_hexadecimal (48 ∷ 120 ∷ d ∷ ds) ≡ true = rw (glyphs.0.1.0) refl in
    let radix : radix_of (48 ∷ 120 ∷ d ∷ ds) ≡ 16 = rw hexa refl in
    let prefix : prefix_of (48 ∷ 120 ∷ d ∷ ds) ≡ 2 = rw hexa refl in
    spelled (radix_of (48 ∷ 120 ∷ d ∷ ds)) (prefix_of (48 ∷ 120 ∷ d ∷ ds)) (48 ∷ 120 ∷ d ∷ ds) (d ∷ ds) radix prefix refl
    (front_glyphs (d ∷ ds) glyphs)
  where
    spelled : (radix prefix : ℕ) (text digits : List ℕ) → radix ≡ 16 → prefix ≡ 2 → drop 2 text ≡ digits → front_digits 16 digits ≡ digits
        → fit_in_u64 (front_digits_value radix (drop prefix text)) (prefix + length (front_digits radix (drop prefix text)))
        ≡ fit_in_u64 (digits_value 16 digits) (2 + length digits)
    spelled radix prefix text digits base two rest_after whole = rw (base, two, rest_after, whole) refl

hex_read : (ds : List ℕ) (n : ℕ) → AreGlyphs ds → 0 < length ds → digits_value 16 ds ≡ n → n < 2 ^ 64
    → number_of (48 ∷ 120 ∷ ds) ≡ Ok (n, 2 + length ds)
hex_read ds n glyphs some value small =
    let fits : nat_lt n (2 ^ 64) ≡ true = grind (arith, nat_tests, small) in hex_number ds glyphs some ∙ rw (value, fits) refl

take_front : (front rest : List ℕ) (n : ℕ) → length front ≡ n → take n (front ++ rest) ≡ front
take_front [] rest zero is = refl
take_front [] rest (suc n) is = absurd (omega (arith, is))
take_front (f ∷ fs) rest zero is = absurd (omega (arith, is))
take_front (f ∷ fs) rest (suc n) is = ap (λ (xs : List ℕ). f ∷ xs) (take_front fs rest n (omega (arith, is)))

drop_front : (front rest : List ℕ) (n : ℕ) → length front ≡ n → drop n (front ++ rest) ≡ rest
drop_front [] rest zero is = refl
drop_front [] rest (suc n) is = absurd (omega (arith, is))
drop_front (f ∷ fs) rest zero is = absurd (omega (arith, is))
drop_front (f ∷ fs) rest (suc n) is = drop_front fs rest n (omega (arith, is))

-- a printed address is read back
pub address_read : (n : ℕ) (rest : List ℕ) → n < 2 ^ 64 → address_in (hex_text n ++ rest) ≡ Some (n, rest)
unfolding address_in
address_read n rest small =
    let digits : length (address_digits n) ≡ 16 = digits_length n small in
    let long : length (hex_text n) ≡ 18 = omega arith in
    let front : take 18 (hex_text n ++ rest) ≡ hex_text n = take_front (hex_text n) rest 18 long in
    let left : drop 18 (hex_text n ++ rest) ≡ rest = drop_front (hex_text n) rest 18 long in
    let found : rest_after (codes "0x") (hex_text n) ≡ Some (address_digits n) = after_front (codes "0x") (address_digits n) in
    let is : is_address (hex_text n) ≡ true = rw (found, digits, lower_glyphs (address_digits n) (digits_glyphs n small)) refl in
    let read : number_of (hex_text n) ≡ Ok (n, 2 + length (address_digits n)) =
    hex_read (address_digits n) n (digits_glyphs n small) (omega arith) (digits_number n small) small in
    rw (front, left, is, read) refl

-- the text can't continue a number: it is empty, or doesn't begin with a digit or letter
abbrev pub EndsNumber : List ℕ → Type 0
EndsNumber [] = Unit {0}
EndsNumber (mark ∷ rest) = is_digit mark 36 ≡ false

-- decimal digits that don't begin with `0` are read as the number that they spell
digits_read : (d : ℕ) (ds : List ℕ) (n : ℕ) → AllDigits 10 (d ∷ ds) → 48 < d → digits_value 10 (d ∷ ds) ≡ n → n < 2 ^ 64
    → number_of (d ∷ ds) ≡ Ok (n, length (d ∷ ds))
digits_read d ds n all above value small =
    let digit : nat_lt (digit_value d) 10 ≡ true = grind (arith, nat_tests, all.0) in
    let other : d == 48 ≡ false = grind (arith, nat_tests, above) in
    let radix : radix_of (d ∷ ds) ≡ 10 = rw (is_hexadecimal-other d ds other, other) refl in
    let prefix : prefix_of (d ∷ ds) ≡ 0 = rw (is_hexadecimal-other d ds other) refl in
    spelled (begins_with_digit (d ∷ ds)) (radix_of (d ∷ ds)) (prefix_of (d ∷ ds)) (d ∷ ds) digit radix prefix
    (front_digits-all (d ∷ ds) all) value
  where
    spelled : (begins : Bool) (radix prefix : ℕ) (text : List ℕ) → begins ≡ true → radix ≡ 10 → prefix ≡ 0
        → front_digits 10 text ≡ text → digits_value 10 text ≡ n
        → (if begins
        then fit_in_u64 (front_digits_value radix (drop prefix text)) (prefix + length (front_digits radix (drop prefix text)))
        else Err NoDigits)
        ≡ Ok (n, length text)
    spelled begins radix prefix text is base none whole value =
        let fits : nat_lt n (2 ^ 64) ≡ true = grind (arith, nat_tests, small) in
        rw (is, base, none, whole, value, fits, zero-add (length text)) refl

number_before : (text rest : List ℕ) (n : ℕ) → number_of text ≡ Ok (n, length text) → EndsNumber rest
    → number_of (text ++ rest) ≡ Ok (n, length text)
number_before text [] n read ends = rw (append-nil text) read
number_before text (mark ∷ rest) n read ends = number_of-mark text rest mark ends ∙ read

by_number : (zero_first : Bool) (text : List ℕ) (found : Result (ℕ × ℕ) NumFault) (m taken : ℕ) {most : ℕ} {rest : List ℕ}
    → zero_first ≡ false → found ≡ Ok (m, taken) → m ≤ most → drop taken text ≡ rest
    → (if zero_first then Some (0, drop 1 text) else number_at_most most text found) ≡ Some (m, rest)
by_number zero_first text found m taken {most} other is small left =
    let fits : nat_le m most ≡ true = grind (arith, nat_tests, small) in rw (other, is, fits, left) refl

-- a printed decimal number is read back
pub number_read : (most n : ℕ) (rest : List ℕ) → n ≤ most → most < 2 ^ 64 → EndsNumber rest
    → number_in most (decimal n ++ rest) ≡ Some (n, rest)
unfolding number_in
number_read most zero rest small most_small ends = rw (decimal_digit 0 (omega arith)) refl
number_read most (suc n) rest small most_small ends =
    by_digits (suc n) (decimal (suc n)) (decimal_is_IsNumeral (suc n) (omega arith)).0.1
    (first_decimal (suc n) (omega arith) (omega arith)) (decimal_is_IsNumeral (suc n) (omega arith)).1 small
  where
    by_digits : (m : ℕ) (ds : List ℕ) → AllDigits 10 ds → 48 < get_or ds 0 0 → digits_value 10 ds ≡ m → m ≤ most
        → (if begins_with_zero (ds ++ rest) then Some (0, drop 1 (ds ++ rest))
        else number_at_most most (ds ++ rest) (number_of (ds ++ rest)))
        ≡ Some (m, rest)
    by_digits m [] all above is small = absurd (omega (arith, above))
    by_digits m (d ∷ ds) all above is small =
        let other : d == 48 ≡ false = grind (arith, nat_tests, above) in
        let read : number_of ((d ∷ ds) ++ rest) ≡ Ok (m, length (d ∷ ds)) =
        number_before (d ∷ ds) rest m (digits_read d ds m all above is (omega (arith, small, most_small))) ends in
        by_number (begins_with_zero ((d ∷ ds) ++ rest)) ((d ∷ ds) ++ rest) (number_of ((d ∷ ds) ++ rest)) m (length (d ∷ ds)) other read
        small (drop_front (d ∷ ds) rest (length (d ∷ ds)) refl)

-- a printed range is read back, if it isn't empty and ends below 2^64
range_by : (first last : ℕ) (rest : List ℕ) → first ≤ last → last < 2 ^ 64 - 1
    → range_at_start (hex_text first ++ (codes ".." ++ (hex_text last ++ rest)))
    ≡ Some (record { base = first; size = last + 1 - first }, rest)
unfolding range_at_start
range_by first last rest up below =
    let begins : address_in (hex_text first ++ (codes ".." ++ (hex_text last ++ rest)))
    ≡ Some (first, codes ".." ++ (hex_text last ++ rest)) = address_read first _ (omega arith) in
    let dots : rest_after (codes "..") (codes ".." ++ (hex_text last ++ rest)) ≡ Some (hex_text last ++ rest) =
    after_front (codes "..") (hex_text last ++ rest) in
    let ends : address_in (hex_text last ++ rest) ≡ Some (last, rest) = address_read last rest (omega arith) in
    let rising : nat_le first last ≡ true = grind (arith, nat_tests, up) in
    let short : nat_lt last (2 ^ 64 - 1) ≡ true = grind (arith, nat_tests, below) in
    rw (begins, dots, ends, rising, short) refl

pub range_read : (r : RangeView) (rest : List ℕ) → 0 < r.size → end_of r < 2 ^ 64 → range_at_start (range_text r ++ rest) ≡ Some (r, rest)
range_read r rest some small =
    let parts : range_text r ++ rest ≡ hex_text r.base ++ (codes ".." ++ (hex_text (end_of r - 1) ++ rest)) =
    append_assoc (hex_text r.base ++ codes "..") (hex_text (end_of r - 1)) rest
    ∙ append_assoc (hex_text r.base) (codes "..") (hex_text (end_of r - 1) ++ rest) in
    let size : end_of r - 1 + 1 - r.base ≡ r.size = omega (arith, some) in
    ap range_at_start parts ∙ range_by r.base (end_of r - 1) rest (omega (arith, some)) (omega (arith, some, small))
    ∙ ap (λ (n : ℕ). Some (record { base = r.base; size = n }, rest)) size

-- this and the following: these texts have no newline
glyphs_line : (ds : List ℕ) → AreGlyphs ds → IsOneLine ds
glyphs_line [] glyphs = tt
glyphs_line (d ∷ ds) glyphs = (glyphs.0.1.1, glyphs_line ds glyphs.1)

pub address_line : (n : ℕ) → n < 2 ^ 64 → IsOneLine (hex_text n)
address_line n small = (refl, (refl, glyphs_line (address_digits n) (digits_glyphs n small)))

other_digit : (c : ℕ) → digit_value c < 10 → c == 10 ≡ false
other_digit c digit = ne_eqb c 10 (λ same. absurd (never (rw same at digit)))
  where
    never : 36 < 10 → ⊥
    never less = absurd (omega (arith, less))

digits_line : (ds : List ℕ) → AllDigits 10 ds → IsOneLine ds
digits_line [] all = tt
digits_line (d ∷ ds) all = (other_digit d all.0, digits_line ds all.1)

pub number_line : (n : ℕ) → n < 2 ^ 64 → IsOneLine (decimal n)
number_line n small = digits_line (decimal n) (decimal_is_IsNumeral n small).0.1

spaces_line : (k : ℕ) → IsOneLine (replicate k 32)
spaces_line zero = tt
spaces_line (suc k) = (refl, spaces_line k)

pub index_line : (n : ℕ) → n < 2 ^ 64 → IsOneLine (padded_decimal 4 n)
index_line n small = one_line-append (replicate (4 - length (decimal n)) 32) (decimal n) (spaces_line _) (number_line n small)

pub range_line : (r : RangeView) → 0 < r.size → end_of r < 2 ^ 64 → IsOneLine (range_text r)
range_line r some small =
    one_line-append (hex_text r.base ++ codes "..") (hex_text (end_of r - 1))
    (one_line-append (hex_text r.base) (codes "..") (address_line r.base (omega arith)) (refl, (refl, tt)))
    (address_line (end_of r - 1) (omega arith))
