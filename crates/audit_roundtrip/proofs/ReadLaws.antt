-- Lemmas: if a number, an address, a range or a line was read at the start of a text, the text
-- begins with its printed form.
use Rattle.std.proofs.Common.{◌≡◌, ℕ, suc, ◌+◌, ◌-◌, ◌*◌, ◌/◌, ◌%◌, ◌^◌, ◌<◌, ◌≤◌, ◌==◌, ◌&&◌, Bool, true, false, nat_le, nat_lt, if◌then◌else◌, List, [], ◌∷◌, ◌++◌, length, take, drop, codes, Option, Some, None, Result, Ok, Err, refl, sym, ap, ◌∙◌, inl, inr, arith, append_assoc, append-nil, take-append-drop}
use Rattle.std.specs.List.{list_all}
use Rattle.std.specs.Char.{digit_value, is_digit}
use Rattle.std.specs.Fmt.{decimal, digit_glyph}
use Rattle.std.specs.Str.Parse.{digits_value, digits_value_after, AllDigits}
use Rattle.std.proofs.Math.Nat.{zero-add}
use Rattle.std.proofs.lemmas.Bool.{and_parts, cases_lt}
use Rattle.std.proofs.lemmas.Bool.Decides.{Decides-eqb, nat_tests}
use Rattle.std.proofs.lemmas.Fmt.{decimal_digit, decimal-digits_value}
use Rattle.std.proofs.lemmas.Str.Parse.{IsNumeralModel}
use Rattle.bm_base.specs.declared.size.NumFault.{NumFault}
use Rattle.bm_base.specs.declared.size.NumFault.TheVariants.{NoDigits, TooLarge}
use Rattle.bm_base.specs.Range.{RangeView, end_of}
use Rattle.bm_base.specs.OptionSteps.{◌>>=◌}
use Rattle.bm_base.specs.Size.{begins_with_digit, fit_in_u64, front_digits, number_of, prefix_of, radix_of, front_digits_value}
use Rattle.bm_base.specs.Text.{hex_text}
use Rattle.bm_base.proofs.SizeLaws.{is_hexadecimal-other}
use Rattle.bm_base.proofs.TextLaws.{prepend_hex_digits, hex_sixteen}
use Rattle.audit_lines.specs.Fields.{address_in, are_sixteen_digits, number_at_most, rest_after, is_lower_hex, number_in, range_at_start, range_from_bytes, read_value_and_rest}
use Rattle.audit_lines.proofs.FieldLaws.{after_is}
use Rattle.report_memory.specs.Lines.{range_text}
use Rattle.audit_roundtrip.proofs.NumberLaws.{AreGlyphs, hex_number}

-- a text is the digits at its start, and the rest after them
front_and_rest : (text : List ℕ) → text ≡ front_digits 10 text ++ drop (length (front_digits 10 text)) text
front_and_rest [] = refl
front_and_rest (b ∷ bs) = by_test (is_digit b 10) (front_and_rest bs)
  where
    by_test : (test : Bool) → bs ≡ front_digits 10 bs ++ drop (length (front_digits 10 bs)) bs
        → b ∷ bs ≡ (if test then b ∷ front_digits 10 bs else []) ++ drop (length (if test then b ∷ front_digits 10 bs else [])) (b ∷ bs)
    by_test true rest = ap (λ (xs : List ℕ). b ∷ xs) rest
    by_test false rest = refl

front_all : (text : List ℕ) → AllDigits 10 (front_digits 10 text)
front_all [] = tt
front_all (b ∷ bs) = by_test (is_digit b 10) refl (front_all bs)
  where
    by_test : (test : Bool) → is_digit b 10 ≡ test → AllDigits 10 (front_digits 10 bs)
        → AllDigits 10 (if test then b ∷ front_digits 10 bs else [])
    by_test true digit rest = (grind (arith, nat_tests, digit), rest)
    by_test false digit rest = tt

own : IsNumeralModel (AllDigits 10) (digits_value 10)
own = record { to = λ ds all. all; from = λ ds all. all; same = λ ds all. refl }

-- decimal digits that don't begin with `0` are the printed form of their value
digits_text : (d : ℕ) (ds : List ℕ) → AllDigits 10 (d ∷ ds) → d == 48 ≡ false → digits_value 10 (d ∷ ds) < 2 ^ 64
    → decimal (digits_value 10 (d ∷ ds)) ≡ d ∷ ds
digits_text d ds all other small =
    decimal-digits_value own (d ∷ ds) all (omega arith) (λ first. absurd (never first)) small
  where
    never : d ≡ 48 → ⊥
    never is = let same : d == 48 ≡ true = (Decides-eqb d 48).1 is in cc

-- this and the next: equal results of a reader have the same value, and the same rest of the text
pub value_of_found : {A : Type 0} (a b : A) (xs ys : List ℕ) → ◌≡◌ {A = Option (A × List ℕ)} (Some (a, xs)) (Some (b, ys)) → a ≡ b
value_of_found a b xs ys is = let both : ◌≡◌ {A = _ × List ℕ} (a, xs) (b, ys) = cc in ap (λ p. p.0) both

pub left_of_found : {A : Type 0} (a b : A) (xs ys : List ℕ) → ◌≡◌ {A = Option (A × List ℕ)} (Some (a, xs)) (Some (b, ys)) → xs ≡ ys
left_of_found a b xs ys is = let both : ◌≡◌ {A = _ × List ℕ} (a, xs) (b, ys) = cc in ap (λ p. p.1) both

-- the number that was found is the one whose digits begin the text
found_is : (text rest : List ℕ) (most n : ℕ) (front : List ℕ) → front ≡ front_digits 10 text
    → (nat_lt (digits_value 10 front) (2 ^ 64) ≡ true → decimal (digits_value 10 front) ≡ front)
    → number_at_most most text (fit_in_u64 (digits_value 10 front) (length front)) ≡ Some (n, rest) → text ≡ decimal n ++ rest
found_is text rest most n front is same found = by_size (nat_lt (digits_value 10 front) (2 ^ 64)) refl found
  where
    by_most : (small : Bool) → decimal (digits_value 10 front) ≡ front
        → ◌≡◌ {A = Option (ℕ × List ℕ)} (if small then Some (digits_value 10 front, drop (length front) text) else None) (Some (n, rest))
        → text ≡ decimal n ++ rest
    by_most false spelled found = cc
    by_most true spelled found =
        let value : digits_value 10 front ≡ n = value_of_found (digits_value 10 front) n (drop (length front) text) rest found in
        let left : drop (length front) text ≡ rest = left_of_found (digits_value 10 front) n (drop (length front) text) rest found in
        let whole : text ≡ front ++ drop (length front) text = rw is (front_and_rest text) in
        whole ∙ ap (λ (xs : List ℕ). xs ++ drop (length front) text) (sym spelled)
        ∙ ap (λ (m : ℕ). decimal m ++ drop (length front) text) value ∙ ap (λ (xs : List ℕ). decimal n ++ xs) left

    by_size : (fits : Bool) → nat_lt (digits_value 10 front) (2 ^ 64) ≡ fits
        → ◌≡◌ {A = Option (ℕ × List ℕ)} (number_at_most most text
        (if◌then◌else◌ {A = Result (ℕ × ℕ) NumFault} fits (Ok (digits_value 10 front, length front)) (Err TooLarge)))
        (Some (n, rest)) → text ≡ decimal n ++ rest
    by_size false test found = cc
    by_size true test found = by_most (nat_le (digits_value 10 front) most) (same test) found

pub number_is : (most n : ℕ) (text rest : List ℕ) → number_in most text ≡ Some (n, rest) → text ≡ decimal n ++ rest
unfolding number_in
number_is most n [] rest found = cc
number_is most n (b ∷ bs) rest found =
    by_zero (b == 48) refl found
  where
    spelled : (begins : Bool) (radix prefix : ℕ) → is_digit b 10 ≡ begins → b == 48 ≡ false → radix ≡ 10 → prefix ≡ 0
        → ◌≡◌ {A = Option (ℕ × List ℕ)} (number_at_most most (b ∷ bs)
        (if begins
        then fit_in_u64 (front_digits_value radix (drop prefix (b ∷ bs))) (prefix + length (front_digits radix (drop prefix (b ∷ bs))))
        else Err NoDigits))
        (Some (n, rest)) → b ∷ bs ≡ decimal n ++ rest
    spelled false radix prefix digit other base none found = cc
    spelled true radix prefix digit other base none found =
        let front : front_digits 10 (b ∷ bs) ≡ b ∷ front_digits 10 bs = rw digit refl in
        let read : number_at_most most (b ∷ bs)
        (fit_in_u64 (digits_value 10 (front_digits 10 (b ∷ bs))) (length (front_digits 10 (b ∷ bs))))
        ≡ Some (n, rest) =
        rw (base, none, zero-add (length (front_digits 10 (b ∷ bs)))) at found in
        let digits : AllDigits 10 (front_digits 10 (b ∷ bs)) = front_all (b ∷ bs) in
        found_is (b ∷ bs) rest most n (front_digits 10 (b ∷ bs)) refl
        (λ small.
        let bound : digits_value 10 (front_digits 10 (b ∷ bs)) < 2 ^ 64 = grind (arith, nat_tests, small) in
        rw front (digits_text b (front_digits 10 bs) (rw front at digits) other (rw front at bound))) read

    by_zero : (zero_first : Bool) → b == 48 ≡ zero_first
        → ◌≡◌ {A = Option (ℕ × List ℕ)} (if zero_first then Some (0, bs)
        else number_at_most most (b ∷ bs) (number_of (b ∷ bs))) (Some (n, rest))
        → b ∷ bs ≡ decimal n ++ rest
    by_zero true is found =
        let first : b ≡ 48 = (Decides-eqb b 48).0 is in
        let value : 0 ≡ n = value_of_found 0 n bs rest found in
        let left : bs ≡ rest = left_of_found 0 n bs rest found in
        rw (first, ← value, left, decimal_digit 0 (omega arith)) refl
    by_zero false is found =
        spelled (begins_with_digit (b ∷ bs)) (radix_of (b ∷ bs)) (prefix_of (b ∷ bs)) refl is (rw (is_hexadecimal-other b bs is, is) refl)
        (rw (is_hexadecimal-other b bs is) refl) found

-- this and the following: sixteen digits are the printed form of the number that they spell
glyph_of : (c : ℕ) → is_lower_hex c ≡ true → (digit_glyph false (digit_value c) ≡ c) × (digit_value c < 16)
glyph_of c lower =
    elim (cases_lt c 58) as (λ _. (digit_glyph false (digit_value c) ≡ c) × (digit_value c < 16)) [
      | inl digit ↦
          let above : 48 ≤ c = grind (arith, nat_tests, lower) in
          let value : digit_value c ≡ c - 48 = grind (arith, nat_tests, above, digit) in
          let small : nat_lt (c - 48) 10 ≡ true = grind (arith, nat_tests, above, digit) in
          rw (value, small) (omega (arith, above), omega (arith, above, digit))
      | inr letter ↦
          let above : 97 ≤ c = grind (arith, nat_tests, lower, letter) in
          let below : c ≤ 102 = grind (arith, nat_tests, lower, letter) in
          let value : digit_value c ≡ c - 87 = grind (arith, nat_tests, above, below) in
          let great : nat_lt (c - 87) 10 ≡ false = grind (arith, nat_tests, above, below) in
          rw (value, great) (omega (arith, above), omega (arith, above, below))
    ]

hex_again : (ds : List ℕ) (k m : ℕ) (rest : List ℕ) → list_all is_lower_hex ds ≡ true
    → prepend_hex_digits (length ds + k) (digits_value_after 16 m ds) rest ≡ prepend_hex_digits k m (ds ++ rest)
unfolding prepend_hex_digits
hex_again [] k m rest lower = rw (zero-add k) refl
hex_again (d ∷ ds) k m rest lower =
    let parts = and_parts (is_lower_hex d) (list_all is_lower_hex ds) lower in
    let glyph = glyph_of d parts.0 in
    let front : (m * 16 + digit_value d) / 16 ≡ m = omega (arith, glyph.1) in
    let last : (m * 16 + digit_value d) % 16 ≡ digit_value d = omega (arith, glyph.1) in
    let long : length (d ∷ ds) + k ≡ length ds + suc k = omega arith in
    ap (λ (n : ℕ). prepend_hex_digits n (digits_value_after 16 (m * 16 + digit_value d) ds) rest) long
    ∙ hex_again ds (suc k) (m * 16 + digit_value d) rest parts.1 ∙ rw (front, last, glyph.0) refl

glyphs_from : (ds : List ℕ) → list_all is_lower_hex ds ≡ true → AreGlyphs ds
glyphs_from [] lower = tt
glyphs_from (d ∷ ds) lower =
    let parts = and_parts (is_lower_hex d) (list_all is_lower_hex ds) lower in
    let digit : is_digit d 16 ≡ true = grind (arith, nat_tests, (glyph_of d parts.0).1) in
    let other : d == 10 ≡ false = grind (arith, nat_tests, parts.0) in
    ((parts.0, (digit, other)), glyphs_from ds parts.1)

sixteen_again : (ds : List ℕ) → length ds ≡ 16 → list_all is_lower_hex ds ≡ true → digits_value 16 ds < 2 ^ 64
    → hex_text (digits_value 16 ds) ≡ codes "0x" ++ ds
unfolding prepend_hex_digits
sixteen_again ds long lower small =
    let again : prepend_hex_digits 16 (digits_value 16 ds) [] ≡ ds =
    ap (λ (n : ℕ). prepend_hex_digits n (digits_value 16 ds) []) (sym (ap (λ (n : ℕ). n + 0) long)) ∙ hex_again ds 0 0 [] lower ∙ none ds in
    sym (hex_sixteen (digits_value 16 ds) small) ∙ ap (λ (xs : List ℕ). codes "0x" ++ xs) again
  where
    none : (xs : List ℕ) → prepend_hex_digits 0 0 (xs ++ []) ≡ xs
    none xs = append-nil xs

pub address_is : (n : ℕ) (text rest : List ℕ) → address_in text ≡ Some (n, rest) → text ≡ hex_text n ++ rest
unfolding address_in
address_is n text rest found = by_front (rest_after (codes "0x") (take 18 text)) refl found
  where
    by_value : (ds : List ℕ) → take 18 text ≡ codes "0x" ++ ds → length ds ≡ 16 → list_all is_lower_hex ds ≡ true → (fits : Bool)
        → nat_lt (digits_value 16 ds) (2 ^ 64) ≡ fits
        → read_value_and_rest (drop 18 text)
        (if◌then◌else◌ {A = Result (ℕ × ℕ) NumFault} fits (Ok (digits_value 16 ds, 2 + length ds)) (Err TooLarge))
        ≡ Some (n, rest) → text ≡ hex_text n ++ rest
    by_value ds front long lower false test found = cc
    by_value ds front long lower true test found =
        let value : digits_value 16 ds ≡ n = value_of_found (digits_value 16 ds) n (drop 18 text) rest found in
        let left : drop 18 text ≡ rest = left_of_found (digits_value 16 ds) n (drop 18 text) rest found in
        let spelled : hex_text n ≡ codes "0x" ++ ds = rw (← value) (sixteen_again ds long lower (grind (arith, nat_tests, test))) in
        sym (take-append-drop 18 text) ∙ ap (λ (xs : List ℕ). xs ++ drop 18 text) (front ∙ sym spelled)
        ∙ ap (λ (xs : List ℕ). hex_text n ++ xs) left

    by_digits : (ds : List ℕ) → rest_after (codes "0x") (take 18 text) ≡ Some ds → (right : Bool)
        → (length ds == 16) && list_all is_lower_hex ds ≡ right
        → ◌≡◌ {A = Option (ℕ × List ℕ)} (if right then read_value_and_rest (drop 18 text) (number_of (take 18 text)) else None)
        (Some (n, rest))
        → text ≡ hex_text n ++ rest
    by_digits ds is false test found = cc
    by_digits ds is true test found =
        let front : take 18 text ≡ codes "0x" ++ ds = after_is (codes "0x") (take 18 text) ds is in
        let parts = and_parts (length ds == 16) (list_all is_lower_hex ds) test in
        let long : length ds ≡ 16 = (Decides-eqb (length ds) 16).0 parts.0 in
        let read : number_of (take 18 text) ≡ fit_in_u64 (digits_value 16 ds) (2 + length ds) =
        ap number_of front ∙ hex_number ds (glyphs_from ds parts.1) (omega (arith, long)) in
        by_value ds front long parts.1 (nat_lt (digits_value 16 ds) (2 ^ 64)) refl
        (sym (ap (read_value_and_rest (drop 18 text)) read) ∙ found)

    by_front : (found_front : Option (List ℕ)) → rest_after (codes "0x") (take 18 text) ≡ found_front
        → ◌≡◌ {A = Option (ℕ × List ℕ)}
        (if are_sixteen_digits found_front then read_value_and_rest (drop 18 text) (number_of (take 18 text))
        else None)
        (Some (n, rest))
        → text ≡ hex_text n ++ rest
    by_front None is found = cc
    by_front (Some ds) is found = by_digits ds is ((length ds == 16) && list_all is_lower_hex ds) refl found

-- if a sequence of two steps returns a value, its first step did
pub chain : {A B : Type 0} (first : Option A) (next : A → Option B) (b : B) → (first >>= next) ≡ Some b
    → (a : A) × ((first ≡ Some a) × (next a ≡ Some b))
chain None next b is = cc
chain (Some a) next b is = (a, (refl, is))

range_found : (first last : ℕ) (r : RangeView) → range_from_bytes first last ≡ Some r → (r.base ≡ first) × (end_of r - 1 ≡ last)
range_found first last r found = by_test (nat_le first last && nat_lt last (2 ^ 64 - 1)) refl found
  where
    by_test : (test : Bool) → nat_le first last && nat_lt last (2 ^ 64 - 1) ≡ test
        → ◌≡◌ {A = Option RangeView} (if test then Some (record { base = first; size = last + 1 - first }) else None) (Some r)
        → (r.base ≡ first) × (end_of r - 1 ≡ last)
    by_test false test found = cc
    by_test true test found =
        let is : ◌≡◌ {A = RangeView} (record { base = first; size = last + 1 - first }) r = cc in
        let up : first ≤ last = grind (arith, nat_tests, (and_parts (nat_le first last) (nat_lt last (2 ^ 64 - 1)) test).0) in
        rw (← is) (refl, omega (arith, up))

range_parts : (r : RangeView) (first last : ℕ) (text one two rest : List ℕ) → r.base ≡ first → end_of r - 1 ≡ last
    → text ≡ hex_text first ++ one → one ≡ codes ".." ++ two → two ≡ hex_text last ++ rest → text ≡ range_text r ++ rest
range_parts r first last text one two rest base top begins dots ends =
    begins ∙ ap (λ (xs : List ℕ). hex_text first ++ xs) (dots ∙ ap (λ (xs : List ℕ). codes ".." ++ xs) ends)
    ∙ sym (append_assoc (hex_text first ++ codes "..") (hex_text last) rest
    ∙ append_assoc (hex_text first) (codes "..") (hex_text last ++ rest))
    ∙ ap (λ (f : ℕ). (hex_text f ++ codes ".." ++ hex_text last) ++ rest) (sym base)
    ∙ ap (λ (l : ℕ). (hex_text r.base ++ codes ".." ++ hex_text l) ++ rest) (sym top)

pub range_is : (r : RangeView) (text rest : List ℕ) → range_at_start text ≡ Some (r, rest) → text ≡ range_text r ++ rest
unfolding range_at_start
range_is r text rest found =
    let one = chain (address_in text) _ (r, rest) found in
    let two = chain (rest_after (codes "..") one.0.1) _ (r, rest) one.1.1 in
    let three = chain (address_in two.0) _ (r, rest) two.1.1 in
    let four = chain (range_from_bytes one.0.0 three.0.0) _ (r, rest) three.1.1 in
    let value : four.0 ≡ r = value_of_found four.0 r three.0.1 rest four.1.1 in
    let left : three.0.1 ≡ rest = left_of_found four.0 r three.0.1 rest four.1.1 in
    let ends = range_found one.0.0 three.0.0 r (four.1.0 ∙ ap (λ (e : RangeView). Some e) value) in
    range_parts r one.0.0 three.0.0 text one.0.1 two.0 rest ends.0 ends.1 (address_is one.0.0 text one.0.1 one.1.0)
    (after_is (codes "..") one.0.1 two.0 two.1.0)
    (address_is three.0.0 two.0 three.0.1 three.1.0 ∙ ap (λ (xs : List ℕ). hex_text three.0.0 ++ xs) left)
