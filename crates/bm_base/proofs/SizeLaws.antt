-- How numbers and sizes are read from texts.
use Rattle.std.proofs.Common.{◌≡◌, ℕ, ◌+◌, ◌*◌, ◌^◌, ◌<◌, ◌≤◌, ◌==◌, ◌&&◌, ◌||◌, Bool, true, false, nat_lt, if◌then◌else◌, List, [], ◌∷◌, ◌++◌, length, drop, length-drop, get_or, zero, suc, refl, ap, sym, ◌∙◌, Ok, Err, arith}
use Rattle.bm_base.specs.declared.size.NumFault.TheVariants.{NoDigits}
use Rattle.std.proofs.Math.Bool.{and-false}
use Rattle.std.proofs.Math.Nat.{mul-le-mul_left, zero-add}
use Rattle.std.proofs.Math.Seq.{drop-length}
use Rattle.std.specs.Char.{digit_value, is_digit}
use Rattle.std.proofs.lemmas.Bool.{ne_eqb, and_left, cond_both, true≢false}
use Rattle.std.proofs.lemmas.Bool.Decides.{nat_tests}
use Rattle.std.proofs.lemmas.List.{drop-append-le}
use Rattle.std.proofs.lemmas.Fmt.{decimal_is_IsNumeral, first_decimal, decimal_digit}
use Rattle.std.specs.Fmt.{decimal}
use Rattle.std.specs.Str.Parse.{digits_value, digits_value_after, AllDigits}
use Rattle.bm_base.specs.Size.{front_digits, front_digits_value, is_hexadecimal, begins_with_zero, begins_with_digit, prefix_of, radix_of, number_value, number_end, suffix_of, with_suffix, number_of, size_of}

-- appending digits never makes a number smaller, in any base above 0
pub digits_value-grows : (radix n : ℕ) (ds : List ℕ) → 1 ≤ radix → n ≤ digits_value_after radix n ds
digits_value-grows radix n [] base = omega arith
digits_value-grows radix n (d ∷ ds) base =
    let rest : n * radix + digit_value d ≤ digits_value_after radix (n * radix + digit_value d) ds
    = digits_value-grows radix (n * radix + digit_value d) ds base in
    let here : n * 1 ≤ n * radix = mul-le-mul_left n base in
    omega arith

-- a byte that isn't a digit in base 36 (neither a digit nor a letter) isn't one in a smaller base
pub is_digit-mark : (mark radix : ℕ) → radix ≤ 36 → is_digit mark 36 ≡ false → is_digit mark radix ≡ false
is_digit-mark mark radix small is = general (digit_value mark) is
  where
    general : (d : ℕ) → nat_lt d 36 ≡ false → nat_lt d radix ≡ false
    general d is = grind (arith, nat_tests)

-- a byte that is neither a digit nor a letter differs from every digit and letter
pub mark-other : (mark b : ℕ) → is_digit mark 36 ≡ false → is_digit b 36 ≡ true → mark == b ≡ false
mark-other mark b is digit = ne_eqb mark b (λ same. true≢false (sym digit ∙ (rw same at is)))

-- the digits at the start of a text end before a byte that isn't a digit of the base
pub front_digits-mark : (radix : ℕ) (text : List ℕ) (mark : ℕ) (rest : List ℕ)
    → is_digit mark radix ≡ false → front_digits radix (text ++ (mark ∷ rest)) ≡ front_digits radix text
front_digits-mark radix [] mark rest is = rw is refl
front_digits-mark radix (b ∷ bs) mark rest is =
    ap (λ (ds : List ℕ). if is_digit b radix then b ∷ ds else []) (front_digits-mark radix bs mark rest is)

-- a byte that is neither a digit nor a letter, put after a text, doesn't change the text's first
-- digit, its prefix or its base
pub begins_with_digit-mark : (text : List ℕ) (mark : ℕ) (rest : List ℕ)
    → is_digit mark 36 ≡ false → begins_with_digit (text ++ (mark ∷ rest)) ≡ begins_with_digit text
begins_with_digit-mark [] mark rest is = is_digit-mark mark 10 (omega arith) is
begins_with_digit-mark (b ∷ bs) mark rest is = refl

pub begins_with_zero-mark : (text : List ℕ) (mark : ℕ) (rest : List ℕ)
    → is_digit mark 36 ≡ false → begins_with_zero (text ++ (mark ∷ rest)) ≡ begins_with_zero text
begins_with_zero-mark [] mark rest is = mark-other mark 48 is refl
begins_with_zero-mark (b ∷ bs) mark rest is = refl

pub is_hexadecimal-short : (z x : ℕ) (rest : List ℕ) → (x == 120) || (x == 88) ≡ false → is_hexadecimal (z ∷ x ∷ rest) ≡ false
is_hexadecimal-short z x [] is = refl
is_hexadecimal-short z x (d ∷ rest) is = rw is (and_left ((z == 48) && false) (is_digit d 16) (and-false (z == 48)))

pub is_hexadecimal-mark : (text : List ℕ) (mark : ℕ) (rest : List ℕ)
    → is_digit mark 36 ≡ false → is_hexadecimal (text ++ (mark ∷ rest)) ≡ is_hexadecimal text
is_hexadecimal-mark [] mark [] is = refl
is_hexadecimal-mark [] mark (x ∷ []) is = refl
is_hexadecimal-mark [] mark (x ∷ d ∷ rest) is = rw (mark-other mark 48 is refl) refl
is_hexadecimal-mark (z ∷ []) mark rest is =
    is_hexadecimal-short z mark rest (rw (mark-other mark 120 is refl, mark-other mark 88 is refl) refl)
is_hexadecimal-mark (z ∷ x ∷ []) mark rest is =
    rw (is_digit-mark mark 16 (omega arith) is) (and-false ((z == 48) && ((x == 120) || (x == 88))))
is_hexadecimal-mark (z ∷ x ∷ d ∷ more) mark rest is = refl

pub radix_of-mark : (text : List ℕ) (mark : ℕ) (rest : List ℕ)
    → is_digit mark 36 ≡ false → radix_of (text ++ (mark ∷ rest)) ≡ radix_of text
radix_of-mark text mark rest is = rw (is_hexadecimal-mark text mark rest is, begins_with_zero-mark text mark rest is) refl

pub prefix_of-mark : (text : List ℕ) (mark : ℕ) (rest : List ℕ)
    → is_digit mark 36 ≡ false → prefix_of (text ++ (mark ∷ rest)) ≡ prefix_of text
prefix_of-mark text mark rest is = rw (is_hexadecimal-mark text mark rest is) refl

pub radix_of-le : (text : List ℕ) → radix_of text ≤ 36
radix_of-le text =
    cond_both (is_hexadecimal text) 16 (if begins_with_zero text then 8 else 10) (λ r. r ≤ 36) (λ _. omega arith)
    (λ _. cond_both (begins_with_zero text) 8 10 (λ r. r ≤ 36) (λ _. omega arith) (λ _. omega arith))

-- the prefix and the digits lie within the text
pub prefix_of-le : (text : List ℕ) → prefix_of text ≤ length text
prefix_of-le [] = omega arith
prefix_of-le (z ∷ []) = omega arith
prefix_of-le (z ∷ x ∷ []) = omega arith
prefix_of-le (z ∷ x ∷ d ∷ rest) =
    cond_both (is_hexadecimal (z ∷ x ∷ d ∷ rest)) 2 0 (λ n. n ≤ length (z ∷ x ∷ d ∷ rest)) (λ _. omega arith) (λ _. omega arith)

pub front_digits-le : (radix : ℕ) (text : List ℕ) → length (front_digits radix text) ≤ length text
front_digits-le radix [] = omega arith
front_digits-le radix (b ∷ bs) =
    let rest = front_digits-le radix bs in
    cond_both (is_digit b radix) (b ∷ front_digits radix bs) [] (λ (ds : List ℕ). length ds ≤ length (b ∷ bs)) (λ _. omega arith)
    (λ _. omega arith)

pub drop-prefix-mark : (text : List ℕ) (mark : ℕ) (rest : List ℕ) → is_digit mark 36 ≡ false
    → drop (prefix_of (text ++ (mark ∷ rest))) (text ++ (mark ∷ rest)) ≡ drop (prefix_of text) text ++ (mark ∷ rest)
drop-prefix-mark text mark rest is =
    rw (prefix_of-mark text mark rest is) (drop-append-le (prefix_of text) text (mark ∷ rest) (prefix_of-le text))

pub number_value-mark : (text : List ℕ) (mark : ℕ) (rest : List ℕ)
    → is_digit mark 36 ≡ false → number_value (text ++ (mark ∷ rest)) ≡ number_value text
number_value-mark text mark rest is =
    rw (radix_of-mark text mark rest is, drop-prefix-mark text mark rest is)
    (ap (λ (ds : List ℕ). digits_value (radix_of text) ds) (front_digits-mark (radix_of text) (drop (prefix_of text) text) mark rest
    (is_digit-mark mark (radix_of text) (radix_of-le text) is)))

pub number_end-mark : (text : List ℕ) (mark : ℕ) (rest : List ℕ)
    → is_digit mark 36 ≡ false → number_end (text ++ (mark ∷ rest)) ≡ number_end text
number_end-mark text mark rest is =
    rw (
      radix_of-mark text mark rest is,
      drop-prefix-mark text mark rest is,
      front_digits-mark (radix_of text) (drop (prefix_of text) text) mark rest (is_digit-mark mark (radix_of text) (radix_of-le text) is),
      prefix_of-mark text mark rest is,
    )
    refl

pub number_end-le : (text : List ℕ) → number_end text ≤ length text
number_end-le text =
    let prefix : prefix_of text ≤ length text = prefix_of-le text in
    let digits : length (front_digits (radix_of text) (drop (prefix_of text) text)) ≤ length (drop (prefix_of text) text)
    = front_digits-le (radix_of text) (drop (prefix_of text) text) in
    omega (arith, length-drop (prefix_of text) text)

pub suffix_of-mark : (text : List ℕ) (mark : ℕ) (rest : List ℕ)
    → is_digit mark 36 ≡ false → suffix_of (text ++ (mark ∷ rest)) ≡ suffix_of text
suffix_of-mark [] mark rest is =
    rw (
      mark-other mark 75 is refl,
      mark-other mark 107 is refl,
      mark-other mark 77 is refl,
      mark-other mark 109 is refl,
      mark-other mark 71 is refl,
      mark-other mark 103 is refl,
      mark-other mark 84 is refl,
      mark-other mark 116 is refl,
      mark-other mark 80 is refl,
      mark-other mark 112 is refl,
      mark-other mark 69 is refl,
      mark-other mark 101 is refl,
    )
    refl
suffix_of-mark (b ∷ bs) mark rest is = refl

-- a byte that is neither a digit nor a letter ends a number or size: it and the bytes after it
-- don't change what is read
pub number_of-mark : (text rest : List ℕ) (mark : ℕ)
    → is_digit mark 36 ≡ false → number_of (text ++ (mark ∷ rest)) ≡ number_of text
number_of-mark text rest mark is =
    rw (begins_with_digit-mark text mark rest is, number_value-mark text mark rest is, number_end-mark text mark rest is) refl

pub size_of-mark : (text rest : List ℕ) (mark : ℕ)
    → is_digit mark 36 ≡ false → size_of (text ++ (mark ∷ rest)) ≡ size_of text
size_of-mark text rest mark is =
    rw (
      begins_with_digit-mark text mark rest is,
      number_value-mark text mark rest is,
      number_end-mark text mark rest is,
      drop-append-le (number_end text) text (mark ∷ rest) (number_end-le text),
      suffix_of-mark (drop (number_end text) text) mark rest is,
    )
    refl

-- in a text of decimal digits, the digits at the start are the whole text
pub front_digits-all : (ds : List ℕ) → AllDigits 10 ds → front_digits 10 ds ≡ ds
front_digits-all [] all = refl
front_digits-all (d ∷ ds) all =
    let digit : nat_lt (digit_value d) 10 ≡ true = grind (arith, nat_tests, all.0) in
    rw digit (ap (λ (rest : List ℕ). d ∷ rest) (front_digits-all ds all.1))

pub is_hexadecimal-other : (d : ℕ) (ds : List ℕ) → d == 48 ≡ false → is_hexadecimal (d ∷ ds) ≡ false
is_hexadecimal-other d [] is = refl
is_hexadecimal-other d (x ∷ []) is = refl
is_hexadecimal-other d (x ∷ e ∷ ds) is = rw is refl

-- decimal digits that don't begin with `0` are read as the number that they write
pub size_of-digits : (d : ℕ) (ds : List ℕ) → AllDigits 10 (d ∷ ds) → 48 < d → digits_value 10 (d ∷ ds) < 2 ^ 64
    → size_of (d ∷ ds) ≡ Ok (digits_value 10 (d ∷ ds), length (d ∷ ds))
size_of-digits d ds all above small =
    let digit : nat_lt (digit_value d) 10 ≡ true = grind (arith, nat_tests, all.0) in
    let other : d == 48 ≡ false = grind (arith, nat_tests, above) in
    let whole : front_digits 10 (d ∷ ds) ≡ d ∷ ds = front_digits-all (d ∷ ds) all in
    let radix : radix_of (d ∷ ds) ≡ 10 = rw (is_hexadecimal-other d ds other, other) refl in
    let prefix : prefix_of (d ∷ ds) ≡ 0 = rw (is_hexadecimal-other d ds other) refl in
    spelled (begins_with_digit (d ∷ ds)) (radix_of (d ∷ ds)) (prefix_of (d ∷ ds)) (d ∷ ds) digit radix prefix whole small
  where
    sized : (v n : ℕ) → v < 2 ^ 64 → with_suffix v n (1, 0) ≡ Ok (v, n)
    sized v n small =
        let value : v * 1 ≡ v = omega arith in
        let taken : n + 0 ≡ n = omega arith in
        let fits : nat_lt v (2 ^ 64) ≡ true = grind (arith, nat_tests, small) in
        rw (value, taken, fits) refl

    spelled : (begins : Bool) (radix prefix : ℕ) (text : List ℕ) → begins ≡ true → radix ≡ 10 → prefix ≡ 0
        → front_digits 10 text ≡ text → digits_value 10 text < 2 ^ 64
        → (if begins
        then with_suffix (front_digits_value radix (drop prefix text)) (prefix + length (front_digits radix (drop prefix text)))
        (suffix_of (drop (prefix + length (front_digits radix (drop prefix text))) text))
        else Err NoDigits) ≡ Ok (digits_value 10 text, length text)
    spelled begins radix prefix text is base none whole small =
        rw (is, base, none, whole, zero-add (length text), drop-length text) (sized (digits_value 10 text) (length text) small)

-- a number is read back from its decimal text, which `{}` prints
pub size_of-decimal : (n : ℕ) → n < 2 ^ 64 → size_of (decimal n) ≡ Ok (n, length (decimal n))
size_of-decimal zero small = rw (decimal_digit 0 (omega arith)) refl
size_of-decimal (suc n) small =
    by_digits (suc n) (decimal (suc n)) (decimal_is_IsNumeral (suc n) small).0.1 (first_decimal (suc n) (omega arith) small)
    (decimal_is_IsNumeral (suc n) small).1 small
  where
    by_digits : (m : ℕ) (ds : List ℕ) → AllDigits 10 ds → 48 < get_or ds 0 0 → digits_value 10 ds ≡ m → m < 2 ^ 64
        → size_of ds ≡ Ok (m, length ds)
    by_digits m [] all above is small = absurd (omega (arith, above))
    by_digits m (d ∷ ds) all above is small =
        let fits : digits_value 10 (d ∷ ds) < 2 ^ 64 = rw is small in
        size_of-digits d ds all above fits ∙ rw is refl
