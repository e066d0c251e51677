-- A text is read as a number or a size exactly if it spells one.
use Rattle.std.proofs.Common.{◌≡◌, ◌≢◌, ◌↔◌, ◌⊎◌, inl, inr, ℕ, ◌+◌, ◌*◌, ◌^◌, ◌<◌, ◌≤◌, ◌==◌, ◌&&◌, ◌||◌, Bool, true, false, nat_lt, if◌then◌else◌, List, [], ◌∷◌, ◌++◌, length, drop, suc, refl, subst, ap, append_assoc, sym, ◌∙◌, codes, Result, Ok, Err, arith}
use Rattle.std.proofs.lemmas.Bool.{ne_eqb, eqb-true, ltb-true, lt-ltb}
use Rattle.std.proofs.lemmas.Bool.Decides.{nat_tests}
use Rattle.std.proofs.lemmas.List.{append-nil, drop-drop, length_push}
use Rattle.std.proofs.Math.Seq.{drop-append_seam, drop-length}
use Rattle.std.specs.Char.{digit_value, is_digit}
use Rattle.std.specs.Str.Parse.{AllDigits}
use Rattle.bm_base.specs.declared.size.NumFault.{NumFault}
use Rattle.bm_base.specs.declared.size.NumFault.TheVariants.{NoDigits, TooLarge}
use Rattle.bm_base.specs.Size.{front_digits, front_digits_value, is_hexadecimal, begins_with_digit, prefix_of, radix_of, number_value, number_end, suffix_at, suffix_of, fit_in_u64, with_suffix, number_of, size_of, IsSize, IsNumber}
use Rattle.bm_base.proofs.SizeLaws.{is_hexadecimal-short, is_hexadecimal-other}
use Rattle.bm_base.specs.Spelling.{SpellsIn, hexadecimal, octal, decimal, SpellsNumber, SpellsSize, number_alone, number_with_suffix}

-- a text splits into the digits at its start and a rest that doesn't begin with a digit
record SplitDigits (radix : ℕ) (text digits : List ℕ) : Type 0 where
  all : AllDigits radix digits
  whole : text ≡ digits ++ drop (length digits) text
  stops : (b : ℕ) (bs : List ℕ) → drop (length digits) text ≡ b ∷ bs → is_digit b radix ≡ false

split_digits : (radix : ℕ) (text : List ℕ) → SplitDigits radix text (front_digits radix text)
split_digits radix [] = record { all = tt; whole = refl; stops = λ b bs is. cc }
split_digits radix (a ∷ text) = by_test (is_digit a radix) refl (split_digits radix text)
  where
    by_test : (t : Bool) → is_digit a radix ≡ t → SplitDigits radix text (front_digits radix text)
        → SplitDigits radix (a ∷ text) (if t then a ∷ front_digits radix text else [])
    by_test true digit rest =
        record {
          all = (ltb-true (digit_value a) radix digit, rest.all);
          whole = ap (λ (bs : List ℕ). a ∷ bs) rest.whole;
          stops = rest.stops;
        }
    by_test false digit rest =
        record { all = tt; whole = refl; stops = λ b bs is. let same : a ≡ b = cc in rw same at digit }

-- a number that the start of a text spells, not followed by another digit
record SpelledFront (text : List ℕ) (radix value end : ℕ) : Type 0 where
  front : List ℕ
  number : SpellsIn radix front value
  whole : text ≡ front ++ drop end text
  taken : length front ≡ end
  stops : (b : ℕ) (bs : List ℕ) → drop end text ≡ b ∷ bs → is_digit b radix ≡ false

-- a number without the prefix `0x`
by_radix : (text : List ℕ) (radix : ℕ) → SpellsIn radix (front_digits radix text) (front_digits_value radix text)
    → SpelledFront text radix (front_digits_value radix text) (0 + length (front_digits radix text))
by_radix text radix number =
    let digits = split_digits radix text in
    let end : 0 + length (front_digits radix text) ≡ length (front_digits radix text) = omega arith in
    rw end (record {
      front = front_digits radix text;
      number = number;
      whole = digits.whole;
      taken = refl;
      stops = digits.stops;
    })

octal_front : (rest : List ℕ) → SpelledFront (48 ∷ rest) 8 (front_digits_value 8 (48 ∷ rest)) (0 + length (front_digits 8 (48 ∷ rest)))
octal_front rest = by_radix (48 ∷ rest) 8 (octal (front_digits 8 rest) (split_digits 8 rest).all)

decimal_front : (z : ℕ) (rest : List ℕ) → is_digit z 10 ≡ true → z == 48 ≡ false
    → SpelledFront (z ∷ rest) 10 (front_digits_value 10 (z ∷ rest)) (0 + length (front_digits 10 (z ∷ rest)))
decimal_front z rest digit other =
    let digits = split_digits 10 (z ∷ rest) in
    let other_byte : z ∷ [] ≢ codes "0" = λ same. let zero : z ≡ 48 = cc in absurd (grind (arith, nat_tests)) in
    by_radix (z ∷ rest) 10 (rw digit (decimal z (front_digits 10 rest) (rw digit at digits.all) other_byte))

hexadecimal_front : (x d : ℕ) (rest : List ℕ) → (x ∷ [] ≡ codes "x") ⊎ (x ∷ [] ≡ codes "X") → is_digit d 16 ≡ true
    → SpelledFront (48 ∷ x ∷ d ∷ rest) 16 (front_digits_value 16 (d ∷ rest)) (2 + length (front_digits 16 (d ∷ rest)))
hexadecimal_front x d rest is digit =
    let digits = split_digits 16 (d ∷ rest) in
    let more : front_digits 16 (d ∷ rest) ≡ d ∷ front_digits 16 rest = rw digit refl in
    let end : 2 + length (front_digits 16 (d ∷ rest)) ≡ suc (suc (length (front_digits 16 (d ∷ rest)))) = omega arith in
    rw end (record {
      front = 48 ∷ x ∷ front_digits 16 (d ∷ rest);
      number = rw more (hexadecimal x d (front_digits 16 rest) is (rw more at digits.all));
      whole = ap (λ (bs : List ℕ). 48 ∷ x ∷ bs) digits.whole;
      taken = refl;
      stops = digits.stops;
    })

-- the bytes of the prefix `0x` or `0X`, and the digit after it
prefix_bytes : (z x d : ℕ) → (z == 48) && ((x == 120) || (x == 88)) && is_digit d 16 ≡ true
    → (z ≡ 48) × ((x ∷ [] ≡ codes "x") ⊎ (x ∷ [] ≡ codes "X")) × (is_digit d 16 ≡ true)
prefix_bytes z x d = by_tests (z == 48) refl (x == 120) refl (x == 88) refl (is_digit d 16)
  where
    by_tests : (a : Bool) → z == 48 ≡ a → (b : Bool) → x == 120 ≡ b → (c : Bool) → x == 88 ≡ c → (e : Bool) → a && (b || c) && e ≡ true
        → (z ≡ 48) × ((x ∷ [] ≡ codes "x") ⊎ (x ∷ [] ≡ codes "X")) × (e ≡ true)
    by_tests false a_is b b_is c c_is e is = cc
    by_tests true a_is false b_is false c_is e is = cc
    by_tests true a_is true b_is c c_is e is = (eqb-true z 48 a_is, inl (ap (λ (n : ℕ). n ∷ []) (eqb-true x 120 b_is)), is)
    by_tests true a_is false b_is true c_is e is = (eqb-true z 48 a_is, inr (ap (λ (n : ℕ). n ∷ []) (eqb-true x 88 c_is)), is)

-- a number that doesn't begin with `0x` is octal if it begins with `0`, else decimal
without_prefix : (z : ℕ) (rest : List ℕ) → is_digit z 10 ≡ true → is_hexadecimal (z ∷ rest) ≡ false
    → SpelledFront (z ∷ rest) (radix_of (z ∷ rest)) (number_value (z ∷ rest)) (number_end (z ∷ rest))
without_prefix z rest digit hex = rw hex (by_test (z == 48) refl)
  where
    by_test : (t : Bool) → z == 48 ≡ t
        → SpelledFront (z ∷ rest) (if t then 8 else 10) (front_digits_value (if t then 8 else 10) (z ∷ rest))
        (0 + length (front_digits (if t then 8 else 10) (z ∷ rest)))
    by_test true is = let zero : z ≡ 48 = eqb-true z 48 is in rw zero (octal_front rest)
    by_test false is = decimal_front z rest digit is

spelled_front : (text : List ℕ) → begins_with_digit text ≡ true
    → SpelledFront text (radix_of text) (number_value text) (number_end text)
spelled_front [] begins = cc
spelled_front (z ∷ []) begins = without_prefix z [] begins refl
spelled_front (z ∷ x ∷ []) begins = without_prefix z (x ∷ []) begins refl
spelled_front (z ∷ x ∷ d ∷ rest) begins = by_test (is_hexadecimal (z ∷ x ∷ d ∷ rest)) refl
  where
    by_test : (t : Bool) → is_hexadecimal (z ∷ x ∷ d ∷ rest) ≡ t
        → SpelledFront (z ∷ x ∷ d ∷ rest) (radix_of (z ∷ x ∷ d ∷ rest)) (number_value (z ∷ x ∷ d ∷ rest)) (number_end (z ∷ x ∷ d ∷ rest))
    by_test true hex =
        let bytes = prefix_bytes z x d hex in
        rw hex (subst (λ n. SpelledFront (n ∷ x ∷ d ∷ rest) 16 (front_digits_value 16 (d ∷ rest)) (2 + length (front_digits 16 (d ∷ rest))))
        (sym bytes.0) (hexadecimal_front x d rest bytes.1 bytes.2))
    by_test false hex = without_prefix z (x ∷ d ∷ rest) begins hex

-- a number of value `n` and length `end` is read at the start of the text, unless it is too large
record ReadsFront (text : List ℕ) (n end : ℕ) : Type 0 where
  begins : begins_with_digit text ≡ true
  value : number_value text ≡ n
  taken : number_end text ≡ end

front_digits-append : (radix : ℕ) (ds rest : List ℕ) → AllDigits radix ds → front_digits radix rest ≡ []
    → front_digits radix (ds ++ rest) ≡ ds
front_digits-append radix [] rest all stops = stops
front_digits-append radix (d ∷ ds) rest all stops =
    rw (lt-ltb (digit_value d) radix all.0) (ap (λ (ds : List ℕ). d ∷ ds) (front_digits-append radix ds rest all.1 stops))

-- `0` before an octal digit, or before a single byte, doesn't begin a hexadecimal number
octal_prefix : (ds rest : List ℕ) → AllDigits 8 ds → length rest ≤ 1 → is_hexadecimal (48 ∷ (ds ++ rest)) ≡ false
octal_prefix [] [] all short = refl
octal_prefix [] (b ∷ []) all short = refl
octal_prefix [] (b ∷ c ∷ rest) all short = absurd (omega arith)
octal_prefix (d ∷ ds) rest all short =
    let lower : d == 120 ≡ false = ne_eqb d 120 (λ same. let digit : digit_value 120 < 8 = rw same at all.0 in omega arith) in
    let upper : d == 88 ≡ false = ne_eqb d 88 (λ same. let digit : digit_value 88 < 8 = rw same at all.0 in omega arith) in
    is_hexadecimal-short 48 d (ds ++ rest) (rw (lower, upper) refl)

x_or_X : (x : ℕ) → (x ∷ [] ≡ codes "x") ⊎ (x ∷ [] ≡ codes "X") → (x == 120) || (x == 88) ≡ true
x_or_X x (inl is) = let same : x ≡ 120 = cc in rw same refl
x_or_X x (inr is) = let same : x ≡ 88 = cc in rw same refl

number_read : (radix : ℕ) (front : List ℕ) (n : ℕ) (rest : List ℕ) → SpellsIn radix front n → length rest ≤ 1 → front_digits radix rest ≡ []
    → ReadsFront (front ++ rest) n (length front)
number_read radix front n rest (hexadecimal x d ds is all) short stops =
    let digits : front_digits 16 (d ∷ (ds ++ rest)) ≡ d ∷ ds = front_digits-append 16 (d ∷ ds) rest all stops in
    let hex : is_hexadecimal (48 ∷ x ∷ d ∷ (ds ++ rest)) ≡ true = rw (x_or_X x is) (lt-ltb (digit_value d) 16 all.0) in
    let end : 2 + length (d ∷ ds) ≡ suc (suc (length (d ∷ ds))) = omega arith in
    record { begins = refl; value = rw (hex, digits) refl; taken = rw (hex, digits) end }
number_read radix front n rest (octal ds all) short stops =
    let digits : front_digits 8 (ds ++ rest) ≡ ds = front_digits-append 8 ds rest all stops in
    let hex : is_hexadecimal (48 ∷ (ds ++ rest)) ≡ false = octal_prefix ds rest all short in
    let end : 0 + length (48 ∷ ds) ≡ length (48 ∷ ds) = omega arith in
    record { begins = refl; value = rw (hex, digits) refl; taken = rw (hex, digits) end }
number_read radix front n rest (decimal d ds all other) short stops =
    let digits : front_digits 10 (d ∷ (ds ++ rest)) ≡ d ∷ ds = front_digits-append 10 (d ∷ ds) rest all stops in
    let isnt : d == 48 ≡ false = ne_eqb d 48 (λ same. other (ap (λ (n : ℕ). n ∷ []) same)) in
    let hex : is_hexadecimal (d ∷ (ds ++ rest)) ≡ false = is_hexadecimal-other d (ds ++ rest) isnt in
    let radix : radix_of (d ∷ (ds ++ rest)) ≡ 10 = rw (hex, isnt) refl in
    let prefix : prefix_of (d ∷ (ds ++ rest)) ≡ 0 = rw hex refl in
    let end : 0 + length (d ∷ ds) ≡ length (d ∷ ds) = omega arith in
    record {
      begins = lt-ltb (digit_value d) 10 all.0;
      value = rw (radix, prefix, digits) refl;
      taken = rw (radix, prefix, digits) end;
    }

-- from here on: the text spells each number that is read
abbrev if_fits : Bool → ℕ → ℕ → Result (ℕ × ℕ) NumFault
if_fits t value taken = if t then Ok (value, taken) else Err TooLarge

fit_in_u64-ok : (value taken n end : ℕ) → fit_in_u64 value taken ≡ Ok (n, end) → (value ≡ n) × (taken ≡ end) × (value < 2 ^ 64)
fit_in_u64-ok value taken n end = by_test (nat_lt value (2 ^ 64)) refl
  where
    by_test : (t : Bool) → nat_lt value (2 ^ 64) ≡ t → if_fits t value taken ≡ Ok (n, end)
        → (value ≡ n) × (taken ≡ end) × (value < 2 ^ 64)
    by_test false small is = cc
    by_test true small is =
        let pair : (value, taken) ≡ (n, end) = cc in
        (ap (λ (p : ℕ × ℕ). p.0) pair, ap (λ (p : ℕ × ℕ). p.1) pair, ltb-true value (2 ^ 64) small)

-- the text is `front`, of length `end`, which spells the number or size, and the rest
abbrev pub IsSpelledTo : List ℕ → ℕ → (List ℕ → Type 0) → Type 0
IsSpelledTo text end Spells = (front : List ℕ) × Spells front × (text ≡ front ++ drop end text) × (length front ≡ end)

number-spelled_front : (text : List ℕ) (radix value end : ℕ) → SpelledFront text radix value end → (n taken : ℕ)
    → fit_in_u64 value end ≡ Ok (n, taken) → IsSpelledTo text taken (λ front. SpellsNumber front n)
number-spelled_front text radix value end spelled n taken is =
    let read = fit_in_u64-ok value end n taken is in
    subst (λ k. IsSpelledTo text k (λ front. SpellsNumber front n)) read.1
    (subst (λ v. IsSpelledTo text end (λ front. SpellsNumber front v)) read.0 (
      spelled.front,
      record { radix = radix; number = spelled.number; fits = read.2 },
      spelled.whole,
      spelled.taken,
    ))

-- a byte is a suffix, or it isn't
suffix_or_none : (b : ℕ) → ((suffix_at b).1 ≡ 1) ⊎ (suffix_at b ≡ (1, 0))
suffix_or_none b =
    one_of ((b == 75) || (b == 107)) _ _ (inl refl) (one_of ((b == 77) || (b == 109)) _ _ (inl refl)
    (one_of ((b == 71) || (b == 103)) _ _ (inl refl) (one_of ((b == 84) || (b == 116)) _ _ (inl refl)
    (one_of ((b == 80) || (b == 112)) _ _ (inl refl) (one_of ((b == 69) || (b == 101)) _ _ (inl refl) (inr refl))))))
  where
    one_of : (t : Bool) (x y : ℕ × ℕ) → (x.1 ≡ 1) ⊎ (x ≡ (1, 0)) → (y.1 ≡ 1) ⊎ (y ≡ (1, 0))
        → ((if t then x else y).1 ≡ 1) ⊎ ((if t then x else y) ≡ (1, 0))
    one_of true x y front back = front
    one_of false x y front back = back

size-spelled_front : (text : List ℕ) (radix value end : ℕ) → SpelledFront text radix value end → (rest : List ℕ) → drop end text ≡ rest
    → (n taken : ℕ) → with_suffix value end (suffix_of rest) ≡ Ok (n, taken) → IsSpelledTo text taken (λ front. SpellsSize front n)
size-spelled_front text radix value end spelled rest after n taken is = by_rest rest after is
  where
    alone : fit_in_u64 (value * 1) (end + 0) ≡ Ok (n, taken) → IsSpelledTo text taken (λ front. SpellsSize front n)
    alone is =
        let once : value * 1 ≡ value = omega arith in
        let same : end + 0 ≡ end = omega arith in
        let number = number-spelled_front text radix value end spelled n taken (rw (once, same) at is) in
        (number.0, number_alone number.0 n number.1, number.2, number.3)

    with_letter : (b : ℕ) (bs : List ℕ) → drop end text ≡ b ∷ bs → (factor : ℕ) → suffix_at b ≡ (factor, 1)
        → fit_in_u64 (value * factor) (end + 1) ≡ Ok (n, taken) → IsSpelledTo text taken (λ front. SpellsSize front n)
    with_letter b bs after factor suffix is =
        let read = fit_in_u64-ok (value * factor) (end + 1) n taken is in
        let next : drop (end + 1) text ≡ bs = sym (drop-drop 1 end text) ∙ ap (drop 1) after in
        let whole : text ≡ (spelled.front ++ (b ∷ [])) ++ drop (end + 1) text =
        rw (next, append_assoc) (spelled.whole ∙ ap (λ (rest : List ℕ). spelled.front ++ rest) after) in
        subst (λ k. IsSpelledTo text k (λ front. SpellsSize front n)) read.1
        (subst (λ v. IsSpelledTo text (end + 1) (λ front. SpellsSize front v)) read.0 (
          spelled.front ++ (b ∷ []),
          number_with_suffix radix value factor b spelled.front spelled.number suffix (spelled.stops b bs after) read.2,
          whole,
          length_push spelled.front b ∙ ap (λ (k : ℕ). k + 1) spelled.taken,
        ))

    by_rest : (rest : List ℕ) → drop end text ≡ rest → with_suffix value end (suffix_of rest) ≡ Ok (n, taken)
        → IsSpelledTo text taken (λ front. SpellsSize front n)
    by_rest [] after is = alone is
    by_rest (b ∷ bs) after is = by_suffix (suffix_or_none b) is
      where
        by_suffix : ((suffix_at b).1 ≡ 1) ⊎ (suffix_at b ≡ (1, 0)) → with_suffix value end (suffix_at b) ≡ Ok (n, taken)
            → IsSpelledTo text taken (λ front. SpellsSize front n)
        by_suffix (inl one) is =
            let suffix : suffix_at b ≡ ((suffix_at b).0, 1) = ap (λ (k : ℕ). ((suffix_at b).0, k)) one in
            with_letter b bs after (suffix_at b).0 suffix (rw one at is)
        by_suffix (inr none) is = alone (rw none at is)

-- if a number is read at the start of a text, that start spells it
pub number-spelled : (text : List ℕ) (n end : ℕ) → number_of text ≡ Ok (n, end) → IsSpelledTo text end (λ front. SpellsNumber front n)
number-spelled text n end = by_test (begins_with_digit text) refl
  where
    by_test : (t : Bool) → begins_with_digit text ≡ t
        → (if t then fit_in_u64 (number_value text) (number_end text) else Err NoDigits) ≡ Ok (n, end)
        → IsSpelledTo text end (λ front. SpellsNumber front n)
    by_test false begins is = cc
    by_test true begins is =
        number-spelled_front text (radix_of text) (number_value text) (number_end text) (spelled_front text begins) n end is

pub size-spelled : (text : List ℕ) (n end : ℕ) → size_of text ≡ Ok (n, end) → IsSpelledTo text end (λ front. SpellsSize front n)
size-spelled text n end = by_test (begins_with_digit text) refl
  where
    by_test : (t : Bool) → begins_with_digit text ≡ t
        → (if t
        then with_suffix (number_value text) (number_end text) (suffix_of (drop (number_end text) text))
        else Err NoDigits) ≡ Ok (n, end) → IsSpelledTo text end (λ front. SpellsSize front n)
    by_test false begins is = cc
    by_test true begins is =
        size-spelled_front text (radix_of text) (number_value text) (number_end text) (spelled_front text begins)
        (drop (number_end text) text) refl n end is

-- from here on: if a text spells a number, it is read
number_of-front : (text : List ℕ) (n end : ℕ) → ReadsFront text n end → number_of text ≡ fit_in_u64 n end
number_of-front text n end reads = rw (reads.begins, reads.value, reads.taken) refl

size_of-front : (text : List ℕ) (n end : ℕ) → ReadsFront text n end → size_of text ≡ with_suffix n end (suffix_of (drop end text))
size_of-front text n end reads = rw (reads.begins, reads.value, reads.taken) refl

fit_in_u64-small : (n end : ℕ) → n < 2 ^ 64 → fit_in_u64 n end ≡ Ok (n, end)
fit_in_u64-small n end small = rw (lt-ltb n (2 ^ 64) small) refl

reads_whole : (text : List ℕ) (n : ℕ) → SpellsNumber text n → ReadsFront text n (length text)
reads_whole text n spells = rw append-nil at (number_read spells.radix text n [] spells.number (omega arith) refl)

pub number-read : (text : List ℕ) (n : ℕ) → SpellsNumber text n → IsNumber text n
number-read text n spells = number_of-front text n (length text) (reads_whole text n spells) ∙ fit_in_u64-small n (length text) spells.fits

pub size-read : (text : List ℕ) (n : ℕ) → SpellsSize text n → IsSize text n
size-read text n (number_alone _ _ spells) =
    let value : n * 1 ≡ n = omega arith in
    let end : length text + 0 ≡ length text = omega arith in
    size_of-front text n (length text) (reads_whole text n spells)
    ∙ rw (drop-length text, value, end) (fit_in_u64-small n (length text) spells.fits)
size-read text n (number_with_suffix radix m factor b front spells suffix other fits) =
    let reads : ReadsFront (front ++ (b ∷ [])) m (length front) = number_read radix front m (b ∷ []) spells (omega arith) (rw other refl) in
    size_of-front (front ++ (b ∷ [])) m (length front) reads
    ∙ rw (drop-append_seam front (b ∷ []), suffix, length_push front b) (fit_in_u64-small (m * factor) (length front + 1) fits)

-- if the number or size is as long as the text, the whole text spells it
whole-spelled : (Spells : List ℕ → Type 0) (text : List ℕ) → IsSpelledTo text (length text) Spells → Spells text
whole-spelled Spells text to =
    let whole : text ≡ to.0 = to.2 ∙ rw (drop-length text) (append-nil to.0) in subst Spells (sym whole) to.1

pub size-exactly : (text : List ℕ) (n : ℕ) → IsSize text n ↔ SpellsSize text n
size-exactly text n =
    (λ is. whole-spelled (λ front. SpellsSize front n) text (size-spelled text n (length text) is), λ spells. size-read text n spells)

pub number-exactly : (text : List ℕ) (n : ℕ) → IsNumber text n ↔ SpellsNumber text n
number-exactly text n =
    (λ is. whole-spelled (λ front. SpellsNumber front n) text (number-spelled text n (length text) is), λ spells. number-read text n spells)

-- if a size or number is read at the start of a text, that start by itself is the same size or
-- number
pub size-front : (text : List ℕ) (n end : ℕ) → size_of text ≡ Ok (n, end) → IsSpelledTo text end (λ front. IsSize front n)
size-front text n end is = let to = size-spelled text n end is in (to.0, size-read to.0 n to.1, to.2, to.3)

pub number-front : (text : List ℕ) (n end : ℕ) → number_of text ≡ Ok (n, end) → IsSpelledTo text end (λ front. IsNumber front n)
number-front text n end is = let to = number-spelled text n end is in (to.0, number-read to.0 n to.1, to.2, to.3)
