-- Numbers and sizes in texts, as the kernel reads them: digits as `_parse_integer_fixup_radix`
-- (lib/kstrtox.c) and `simple_strtoull` (lib/vsprintf.c) do, suffixes as `memparse` (lib/cmdline.c)
-- does. Values don't wrap: those above 2^64 - 1 are faults.
use Rattle.std.specs.Prelude.{◌≡◌, ℕ, ◌+◌, ◌*◌, ◌^◌, ◌==◌, Bool, false, ◌&&◌, ◌||◌, nat_lt, if◌then◌else◌, List, [], ◌∷◌, length, drop, Result, Ok, Err}
use Rattle.std.specs.Char.{is_digit}
use Rattle.std.specs.Str.Parse.{digits_value}
use Rattle.bm_base.specs.declared.size.NumFault.{NumFault}
use Rattle.bm_base.specs.declared.size.NumFault.TheVariants.{NoDigits, TooLarge}

-- the bytes at the start of the text that are digits of the base, up to the first that isn't
abbrev pub front_digits : ℕ → List ℕ → List ℕ
front_digits radix [] = []
front_digits radix (b ∷ bs) = if is_digit b radix then b ∷ front_digits radix bs else []

-- the value of the digits of the base at the start of the text; 0 if there are none
abbrev pub front_digits_value : ℕ → List ℕ → ℕ
front_digits_value radix text = digits_value radix (front_digits radix text)

-- whether the text begins a hexadecimal number: `0x` or `0X` and a hexadecimal digit
abbrev pub is_hexadecimal : List ℕ → Bool
is_hexadecimal [] = false
is_hexadecimal (z ∷ []) = false
is_hexadecimal (z ∷ x ∷ []) = false
is_hexadecimal (z ∷ x ∷ d ∷ rest) = (z == 48) && ((x == 120) || (x == 88)) && is_digit d 16

-- whether the text begins with `0`
abbrev pub begins_with_zero : List ℕ → Bool
begins_with_zero [] = false
begins_with_zero (b ∷ bs) = b == 48

-- whether the text begins with a decimal digit
abbrev pub begins_with_digit : List ℕ → Bool
begins_with_digit [] = false
begins_with_digit (b ∷ bs) = is_digit b 10

-- the number of bytes before the digits: 2 for `0x`, else 0. The leading `0` of an octal number is
-- one of its digits.
abbrev pub prefix_of : List ℕ → ℕ
prefix_of text = if is_hexadecimal text then 2 else 0

-- the base of the number at the start of the text: 16 if it begins with `0x` or `0X` and a
-- hexadecimal digit, else 8 if it begins with `0`, else 10
abbrev pub radix_of : List ℕ → ℕ
radix_of text = if is_hexadecimal text then 16 else (if begins_with_zero text then 8 else 10)

-- the value of the number at the start of the text, whose base is 16, 8 or 10 by its prefix
abbrev pub number_value : List ℕ → ℕ
number_value text = front_digits_value (radix_of text) (drop (prefix_of text) text)

-- the length in bytes of the number at the start of the text
abbrev pub number_end : List ℕ → ℕ
number_end text = prefix_of text + length (front_digits (radix_of text) (drop (prefix_of text) text))

-- what a byte means as the suffix of a size, in upper or lower case: its factor (2^10 for K up to
-- 2^60 for E) and its length 1; factor 1 and length 0 if the byte is no suffix
abbrev pub suffix_at : ℕ → ℕ × ℕ
suffix_at b =
    if (b == 75) || (b == 107) then (2 ^ 10, 1) else
    (if (b == 77) || (b == 109) then (2 ^ 20, 1) else
    (if (b == 71) || (b == 103) then (2 ^ 30, 1) else
    (if (b == 84) || (b == 116) then (2 ^ 40, 1) else
    (if (b == 80) || (b == 112) then (2 ^ 50, 1) else
    (if (b == 69) || (b == 101) then (2 ^ 60, 1) else (1, 0))))))

-- the factor and the length of the suffix (K, M, G, T, P or E) at the start of a text; factor 1
-- and length 0 if there is none
abbrev pub suffix_of : List ℕ → ℕ × ℕ
suffix_of [] = (1, 0)
suffix_of (b ∷ bs) = suffix_at b

-- the value and the number of bytes read, or TooLarge if the value exceeds 2^64 - 1
abbrev pub fit_in_u64 : ℕ → ℕ → Result (ℕ × ℕ) NumFault
fit_in_u64 value taken = if nat_lt value (2 ^ 64) then Ok (value, taken) else Err TooLarge

-- the value times the factor of the suffix, and the length in bytes of number and suffix together;
-- TooLarge if the product exceeds 2^64 - 1
abbrev pub with_suffix : ℕ → ℕ → ℕ × ℕ → Result (ℕ × ℕ) NumFault
with_suffix value end suffix = fit_in_u64 (value * suffix.0) (end + suffix.1)

-- the value and the length in bytes of the number at the start of the text; a suffix isn't read.
-- NoDigits if the text doesn't begin with a decimal digit, TooLarge if the value exceeds 2^64 - 1
abbrev pub number_of : List ℕ → Result (ℕ × ℕ) NumFault
number_of text = if begins_with_digit text then fit_in_u64 (number_value text) (number_end text) else Err NoDigits

-- the value and the length in bytes of the size at the start of the text: a number and at most one
-- suffix. NoDigits if the text doesn't begin with a decimal digit, TooLarge if the value exceeds
-- 2^64 - 1
abbrev pub size_of : List ℕ → Result (ℕ × ℕ) NumFault
size_of text =
    if begins_with_digit text
    then with_suffix (number_value text) (number_end text) (suffix_of (drop (number_end text) text))
    else Err NoDigits

-- the whole text is read as a size of `n` bytes
abbrev pub IsSize : List ℕ → ℕ → Type 0
IsSize text n = size_of text ≡ Ok (n, length text)

-- the whole text is read as the number `n`, which has no suffix
abbrev pub IsNumber : List ℕ → ℕ → Type 0
IsNumber text n = number_of text ≡ Ok (n, length text)
