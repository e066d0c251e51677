-- The grammar of numbers and sizes (`memparse` of lib/cmdline.c).
use Rattle.std.specs.Prelude.{◌≡◌, ◌≢◌, ◌⊎◌, ℕ, ◌*◌, ◌^◌, ◌<◌, false, List, [], ◌∷◌, ◌++◌, codes}
use Rattle.std.specs.Char.{is_digit}
use Rattle.std.specs.Str.Parse.{AllDigits, digits_value}
use Rattle.bm_base.specs.Size.{suffix_at}

-- the text spells the number in the base: in base 16 as `0x` or `0X` and at least one digit, in
-- base 8 as `0` and any number of digits, in base 10 as digits that don't begin with `0`
pub data SpellsIn : ℕ → List ℕ → ℕ → Type 0 where
  hexadecimal : (x d : ℕ) (ds : List ℕ) → (x ∷ [] ≡ codes "x") ⊎ (x ∷ [] ≡ codes "X") → AllDigits 16 (d ∷ ds)
      → SpellsIn 16 (codes "0" ++ (x ∷ d ∷ ds)) (digits_value 16 (d ∷ ds))
  octal : (ds : List ℕ) → AllDigits 8 ds → SpellsIn 8 (codes "0" ++ ds) (digits_value 8 ds)
  decimal : (d : ℕ) (ds : List ℕ) → AllDigits 10 (d ∷ ds) → d ∷ [] ≢ codes "0" → SpellsIn 10 (d ∷ ds) (digits_value 10 (d ∷ ds))

-- the text spells the number in base 16, 8 or 10, and the number is at most 2^64 - 1
pub record SpellsNumber (text : List ℕ) (n : ℕ) : Type 0 where
  pub radix : ℕ
  pub number : SpellsIn radix text n
  pub fits : n < 2 ^ 64

-- the text spells the size, which is at most 2^64 - 1: a number, or a number and one suffix K, M,
-- G, T, P or E, in upper or lower case. After a hexadecimal number, `E` is a digit and not a
-- suffix.
pub data SpellsSize : List ℕ → ℕ → Type 0 where
  number_alone : (text : List ℕ) (n : ℕ) → SpellsNumber text n → SpellsSize text n
  number_with_suffix : (radix n factor b : ℕ) (text : List ℕ) → SpellsIn radix text n → suffix_at b ≡ (factor, 1) → is_digit b radix ≡ false
      → n * factor < 2 ^ 64 → SpellsSize (text ++ (b ∷ [])) (n * factor)
