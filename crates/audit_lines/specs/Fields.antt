-- The fields of a line. Each definition takes the field at the start of a text, and gives it with
-- the text after it, or `None` if the text doesn't begin with such a field.
use Rattle.std.specs.Prelude.{ℕ, ◌+◌, ◌-◌, ◌^◌, ◌==◌, ◌&&◌, ◌||◌, Bool, false, nat_le, nat_lt, if◌then◌else◌, List, [], ◌∷◌, length, take, drop, codes, Option, Some, None, Result, Ok, Err}
use Rattle.std.specs.List.{list_all}
use Rattle.bm_base.specs.Range.{RangeView}
use Rattle.bm_base.specs.OptionSteps.{◌>>=◌}
use Rattle.bm_base.specs.Size.{begins_with_zero, number_of}
use Rattle.bm_base.specs.declared.size.NumFault.{NumFault}

-- if the text begins with `front`, the text after it, else `None`
unfoldable pub rest_after : List ℕ → List ℕ → Option (List ℕ)
rest_after [] text = Some text
rest_after (f ∷ fs) [] = None
rest_after (f ∷ fs) (b ∷ bs) = if f == b then rest_after fs bs else None

-- `Some tt` if the text is empty
abbrev pub is_at_end : List ℕ → Option (Unit {0})
is_at_end [] = Some tt
is_at_end (b ∷ bs) = None

-- the number that was read at the start of the text and the text after it, if the number is at
-- most `most`. The last argument is what reading gave: the number and how many bytes it has, or a
-- fault.
abbrev pub number_at_most : ℕ → List ℕ → Result (ℕ × ℕ) NumFault → Option (ℕ × List ℕ)
number_at_most most text (Ok (value, taken)) = if nat_le value most then Some (value, drop taken text) else None
number_at_most most text (Err fault) = None

-- the decimal number at the start of the text, and the text after it; the number is at most
-- `most`, and has no leading zeros
unfoldable pub number_in : ℕ → List ℕ → Option (ℕ × List ℕ)
number_in most text = if begins_with_zero text then Some (0, drop 1 text) else number_at_most most text (number_of text)

-- whether the byte is a lower-case hexadecimal digit
abbrev pub is_lower_hex : ℕ → Bool
is_lower_hex b = (nat_le 48 b && nat_le b 57) || (nat_le 97 b && nat_le b 102)

-- whether the argument is a text of exactly sixteen lower-case hexadecimal digits
abbrev pub are_sixteen_digits : Option (List ℕ) → Bool
are_sixteen_digits None = false
are_sixteen_digits (Some digits) = (length digits == 16) && list_all is_lower_hex digits

-- whether the text is `0x` and sixteen lower-case hexadecimal digits
abbrev pub is_address : List ℕ → Bool
is_address text = are_sixteen_digits (rest_after (codes "0x") text)

-- the number that was read, with the text `left` after it; `None` if reading gave a fault
abbrev pub read_value_and_rest : List ℕ → Result (ℕ × ℕ) NumFault → Option (ℕ × List ℕ)
read_value_and_rest left (Ok (value, taken)) = Some (value, left)
read_value_and_rest left (Err fault) = None

-- the address at the start of the text, and the text after it
unfoldable pub address_in : List ℕ → Option (ℕ × List ℕ)
address_in text = if is_address (take 18 text) then read_value_and_rest (drop 18 text) (number_of (take 18 text)) else None

-- the range with this first and this last byte, if the last byte is below 2^64 - 1 and not below
-- the first
abbrev pub range_from_bytes : ℕ → ℕ → Option RangeView
range_from_bytes first last =
    if nat_le first last && nat_lt last (2 ^ 64 - 1)
    then Some (record { base = first; size = last + 1 - first })
    else None

-- the range at the start of the text, and the text after it; a range is written as the addresses
-- of its first and its last byte, with `..` between them
unfoldable pub range_at_start : List ℕ → Option (RangeView × List ℕ)
range_at_start text = do
  first ← address_in text
  dots ← rest_after (codes "..") first.1
  last ← address_in dots
  range ← range_from_bytes first.0 last.0
  Some (range, last.1)
