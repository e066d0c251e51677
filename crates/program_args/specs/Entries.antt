-- The value of `--make`: the number of entries of a generated e820 table, which replaces the zero
-- page.
use Rattle.std.specs.Prelude.{ℕ, ◌≤◌, Bool, ◌&&◌, nat_le, if◌then◌else◌, List, Option, Some, None}
use Rattle.std.specs.Char.{is_ascii_digit}
use Rattle.std.specs.List.{list_all}
use Rattle.std.specs.Option.{option_map}
use Rattle.std.specs.Str.Parse.{digits_value}

-- The number of entries of a generated table is at least 2, as in a zero page. It is at most 3000,
-- a bound of this project that leaves room in the kernel's table.
abbrev pub IsEntryCount : ℕ → Type 0
IsEntryCount count = (2 ≤ count) × (count ≤ 3000)

-- whether the number is 2 to 3000 (`IsEntryCount`)
abbrev pub is_entry_count : ℕ → Bool
is_entry_count count = nat_le 2 count && nat_le count 3000

-- whether all bytes are decimal digits; true for the empty text
abbrev pub are_digits : List ℕ → Bool
are_digits text = list_all is_ascii_digit text

-- the number that the decimal digits of the text give, if it is 2 to 3000
abbrev pub entry_count_in : List ℕ → Option ℕ
entry_count_in text =
    if are_digits text && is_entry_count (digits_value 10 text) then Some (digits_value 10 text) else None

-- the number of entries of the generated table: `Some None` if `--make` isn't given, `None` if its
-- value isn't a number from 2 to 3000
abbrev pub made_entry_count : Option (List ℕ) → Option (Option ℕ)
made_entry_count None = Some None
made_entry_count (Some text) = option_map (λ count. Some count) (entry_count_in text)
