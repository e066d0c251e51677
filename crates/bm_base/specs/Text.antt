-- How reports print numbers.
use Rattle.std.specs.Prelude.{ℕ, ◌-◌, List, ◌++◌, length, replicate, codes, decimal, false}
use Rattle.std.specs.Fmt.{digits}

-- the digits of n in base 16, lower case, without leading zeros
abbrev pub hex_digits : ℕ → List ℕ
hex_digits n = digits 16 false n

-- the text of an address: `0x` and 16 hexadecimal digits (`%#018llx` in the kernel's log)
abbrev pub hex_text : ℕ → List ℕ
hex_text n = codes "0x" ++ replicate (16 - length (hex_digits n)) 48 ++ hex_digits n

-- the text of a decimal number, padded on the left with spaces to the width (`%*llu`)
abbrev pub padded_decimal : ℕ → ℕ → List ℕ
padded_decimal width n = replicate (width - length (decimal n)) 32 ++ decimal n
