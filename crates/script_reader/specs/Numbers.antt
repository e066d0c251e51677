-- The words of a line, and the numbers among them.
use Rattle.std.specs.Prelude.{◌≡◌, ◌⊎◌, ℕ, ◌+◌, ◌^◌, ◌==◌, nat_le, nat_lt, if◌then◌else◌, List, [], ◌∷◌, length, Option, Some, None, Result, Ok, Err}
use Rattle.std.specs.Int.{is_power_of_two}
use Rattle.std.specs.Str.{bytes_eq}
use Rattle.bm_base.specs.Range.{RangeView}
use Rattle.bm_base.specs.ResultSteps.{◌>>=◌}
use Rattle.bm_base.specs.Size.{size_of}
use Rattle.bm_base.specs.declared.size.NumFault.{NumFault}
use Rattle.script_reader.specs.declared.fault.ScriptLineFault.{ScriptLineFault}
use Rattle.script_reader.specs.declared.fault.ScriptLineFault.TheVariants as wrong

-- the words of a line, or of the rest of a line
abbrev pub Words : Type 0
Words = List (List ℕ)

-- the fault is `Form` or `Number`: the words form no command, or a word isn't a number within its
-- limit
abbrev pub IsWordFault : ScriptLineFault → Type 0
IsWordFault w = (w ≡ wrong.Form) ⊎ (w ≡ wrong.Number)

-- checks that there are no words
abbrev pub expect_no_words : Words → Result (Unit {0}) ScriptLineFault
expect_no_words [] = Ok tt
expect_no_words (w ∷ ws) = Err wrong.Form

-- the first word, and the words after it
abbrev pub first_word : Words → Result (List ℕ × Words) ScriptLineFault
first_word [] = Err wrong.Form
first_word (w ∷ ws) = Ok (w, ws)

-- the only word of a list
abbrev pub one_word : Words → Result (List ℕ) ScriptLineFault
one_word words = do
  first ← first_word words
  none ← expect_no_words first.1
  Ok first.0

-- the two words, if there are exactly two
abbrev pub two_words : Words → Result (List ℕ × List ℕ) ScriptLineFault
two_words words = do
  first ← first_word words
  second ← one_word first.1
  Ok (first.0, second)

-- the three words, if there are exactly three
abbrev pub three_words : Words → Result (List ℕ × List ℕ × List ℕ) ScriptLineFault
three_words words = do
  first ← first_word words
  others ← two_words first.1
  Ok (first.0, others.0, others.1)

-- if the words start with `key WORD`, WORD and the words after it; otherwise None, and the words
-- unchanged
abbrev pub word_after_key : List ℕ → Words → Option (List ℕ) × Words
word_after_key key [] = (None, [])
word_after_key key (w ∷ []) = (None, w ∷ [])
word_after_key key (w ∷ v ∷ ws) = if bytes_eq w key then (Some v, ws) else (None, w ∷ v ∷ ws)

-- the number that was read at the start of the word, if it takes the whole word
abbrev pub number_if_whole : List ℕ → Result (ℕ × ℕ) NumFault → Result ℕ ScriptLineFault
number_if_whole word (Ok found) = if found.1 == length word then Ok found.0 else Err wrong.Number
number_if_whole word (Err fault) = Err wrong.Number

-- the number that the whole word spells, as `memparse` reads it: with an optional suffix, such as K
-- for 2^10
abbrev pub number_in_word : List ℕ → Result ℕ ScriptLineFault
number_in_word word = number_if_whole word (size_of word)

-- the number, if it is at most `most`
abbrev pub number_if_within : ℕ → ℕ → Result ℕ ScriptLineFault
number_if_within most n = if nat_le n most then Ok n else Err wrong.Number

-- the number that the whole word spells, if it is at most `most`
abbrev pub number_within : ℕ → List ℕ → Result ℕ ScriptLineFault
number_within most word = do
  n ← number_in_word word
  number_if_within most n

-- the number that an optional word spells, if it is at most `most`; None without a word
abbrev pub optional_number : ℕ → Option (List ℕ) → Result (Option ℕ) ScriptLineFault
optional_number most None = Ok None
optional_number most (Some word) = do
  n ← number_within most word
  Ok (Some n)

-- the alignment, if it is a power of two
abbrev pub check_power_of_two : ℕ → Result ℕ ScriptLineFault
check_power_of_two n = if is_power_of_two n then Ok n else Err wrong.Align

-- the size, if it isn't 0
abbrev pub check_not_zero : ℕ → Result ℕ ScriptLineFault
check_not_zero n = if n == 0 then Err wrong.ZeroSize else Ok n

-- the range of `size` bytes from `base` on, if `base` plus `size` is at most 2^64 - 1
abbrev pub range_or_fault : ℕ → ℕ → Result RangeView ScriptLineFault
range_or_fault base size = if nat_lt (base + size) (2 ^ 64) then Ok (record { base = base; size = size }) else Err wrong.TooFar
