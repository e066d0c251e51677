-- The value of `mem=`, and one map option of `memmap=` (`parse_memopt` and `parse_memmap_one` of
-- arch/x86/kernel/e820.c). A definition gives None if its text is malformed.
use Rattle.std.specs.Prelude.{ℕ, ◌+◌, ◌-◌, ◌^◌, ◌==◌, nat_lt, if◌then◌else◌, Option, Some, None, List, [], ◌∷◌, drop, codes, Result, Ok, Err}
use Rattle.std.specs.Str.{bytes_eq}
use Rattle.bm_base.specs.Range.{RangeView}
use Rattle.bm_base.specs.OptionSteps.{◌>>=◌}
use Rattle.bm_base.specs.Size.{size_of, number_of}
use Rattle.bm_base.specs.declared.size.NumFault.{NumFault}
use Rattle.e820_model.specs.declared.entry.TheConstants.{E820_TYPE_RAM, E820_TYPE_RESERVED, E820_TYPE_ACPI, E820_TYPE_PRAM}
use Rattle.e820_model.specs.declared.entry.Edit.{Edit}
use Rattle.e820_model.specs.declared.entry.Edit.TheVariants.{Add, Remove, RemoveAll, Change}
use Rattle.boot_options.specs.declared.map_option.MapOption.{MapOption}
use Rattle.boot_options.specs.declared.map_option.MapOption.TheVariants.{ExactMap, Adding, Other}

-- the byte `@` after the size of a map option, which adds RAM
abbrev pub ram_mark : ℕ
ram_mark = 64

-- the byte `#` after the size of a map option, which adds ACPI data
abbrev pub acpi_mark : ℕ
acpi_mark = 35

-- the byte `$` after the size of a map option, which adds a reserved range
abbrev pub reserved_mark : ℕ
reserved_mark = 36

-- the byte `!` after the size of a map option, which adds persistent memory, by its older type
abbrev pub persistent_mark : ℕ
persistent_mark = 33

-- the byte `%` after the size of a map option, which removes or changes types
abbrev pub change_mark : ℕ
change_mark = 37

-- the byte `-`, before the type that a map option changes or removes
abbrev pub from_mark : ℕ
from_mark = 45

-- the byte `+`, before the new type
abbrev pub to_mark : ℕ
to_mark = 43

-- a number that was read at the start of a text, and the text after it
abbrev pub NumberAndRest : Type 0
NumberAndRest = ℕ × List ℕ

-- the number that was read at the start of the text, and the text after it; None if no number
-- could be read
abbrev pub number_and_rest : List ℕ → Result (ℕ × ℕ) NumFault → Option NumberAndRest
number_and_rest text (Ok found) = Some (found.0, drop found.1 text)
number_and_rest text (Err fault) = None

-- the size in bytes at the start of a text, and the text after it; None if no size is there
abbrev pub front_size : List ℕ → Option NumberAndRest
front_size text = number_and_rest text (size_of text)

-- the number at the start of a text, and the text after it, which begins with the suffix if there
-- is one; None if no number is there
abbrev pub front_number : List ℕ → Option NumberAndRest
front_number text = number_and_rest text (number_of text)

-- the second argument if the text, the rest after reading it, is empty; else None
abbrev pub value_if_at_end : {A : Type 0} → List ℕ → Option A → Option A
value_if_at_end [] read = read
value_if_at_end (b ∷ bs) read = None

-- the size in bytes that the whole text spells, or None if the text isn't a size
abbrev pub whole_size : List ℕ → Option ℕ
whole_size text = do
  front ← front_size text
  value_if_at_end front.1 (Some front.0)

-- the range of `size` bytes from `base` on, or None if base plus size exceeds 2^64 - 1
abbrev pub range_if_addressable : ℕ → ℕ → Option RangeView
range_if_addressable base size = if nat_lt (base + size) (2 ^ 64) then Some (record { base = base; size = size }) else None

-- the edit, or None if its range is empty
abbrev pub unless_empty : RangeView → Edit → Option Edit
unless_empty range edit = if nat_lt 0 range.size then Some edit else None

-- the range from the address up to 2^64 - 2, the highest address that a range can have
abbrev pub range_above : ℕ → RangeView
range_above size = record { base = size; size = 2 ^ 64 - 1 - size }

-- the edit that removes RAM from the address `size` on, or None if no range can begin there
abbrev pub ram_above : ℕ → Option Edit
ram_above size = unless_empty (range_above size) (Remove (range_above size) E820_TYPE_RAM)

-- the option `S@A`, `S#A`, `S$A` or `S!A`: it adds the range of type `kind` and of `size` bytes
-- from the address that `place` spells. If the range is empty, the option still counts as one that
-- adds a range, but has no edit.
abbrev pub adding_option : ℕ → ℕ → List ℕ → Option MapOption
adding_option kind size place = do
  base ← whole_size place
  range ← range_if_addressable base size
  Some (Adding (unless_empty range (Add range kind)))

-- the number and the rest of the text, if the number is a type: at most 2^32 - 1
abbrev pub type_if_fits : NumberAndRest → Option NumberAndRest
type_if_fits front = if nat_lt front.0 (2 ^ 32) then Some front else None

-- the number of a type after the mark at the start of the text, and the rest of the text; type 0
-- and the whole text if it doesn't begin with the mark; None if the number is malformed or exceeds
-- 2^32 - 1
abbrev pub kind_after_mark : ℕ → List ℕ → Option NumberAndRest
kind_after_mark mark [] = Some (0, [])
kind_after_mark mark (b ∷ bs) = if b == mark then front_number bs >>= type_if_fits else Some (0, b ∷ bs)

-- the option `S%A` or `S%A+t`, for its range. With `t` it adds this type, without (`to` is 0) it
-- removes all types.
abbrev pub retype_every_type : RangeView → ℕ → Option MapOption
retype_every_type range to =
    if to == 0 then Some (Other (unless_empty range (RemoveAll range))) else Some (Adding (unless_empty range (Add range to)))

-- the option `S%A-f` or `S%A-f+t`, for its range. Without `t` (`to` is 0) it removes the type `f`;
-- with `t` it changes `f` to `t`, and is malformed if they are equal.
abbrev pub retype_one_type : RangeView → ℕ → ℕ → Option MapOption
retype_one_type range from to =
    if to == 0 then Some (Other (unless_empty range (Remove range from))) else
    (if from == to then None else Some (Other (unless_empty range (Change range from to))))

-- the option `S%A-f+t`, for its range. The type `f` or `t` is 0 if the text doesn't give it.
abbrev pub retype_option : RangeView → ℕ → ℕ → Option MapOption
retype_option range from to = if from == 0 then retype_every_type range to else retype_one_type range from to

-- the option `S%A-f+t`, for the size S and the text after the `%`; `-f` and `+t` are optional
abbrev pub percent_map_option : ℕ → List ℕ → Option MapOption
percent_map_option size place = do
  base ← front_size place
  range ← range_if_addressable base.0 size
  from ← kind_after_mark from_mark base.1
  to ← kind_after_mark to_mark from.1
  value_if_at_end to.1 (retype_option range from.0 to.0)

-- the option for the size S and the text after it, by the mark with which the text begins; without
-- a mark, the option makes RAM end at `S`
abbrev pub map_option_by_mark : ℕ → List ℕ → Option MapOption
map_option_by_mark size [] = Some (Other (ram_above size))
map_option_by_mark size (mark ∷ place) =
    if mark == ram_mark then adding_option E820_TYPE_RAM size place else
    (if mark == acpi_mark then adding_option E820_TYPE_ACPI size place else
    (if mark == reserved_mark then adding_option E820_TYPE_RESERVED size place else
    (if mark == persistent_mark then adding_option E820_TYPE_PRAM size place else
    (if mark == change_mark then percent_map_option size place else None))))

-- the map option of a text that begins with a size
abbrev pub sized_map_option : List ℕ → Option MapOption
sized_map_option text = do
  size ← front_size text
  map_option_by_mark size.0 size.1

-- the map option that a text between the commas of `memmap=` spells; None if the text is malformed
abbrev pub map_option_of : List ℕ → Option MapOption
map_option_of text = if bytes_eq text (codes "exactmap") then Some ExactMap else sized_map_option text

-- the option of `mem=S`: it makes RAM end at `S`, which must be above 0
abbrev pub ram_up_to : ℕ → Option MapOption
ram_up_to size = if size == 0 then None else Some (Other (ram_above size))

-- the map option that a value of `mem=` spells; `nopentium` changes nothing. None if the value is
-- malformed.
abbrev pub mem_of : List ℕ → Option MapOption
mem_of text = if bytes_eq text (codes "nopentium") then Some (Other None) else whole_size text >>= ram_up_to
