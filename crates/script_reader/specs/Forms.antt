-- The forms of a line: for each command, the words after its name, and the act (the command as
-- data) that they spell. If a line has several faults, the one that is tested first is reported.
-- Each definition tests in this order: whether the words have the form, all numbers, the alignment,
-- whether a size is 0, whether `sections` occurs twice, and whether a range ends past 2^64 - 1.
use Rattle.std.specs.Prelude.{ℕ, ◌+◌, ◌-◌, ◌^◌, ◌<◌, ◌≤◌, Bool, true, false, IsTrue, if◌then◌else◌, List, [], ◌∷◌, codes, Option, Some, None, unwrap_or, Result, Ok, Err}
use Rattle.std.specs.Int.{is_power_of_two}
use Rattle.std.specs.Str.{bytes_eq}
use Rattle.bm_base.specs.ResultSteps.{◌>>=◌}
use Rattle.script_reader.specs.declared.act.Act.{Act}
use Rattle.script_reader.specs.declared.act.Act.TheVariants as acts
use Rattle.script_reader.specs.declared.fault.ScriptLineFault.{ScriptLineFault}
use Rattle.script_reader.specs.declared.fault.ScriptLineFault.TheVariants as wrong
use Rattle.script_reader.specs.Numbers.{Words, expect_no_words, first_word, one_word, two_words, three_words, word_after_key, number_in_word, number_within, optional_number, check_power_of_two, check_not_zero, range_or_fault}

-- the largest ID
abbrev pub greatest_id : ℕ
greatest_id = 2 ^ 32 - 1

-- the largest number of a node
abbrev pub greatest_node : ℕ
greatest_node = 1023

-- the largest value of a byte
abbrev pub greatest_byte : ℕ
greatest_byte = 255

-- the largest length of a `peek`, in bytes
abbrev pub greatest_len : ℕ
greatest_len = 64

-- the largest u64
abbrev pub greatest_u64 : ℕ
greatest_u64 = 2 ^ 64 - 1

-- the words of the line `alloc ID SIZE ALIGN [min A] [max A] [node N [exact]]`, without `alloc` and
-- the keywords; `exact` is true if the line has that word
pub record AllocWords : Type 0 where
  pub id : List ℕ
  pub size : List ℕ
  pub align : List ℕ
  pub min : Option (List ℕ)
  pub max : Option (List ℕ)
  pub node : Option (List ℕ)
  pub exact : Bool

-- if the line names a node and the next word is `exact`, true and the words after it; otherwise
-- false and the words unchanged
abbrev pub optional_exact : Option (List ℕ) → Words → Bool × Words
optional_exact None words = (false, words)
optional_exact (Some node) [] = (false, [])
optional_exact (Some node) (w ∷ ws) = if bytes_eq w (codes "exact") then (true, ws) else (false, w ∷ ws)

-- the words after `alloc`, by their meaning; `Form` if they don't have the form of an `alloc` line.
-- Their numbers aren't read yet.
abbrev pub alloc_words : Words → Result AllocWords ScriptLineFault
alloc_words words = do
  id ← first_word words
  size ← first_word id.1
  align ← first_word size.1
  let min = word_after_key (codes "min") align.1
  let max = word_after_key (codes "max") min.1
  let node = word_after_key (codes "node") max.1
  let exact = optional_exact node.0 node.1
  none ← expect_no_words exact.1
  Ok (record { id = id.0; size = size.0; align = align.0; min = min.0; max = max.0; node = node.0; exact = exact.0 })

-- the act of the line `alloc ID SIZE ALIGN [min A] [max A] [node N [exact]]`, from the words after
-- `alloc`
abbrev pub alloc_line : Words → Result Act ScriptLineFault
alloc_line words = do
  said ← alloc_words words
  id ← number_within greatest_id said.id
  size ← number_in_word said.size
  align ← number_in_word said.align
  min ← optional_number greatest_u64 said.min
  max ← optional_number greatest_u64 said.max
  node ← optional_number greatest_node said.node
  aligned ← check_power_of_two align
  large ← check_not_zero size
  Ok (acts.Alloc id (record { size = large; align = aligned; min = unwrap_or min 0; max = max; node = node; exact = said.exact }))

-- the act of the line `reserve ID BASE SIZE`, from the words after `reserve`
abbrev pub reserve_line : Words → Result Act ScriptLineFault
reserve_line words = do
  said ← three_words words
  id ← number_within greatest_id said.0
  base ← number_in_word said.1
  size ← number_in_word said.2
  large ← check_not_zero size
  range ← range_or_fault base large
  Ok (acts.Reserve id range)

-- the act of the line `free ID`, from the words after `free`
abbrev pub free_line : Words → Result Act ScriptLineFault
free_line words = do
  said ← one_word words
  id ← number_within greatest_id said
  Ok (acts.Free id)

-- the act of the line `trim ID KEEP`, from the words after `trim`
abbrev pub trim_line : Words → Result Act ScriptLineFault
trim_line words = do
  said ← two_words words
  id ← number_within greatest_id said.0
  keep ← number_in_word said.1
  large ← check_not_zero keep
  Ok (acts.Trim id large)

-- the act of the line `fill ID BYTE`, from the words after `fill`
abbrev pub fill_line : Words → Result Act ScriptLineFault
fill_line words = do
  said ← two_words words
  id ← number_within greatest_id said.0
  byte ← number_within greatest_byte said.1
  Ok (acts.Fill id byte)

-- the act of the line `peek ADDR LEN`, from the words after `peek`
abbrev pub peek_line : Words → Result Act ScriptLineFault
peek_line words = do
  said ← two_words words
  at ← number_in_word said.0
  len ← number_within greatest_len said.1
  large ← check_not_zero len
  range ← range_or_fault at large
  Ok (acts.Peek range.base range.size)

-- the act of the line `sections`; a fault if words follow, or if an earlier line is `sections`
abbrev pub sections_line : Bool → Words → Result Act ScriptLineFault
sections_line seen words = do
  none ← expect_no_words words
  if seen then Err wrong.SecondSections else Ok acts.Sections

-- the act of a line, by its first word; `seen` is true if an earlier line is `sections`
abbrev pub act_by_name : Bool → List ℕ → Words → Result Act ScriptLineFault
act_by_name seen name words =
    if bytes_eq name (codes "alloc") then alloc_line words else
    (if bytes_eq name (codes "reserve") then reserve_line words else
    (if bytes_eq name (codes "free") then free_line words else
    (if bytes_eq name (codes "trim") then trim_line words else
    (if bytes_eq name (codes "fill") then fill_line words else
    (if bytes_eq name (codes "peek") then peek_line words else
    (if bytes_eq name (codes "sections") then sections_line seen words else Err wrong.Form))))))

-- what whoever runs the act can rely on: its sizes aren't 0, its alignment is a power of two, and a
-- `peek` is of at most 64 bytes that end at or below 2^64 - 1
abbrev pub HasBounds : Act → Type 0
HasBounds (acts.Alloc id request) = (0 < request.size) × IsTrue (is_power_of_two request.align)
HasBounds (acts.Reserve id range) = 0 < range.size
HasBounds (acts.Free id) = Unit {0}
HasBounds (acts.Trim id keep) = 0 < keep
HasBounds (acts.Fill id byte) = Unit {0}
HasBounds (acts.Peek at len) = (0 < len) × (len ≤ greatest_len) × (at + len < 2 ^ 64)
HasBounds acts.Sections = Unit {0}
