-- Walks over the records of a table: how many records lie below an address, and how far the
-- addresses next to it have one label.
use Rattle.std.specs.Prelude.{◌≡◌, ◌≢◌, ℕ, ◌-◌, ◌^◌, ◌<◌, ◌≤◌, is_none, if◌then◌else◌, Option, None, List, length, get_or}
use Rattle.address_runs.specs.Runs.{RunOf, run_end, value_at, AreRuns}
use Rattle.address_runs.specs.Edits.{IsEmptyFrom}
use Rattle.address_runs.specs.Sweep.{HasValueBetween}
use Rattle.memblock_model.specs.Labels.{LabelView, plain_label}
use Rattle.memblock_find.specs.Unclaimed.{IsStretchWithBottom}
use Rattle.memblock_find.specs.declared.cursor.Look.{Look}
use Rattle.memblock_find.specs.declared.cursor.Cursor.{Cursor}

-- the record at index i
abbrev pub nth_record : List (RunOf LabelView) → ℕ → RunOf LabelView
nth_record rs i = get_or rs i (record { base = 0; size = 0; value = plain_label })

-- the records `rs` are in order, and none but the first `count` of them begins below address `at`
pub record OnlyFirstMayBegin (at : ℕ) (rs : List (RunOf LabelView)) (count : ℕ) : Type 0 where
  pub runs : AreRuns rs
  pub within : count ≤ length rs
  pub after : (i : ℕ) → count ≤ i → i < length rs → at ≤ (nth_record rs i).base

-- the records `rs` are in order, and exactly the first `count` of them begin below address `at`
pub record ExactlyFirstBeginBelow (at : ℕ) (rs : List (RunOf LabelView)) (count : ℕ) : Type 0 where
  pub runs : AreRuns rs
  pub within : count ≤ length rs
  pub before : (i : ℕ) → i < count → (nth_record rs i).base < at
  pub after : (i : ℕ) → count ≤ i → i < length rs → at ≤ (nth_record rs i).base

-- the records `rs` are in order, and exactly the first `count` of them end at or below address
-- `at`
pub record ExactlyFirstEndAtOrBelow (at : ℕ) (rs : List (RunOf LabelView)) (count : ℕ) : Type 0 where
  pub runs : AreRuns rs
  pub within : count ≤ length rs
  pub before : (i : ℕ) → i < count → run_end (nth_record rs i) ≤ at
  pub after : (i : ℕ) → count ≤ i → i < length rs → at < run_end (nth_record rs i)

-- `look` says what the records give the addresses right below `at`. All addresses from its bound to
-- just below `at` have its label, and the address right below the bound has another. Its slot is
-- the number of records that begin below the bound.
pub record IsLookDown (rs : List (RunOf LabelView)) (at : ℕ) (look : Look) : Type 0 where
  pub down : IsStretchWithBottom (value_at rs) look.bound at look.label
  pub next : ExactlyFirstBeginBelow look.bound rs look.slot
  pub order : look.bound ≤ at
  pub below : 0 < at → look.bound < at

-- `look` says what the records give the addresses from `at` on. All addresses from `at` to just
-- below its bound have its label. The address at the bound has another, unless no record follows:
-- then the bound is 2^64 - 1. Its slot is the number of records that end at or below the bound.
pub record IsLookUp (rs : List (RunOf LabelView)) (at : ℕ) (look : Look) : Type 0 where
  pub stays : HasValueBetween (value_at rs) at look.bound look.label
  pub another : look.label ≢ None → value_at rs look.bound ≢ look.label
  pub other : look.bound < 2 ^ 64 - 1 → value_at rs look.bound ≢ look.label
  pub next : ExactlyFirstEndAtOrBelow look.bound rs look.slot
  pub small : look.bound < 2 ^ 64
  pub order : at ≤ look.bound
  pub ahead : at < 2 ^ 64 - 1 → at < look.bound
  pub left : at ≡ look.bound → IsEmptyFrom at (value_at rs)

-- the label of the addresses next to the cursor if they are unclaimed memory, else None
abbrev pub unclaimed_label : Cursor → Option LabelView
unclaimed_label c = if is_none c.reserved.label then c.memory.label else None

-- the cursor is a position of a walk down: its two looks say what the memory table (`records`) and
-- the reserved table (`claims`) give the addresses right below the cursor
pub record IsWalkDownAt (records claims : List (RunOf LabelView)) (c : Cursor) : Type 0 where
  pub memory : IsLookDown records c.at c.memory
  pub reserved : IsLookDown claims c.at c.reserved

-- the cursor is a position of a walk up: its two looks say what the memory table (`records`) and
-- the reserved table (`claims`) give the addresses from the cursor on
pub record IsWalkUpAt (records claims : List (RunOf LabelView)) (c : Cursor) : Type 0 where
  pub memory : IsLookUp records c.at c.memory
  pub reserved : IsLookUp claims c.at c.reserved
