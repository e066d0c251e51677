-- memblock's two tables, which lie in the memory that they describe: first one table, then both
-- together.
use Rattle.std.specs.Prelude.{◌≡◌, ℕ, ◌+◌, ◌*◌, ◌^◌, ◌<◌, ◌≤◌, Bool, true, false, if◌then◌else◌, Some, List, length, get_or, IsTrue}
use Rattle.bm_base.specs.Range.{RangeView, covers, Meet}
use Rattle.phys_store.specs.Bytes.{ExtentView, byte_of, is_prepared_at, ArePrepared, bytes_at}
use Rattle.address_runs.specs.Runs.{RunOf, AreRuns, value_at}
use Rattle.address_runs.specs.Edits.{IsEmptyFrom}
use Rattle.memblock_model.specs.Labels.{LabelView, plain_label}
use Rattle.memblock_model.specs.declared.owner.Which.{Which}
use Rattle.memblock_model.specs.declared.owner.Which.TheVariants as which
use Rattle.memblock_ranges.specs.Encoding.{IsRecord, decode_region, region_of, records_at, encode_table}
use Rattle.memblock_ranges.specs.declared.region.Head.{Head}

-- at address `place` the bytes `f` are a table with `room` slots, of which the first `count` hold
-- records (`struct memblock_type`). All bytes of the table are prepared, and those after the
-- records are 0.
pub record IsTable (f : ℕ → ℕ) (ready : ℕ → Bool) (place room count : ℕ) : Type 0 where
  pub few : count ≤ room
  pub fits : place + 24 * room < 2 ^ 64
  pub records : (i : ℕ) → i < count → IsRecord (bytes_at f (place + 24 * i) 24)
  pub zeros : (x : ℕ) → place + 24 * count ≤ x → x < place + 24 * room → f x ≡ 0
  pub prepared : (x : ℕ) → place ≤ x → x < place + 24 * room → IsTrue (ready x)

-- the bytes `f`, but with 0 for each byte of the table at `place` with `room` slots
abbrev pub bytes_outside_table : (ℕ → ℕ) → ℕ → ℕ → ℕ → ℕ
bytes_outside_table f place room x = if covers (record { base = place; size = 24 * room }) x then 0 else f x

-- what an edit of a table's records keeps: its address and room, the bytes outside it, and which
-- addresses are prepared
pub record PartKeptByEdits : Type 0 where
  pub place : ℕ
  pub room : ℕ
  pub others : ℕ → ℕ
  pub ready : ℕ → Bool

-- the part of the store that an edit of the table of head `h` keeps
abbrev pub part_kept_by_edits : List ExtentView → Head → PartKeptByEdits
part_kept_by_edits s h =
    record { place = h.place; room = h.room; others = bytes_outside_table (byte_of s) h.place h.room; ready = is_prepared_at s }

-- the records, as runs, of the table in the store that the head describes
abbrev pub records_of_head : List ExtentView → Head → List (RunOf LabelView)
records_of_head s h = records_at (byte_of s) h.place h.count

-- the store has a valid table at the head's address, with the head's room and count
abbrev pub HasTable : List ExtentView → Head → Type 0
HasTable s h = IsTable (byte_of s) (is_prepared_at s) h.place h.room h.count

-- the records are in ascending order, none is empty, no two that touch have the same label, and
-- none ends past 2^64
pub record AreRecords (rs : List (RunOf LabelView)) : Type 0 where
  pub runs : AreRuns rs
  pub within : IsEmptyFrom (2 ^ 64) (value_at rs)

-- a table as contracts see it: its records as runs, its address, and the number of records that it
-- has room for
pub record TableView : Type 0 where
  pub records : List (RunOf LabelView)
  pub place : ℕ
  pub room : ℕ

-- both tables, and the store that has their bytes
pub record TablesView : Type 0 where
  pub memory : TableView
  pub reserved : TableView
  pub store : List ExtentView

abbrev pub table_in : Which → TablesView → TableView
table_in which.Memory t = t.memory
table_in which.Reserved t = t.reserved

abbrev pub other_table_in : Which → TablesView → TableView
other_table_in which.Memory t = t.reserved
other_table_in which.Reserved t = t.memory

abbrev pub records_in : Which → TablesView → List (RunOf LabelView)
records_in w t = (table_in w t).records

abbrev pub place_in : Which → TablesView → ℕ
place_in w t = (table_in w t).place

abbrev pub room_in : Which → TablesView → ℕ
room_in w t = (table_in w t).room

-- the range of the bytes of a table: 24 bytes for each record that it has room for
abbrev pub bytes_of : TableView → RangeView
bytes_of t = record { base = t.place; size = 24 * t.room }

abbrev pub table_range_in : Which → TablesView → RangeView
table_range_in w t = bytes_of (table_in w t)

-- some address of the range belongs to the array of a table
abbrev pub OverlapsTable : TablesView → RangeView → Type 0
OverlapsTable t r = (w : Which) × Meet (table_range_in w t) r

-- the head of a table: its address, its room and its number of records
abbrev pub head_of : TableView → Head
head_of t = record { place = t.place; room = t.room; count = length t.records }

-- The table is in the store. Its records are in order and fit, and each can be read from its 24
-- bytes. All bytes of the table are prepared: those of its records, then zeros.
pub record IsInStore (t : TableView) (store : List ExtentView) : Type 0 where
  pub few : length t.records ≤ t.room
  pub fits : t.place + 24 * t.room < 2 ^ 64
  pub records : AreRecords t.records
  pub bytes : bytes_at (byte_of store) t.place (24 * t.room) ≡ encode_table t.records t.room
  pub regions : (i : ℕ) (r : RunOf LabelView) → i < length t.records →
      decode_region (bytes_at (byte_of store) (t.place + 24 * i) 24) ≡ region_of (get_or t.records i r)
  pub prepared : ArePrepared store t.place (24 * t.room)

-- a record that is added to this table may have this node field: at most 1,024 for the memory
-- table, and only 1,024 (no node) for the reserved table (`memblock_add_range` with `MAX_NUMNODES`)
abbrev pub MayBeNodeField : Which → ℕ → Type 0
MayBeNodeField which.Memory node = node ≤ 1024
MayBeNodeField which.Reserved node = node ≡ 1024

-- no record has a node, and none is mirrored
abbrev pub ArePlainRecords : List (RunOf LabelView) → Type 0
ArePlainRecords rs = (x : ℕ) (label : LabelView) → value_at rs x ≡ Some label → label ≡ plain_label

-- the table that a head describes, as contracts see it
abbrev pub table_of_head : List ExtentView → Head → TableView
table_of_head s h = record { records = records_of_head s h; place = h.place; room = h.room }

-- the range of the array of the table that a head describes
abbrev pub bytes_of_head : Head → RangeView
bytes_of_head h = record { base = h.place; size = 24 * h.room }

-- two valid tables in one store: the records of both are in order, the tables have no byte in
-- common, and no record of the reserved table has a node or is mirrored
pub record AreTables (s : List ExtentView) (m r : Head) : Type 0 where
  pub memory : HasTable s m
  pub reserved : HasTable s r
  pub apart : ¬ Meet (bytes_of_head m) (bytes_of_head r)
  pub memory_records : AreRecords (records_of_head s m)
  pub reserved_records : AreRecords (records_of_head s r)
  pub plain : ArePlainRecords (records_of_head s r)

-- the table moves to `place` and has twice the room; its old bytes are 0, and nothing else changes.
-- `s` and `g` are the store and the head before the move, `t` and `h` those after it.
pub record MovesTable (s t : List ExtentView) (g h : Head) (place : ℕ) : Type 0 where
  pub list_is : records_of_head t h ≡ records_of_head s g
  pub table : HasTable t h
  pub place_is : h.place ≡ place
  pub room_is : h.room ≡ 2 * g.room
  pub left : (x : ℕ) → covers (bytes_of_head g) x ≡ true → byte_of t x ≡ 0
  pub elsewhere : (x : ℕ) → covers (bytes_of_head h) x ≡ false → covers (bytes_of_head g) x ≡ false → byte_of t x ≡ byte_of s x
  pub ready : (x : ℕ) → is_prepared_at t x ≡ is_prepared_at s x
