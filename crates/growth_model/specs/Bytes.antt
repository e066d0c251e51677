-- The byte at each address, computed from what happened to memory. Both tables lie in the memory
-- that they describe. When a table moves, its old bytes become 0. A fill writes its byte to each
-- address of its range. Nothing else is written. This file also defines how a byte changes when
-- items are appended to the journal, whatever the byte was before.
use Rattle.std.specs.Prelude.{◌≡◌, ℕ, ◌+◌, ◌-◌, ◌≤◌, ◌==◌, Bool, false, ◌&&◌, ◌||◌, if◌then◌else◌, List, [], ◌∷◌, ◌++◌, drop, length, get_or}
use Rattle.bm_base.specs.Range.{RangeView, covers}
use Rattle.memblock_model.specs.declared.owner.Which.{Which}
use Rattle.memblock_model.specs.declared.owner.Which.TheVariants as which
use Rattle.memblock_model.specs.declared.item.Item.{Item}
use Rattle.memblock_model.specs.declared.item.Item.TheVariants as item
use Rattle.memblock_model.specs.Tables.{records_of, room_of, table_place, table_bytes}
use Rattle.memblock_ranges.specs.Encoding.{encode_table}
use Rattle.memblock_ranges.specs.Tables.{TableView, bytes_of}

-- the table that the items define: its records, its address and its room
abbrev pub table_from_items : Which → RangeView → List Item → TableView
table_from_items w kernel items = record { records = records_of w items; place = table_place w kernel items; room = room_of w items }

-- the byte at an address inside a table: a byte of its records, or 0 after them
abbrev pub table_byte_at : TableView → ℕ → ℕ
table_byte_at t x = get_or (encode_table t.records t.room) (x - t.place) 0

-- the byte at address `x`: that of the table that has the address, or `b` if neither table has it
abbrev pub byte_with_tables : TableView → TableView → ℕ → ℕ → ℕ
byte_with_tables memory reserved x b =
    if covers (bytes_of memory) x then table_byte_at memory x else (if covers (bytes_of reserved) x then table_byte_at reserved x else b)

-- `f` gives the byte at each address: at the addresses of each table it is the encoding of the
-- table's records
abbrev pub TablesAreEncoded : TableView → TableView → (ℕ → ℕ) → Type 0
TablesAreEncoded memory reserved f = (x : ℕ) → f x ≡ byte_with_tables memory reserved x (f x)

-- the byte at address `x` after the table has moved away: 0 if the table had the address, else `b`
abbrev pub byte_without_table : TableView → ℕ → ℕ → ℕ
byte_without_table t x b = if covers (bytes_of t) x then 0 else b

-- the byte at address `x` with the tables that the items define: the byte of a table, or `b`
-- outside both
abbrev pub byte_with_item_tables : RangeView → List Item → ℕ → ℕ → ℕ
byte_with_item_tables kernel items x b =
    byte_with_tables (table_from_items which.Memory kernel items) (table_from_items which.Reserved kernel items) x b

-- whether the item `i`, appended to `items`, moves a table away from address `x`
abbrev pub is_vacated_by : RangeView → List Item → Item → ℕ → Bool
is_vacated_by kernel items (item.Grown w place room) x = covers (table_bytes w kernel items) x
is_vacated_by kernel items i x = false

-- whether one of the items `is`, appended to `items` one by one, moves a table away from address
-- `x`
abbrev pub is_vacated : RangeView → List Item → List Item → ℕ → Bool
is_vacated kernel items [] x = false
is_vacated kernel items (i ∷ is) x = is_vacated_by kernel items i x || is_vacated kernel (items ++ i ∷ []) is x

-- the items that the longer list has after the shorter one
abbrev pub further_items : List Item → List Item → List Item
further_items items longer = drop (length items) longer

-- the byte at address `x` after the journal has grown from `items` to `longer`, if it was `b`
-- before. If a table now has the address, it is that table's byte. Otherwise it is 0 if a table
-- has moved away from the address, and else `b`.
unfoldable pub byte_after_items : RangeView → List Item → List Item → ℕ → ℕ → ℕ
byte_after_items kernel items longer x b =
    byte_with_item_tables kernel longer x (if is_vacated kernel items (further_items items longer) x then 0 else b)

-- a fill (a write of one byte value to each address of a range): its range, its byte, and the
-- number of items that the journal had when it was made
pub record Fill : Type 0 where
  pub range : RangeView
  pub byte : ℕ
  pub at : ℕ

-- the byte at address `x`, which was `b`, after a fill
abbrev pub byte_after_fill : Fill → ℕ → ℕ → ℕ
byte_after_fill f x b = if covers f.range x then f.byte else b

-- the byte at address `x`, which was `b`, after those of the fills that were made when the journal
-- had `n` items; they are applied in their order
abbrev pub byte_after_fills : ℕ → List Fill → ℕ → ℕ → ℕ
byte_after_fills n [] x b = b
byte_after_fills n (f ∷ fs) x b = byte_after_fills n fs x (if (f.at == n) && covers f.range x then f.byte else b)

-- the byte at address `x`, apart from what a table has there now, after the items of the second
-- list were appended to `items`, if it was `b` before. A table that moves away leaves 0. After each
-- appended item come the fills that were made before the next one.
abbrev pub byte_outside_tables : RangeView → List Fill → List Item → List Item → ℕ → ℕ → ℕ
byte_outside_tables kernel fills items [] x b = b
byte_outside_tables kernel fills items (i ∷ is) x b =
    byte_outside_tables kernel fills (items ++ i ∷ []) is x
    (byte_after_fills (length items + 1) fills x (if is_vacated_by kernel items i x then 0 else b))

-- the byte at an address: that of the table that has the address, else what the newest fill or
-- move wrote, else 0
unfoldable pub byte_from_history : RangeView → List Item → List Fill → ℕ → ℕ
byte_from_history kernel items fills x =
    byte_with_item_tables kernel items x (byte_outside_tables kernel fills [] items x (byte_after_fills 0 fills x 0))

-- each fill was made when the journal had at most `n` items
abbrev pub AreFillsUpTo : ℕ → List Fill → Type 0
AreFillsUpTo n [] = Unit {0}
AreFillsUpTo n (f ∷ fs) = (f.at ≤ n) × AreFillsUpTo n fs

-- the journal has grown from `items` to `longer`, and the bytes have changed from `f` to `g`: each
-- byte has changed only as the appended items say (`byte_after_items`)
pub record Follows (kernel : RangeView) (items longer : List Item) (f g : ℕ → ℕ) : Type 0 where
  pub more : List Item
  pub goes_on : longer ≡ items ++ more
  pub each : (x : ℕ) → g x ≡ byte_after_items kernel items longer x (f x)

-- the byte that `f` gives at each address is the one that the items and the fills define
-- (`byte_from_history`), and each fill was made when the journal had no more than these items
pub record AreBytesFromHistory (kernel : RangeView) (items : List Item) (fills : List Fill) (f : ℕ → ℕ) : Type 0 where
  pub made : AreFillsUpTo (length items) fills
  pub each : (x : ℕ) → f x ≡ byte_from_history kernel items fills x
