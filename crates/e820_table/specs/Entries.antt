-- The entries of an E820 table as bytes (`struct boot_e820_entry`): an address (u64), a size (u64)
-- and a type (u32), little-endian, 20 bytes without padding.
use Rattle.std.specs.Prelude.{ℕ, zero, suc, ◌+◌, ◌*◌, ◌^◌, List, [], ◌∷◌, ◌++◌, drop, Bool, nat_le, if◌then◌else◌, Option, Some, None}
use Rattle.byteorder.specs.Endian.{little_number}
use Rattle.e820_model.specs.declared.entry.Entry.{Entry}

-- the little-endian number in `width` bytes at the offset
abbrev pub little_endian_at : ℕ → ℕ → List ℕ → ℕ
little_endian_at width offset bytes = little_number width (drop offset bytes)

-- the entry whose 20 bytes begin at the offset
unfoldable pub entry_at : ℕ → List ℕ → Entry
entry_at offset bytes = record {
  addr = little_endian_at 8 offset bytes;
  size = little_endian_at 8 (offset + 8) bytes;
  kind = little_endian_at 4 (offset + 16) bytes;
}

-- the entry with index `i`, counted from 0, of the table that begins at byte `start`; each entry
-- has 20 bytes
abbrev pub nth_entry : ℕ → ℕ → List ℕ → Entry
nth_entry start i bytes = entry_at (start + 20 * i) bytes

-- the first n entries of the table that begins at byte `start`
abbrev pub first_entries : ℕ → ℕ → List ℕ → List Entry
first_entries start zero bytes = []
first_entries start (suc n) bytes = first_entries start n bytes ++ nth_entry start n bytes ∷ []

-- whether the address plus the size of the entry exceeds 2^64 - 1
abbrev pub is_entry_too_far : Entry → Bool
is_entry_too_far e = nat_le (2 ^ 64) (e.addr + e.size)

-- the least index of an entry whose address plus size exceeds 2^64 - 1, among the n entries from
-- index `i` on; `None` if there is no such entry
abbrev pub far_entry_from : ℕ → ℕ → ℕ → List ℕ → Option ℕ
far_entry_from start i zero bytes = None
far_entry_from start i (suc n) bytes =
    if is_entry_too_far (nth_entry start i bytes) then Some i else far_entry_from start (i + 1) n bytes

-- the least index of an entry whose address plus size exceeds 2^64 - 1, among the first n entries
-- of the table that begins at byte `start`; `None` if there is no such entry
abbrev pub first_far_entry : ℕ → ℕ → List ℕ → Option ℕ
first_far_entry start n bytes = far_entry_from start 0 n bytes
