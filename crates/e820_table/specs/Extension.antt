-- The E820 extension: a node of the `setup_data` list (`struct setup_data`: next, type, length)
-- with the type `SETUP_E820_EXT`. Its data are entries.
use Rattle.std.specs.Prelude.{ℕ, ◌-◌, ◌/◌, ◌%◌, ◌==◌, Bool, ◌&&◌, List, length, not, nat_lt, if◌then◌else◌, Option, Some, None}
use Rattle.e820_model.specs.declared.entry.Entry.{Entry}
use Rattle.e820_table.specs.declared.extension.ExtFault.{ExtFault}
use Rattle.e820_table.specs.declared.extension.ExtFault.TheVariants as faults
use Rattle.e820_table.specs.Entries.{little_endian_at, first_entries, first_far_entry}

-- the number of bytes after the header of 16 bytes
abbrev pub ext_data_length : List ℕ → ℕ
ext_data_length bytes = length bytes - 16

-- whether there are at least 16 bytes, and the type, the u32 at offset 8, is 1 (`SETUP_E820_EXT`)
abbrev pub has_ext_header : List ℕ → Bool
has_ext_header bytes = not (nat_lt (length bytes) 16) && little_endian_at 4 8 bytes == 1

-- whether the length that the header states (the u32 at offset 12) is the number of bytes after the
-- header, and a multiple of 20
abbrev pub has_ext_length : List ℕ → Bool
has_ext_length bytes = little_endian_at 4 12 bytes == ext_data_length bytes && ext_data_length bytes % 20 == 0

-- the number of entries in the extension
abbrev pub ext_count : List ℕ → ℕ
ext_count bytes = ext_data_length bytes / 20

-- all entries of the extension, in their order
abbrev pub ext_entries_of : List ℕ → List Entry
ext_entries_of bytes = first_entries 16 (ext_count bytes) bytes

-- the fault `EntryTooFar` with the index, or None if no index is given
abbrev pub ext_entry_fault : Option ℕ → Option ExtFault
ext_entry_fault None = None
ext_entry_fault (Some index) = Some (faults.EntryTooFar index)

-- the first fault of the bytes: the header is tested first, then the length, then the entries from
-- index 0 on
abbrev pub ext_fault : List ℕ → Option ExtFault
ext_fault bytes =
    if not (has_ext_header bytes) then Some faults.ExtHeader
    else (if not (has_ext_length bytes) then Some faults.ExtLength
    else ext_entry_fault (first_far_entry 16 (ext_count bytes) bytes))
