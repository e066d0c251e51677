-- Worked examples of single entries, of the extension and of the zero page.
use Rattle.std.proofs.Common.{◌≡◌, ℕ, ◌-◌, true, false, List, [], ◌∷◌, ◌++◌, Some, None, refl}
use Rattle.std.specs.Prelude.{replicate}
use Rattle.e820_model.specs.declared.entry.Entry.{Entry}
use Rattle.e820_table.specs.declared.zero_page.ZeroFault.TheVariants as zero_faults
use Rattle.e820_table.specs.declared.extension.ExtFault.TheVariants as ext_faults
use Rattle.e820_table.specs.Entries.{entry_at, nth_entry, first_entries, is_entry_too_far, first_far_entry}
use Rattle.e820_table.specs.Extension.{has_ext_header, has_ext_length, ext_entries_of, ext_fault}
use Rattle.e820_table.specs.Initrd.{is_initrd_far}
use Rattle.e820_table.specs.ZeroPage.{zero_page_entry_count, table_offset, zero_page_entries, zero_fault}

-- the 20 bytes of an entry: 1 MiB of RAM at 1 MiB
abbrev ram_bytes : List ℕ
ram_bytes =
    0 ∷ 0 ∷ 0x10 ∷ 0 ∷ 0 ∷ 0 ∷ 0 ∷ 0 ∷
    0 ∷ 0 ∷ 0x10 ∷ 0 ∷ 0 ∷ 0 ∷ 0 ∷ 0 ∷
    1 ∷ 0 ∷ 0 ∷ 0 ∷ []

abbrev ram : Entry
ram = record { addr = 0x100000; size = 0x100000; kind = 1 }

-- the bytes of a reserved entry whose address plus size is 2^64 - 1, and of one for which it is
-- 2^64
abbrev last_bytes : List ℕ
last_bytes =
    0 ∷ 0x10 ∷ 0 ∷ 0 ∷ 0 ∷ 0 ∷ 0 ∷ 0 ∷
    0xFF ∷ 0xEF ∷ 0xFF ∷ 0xFF ∷ 0xFF ∷ 0xFF ∷ 0xFF ∷ 0xFF ∷
    2 ∷ 0 ∷ 0 ∷ 0 ∷ []

abbrev last : Entry
last = record { addr = 0x1000; size = 0xFFFFFFFFFFFFEFFF; kind = 2 }

abbrev far_bytes : List ℕ
far_bytes =
    0 ∷ 0x10 ∷ 0 ∷ 0 ∷ 0 ∷ 0 ∷ 0 ∷ 0 ∷
    0 ∷ 0xF0 ∷ 0xFF ∷ 0xFF ∷ 0xFF ∷ 0xFF ∷ 0xFF ∷ 0xFF ∷
    2 ∷ 0 ∷ 0 ∷ 0 ∷ []

-- an entry at offset 0, and one after two other bytes
entry_at_examples : (entry_at 0 ram_bytes ≡ ram) × (entry_at 2 (7 ∷ 7 ∷ last_bytes) ≡ last)
unfolding entry_at
entry_at_examples = (refl, refl)

-- entries are in the order of their bytes, and there are no more than requested: here two, and
-- none
first_entries_examples : (first_entries 0 2 (ram_bytes ++ last_bytes ++ far_bytes) ≡ ram ∷ last ∷ [])
    × (first_entries 0 0 (ram_bytes ++ last_bytes ++ far_bytes) ≡ [])
unfolding entry_at
first_entries_examples = (refl, refl)

-- an entry that ends at 2^64 - 1 isn't too far, and one that ends at 2^64 is
too_far_examples : (is_entry_too_far last ≡ false)
    × (is_entry_too_far (record { addr = 0x1000; size = 0xFFFFFFFFFFFFF000; kind = 2 }) ≡ true)
too_far_examples = (refl, refl)

-- if two entries are too far, the lesser index is found; if only the third is, none is found among
-- the first two
first_far_examples : (first_far_entry 0 3 (last_bytes ++ far_bytes ++ far_bytes) ≡ Some 1)
    × (first_far_entry 0 2 (ram_bytes ++ last_bytes ++ far_bytes) ≡ None)
unfolding entry_at
first_far_examples = (refl, refl)

-- the header of an extension: the next node's address, the type, and the length of the data. The
-- entries come after it.
abbrev header : ℕ → ℕ → List ℕ
header kind bytes = replicate 8 0xAA ++ (kind ∷ 0 ∷ 0 ∷ 0 ∷ bytes ∷ 0 ∷ 0 ∷ 0 ∷ [])

one_entry : ext_fault (header 1 20 ++ ram_bytes) ≡ None
unfolding entry_at
one_entry = refl

its_entry : ext_entries_of (header 1 20 ++ ram_bytes) ≡ ram ∷ []
unfolding entry_at
its_entry = refl

no_entries : (ext_fault (header 1 0) ≡ None) × (ext_entries_of (header 1 0) ≡ [])
no_entries = (refl, refl)

-- a fault of the header is reported before one of the length: 15 bytes, and another type
other_header : (has_ext_header (replicate 15 1) ≡ false) × (ext_fault (replicate 15 1) ≡ Some ext_faults.ExtHeader)
    × (has_ext_header (header 2 7) ≡ false) × (ext_fault (header 2 7) ≡ Some ext_faults.ExtHeader)
other_header = (refl, refl, refl, refl)

-- faults of the length: it isn't that of the data, or isn't a multiple of 20
other_length : (has_ext_length (header 1 20) ≡ false) × (ext_fault (header 1 20) ≡ Some ext_faults.ExtLength)
    × (ext_fault (header 1 19 ++ replicate 19 0) ≡ Some ext_faults.ExtLength)
other_length = (refl, refl, refl)

-- the second of three entries is the first that is too far
far_entry : ext_fault (header 1 60 ++ last_bytes ++ far_bytes ++ far_bytes) ≡ Some (ext_faults.EntryTooFar 1)
unfolding entry_at
far_entry = refl

-- a zero page that states `count` entries and has these bytes as its first two entries
abbrev page : ℕ → List ℕ → List ℕ
page count entries =
    replicate 0x1E8 0 ++ (count ∷ replicate (0x2D0 - 0x1E9) 0) ++ entries ++ replicate (4096 - 0x2D0 - 40) 0

-- the faults of a zero page, in their order: no fault with two entries; a length of 4,095, of
-- 4,097 and of 0 bytes; one entry and 129 entries, both reported before an entry that is too far;
-- and then the index of that entry
zero_fault_examples : (zero_fault (page 2 (ram_bytes ++ last_bytes)) ≡ None)
    × (zero_fault (replicate 4095 0) ≡ Some zero_faults.WrongLength) × (zero_fault (replicate 4097 0) ≡ Some zero_faults.WrongLength)
    × (zero_fault [] ≡ Some zero_faults.WrongLength) × (zero_fault (page 1 (far_bytes ++ far_bytes)) ≡ Some zero_faults.TooFew)
    × (zero_fault (page 129 (far_bytes ++ far_bytes)) ≡ Some zero_faults.TooMany)
    × (zero_fault (page 2 (ram_bytes ++ far_bytes)) ≡ Some (zero_faults.EntryTooFar 1))
unfolding entry_at is_initrd_far
zero_fault_examples = (refl, refl, refl, refl, refl, refl, refl)

-- entries are in the order of the table, and there are no more than the page states
entries_of_examples : (zero_page_entries (page 2 (ram_bytes ++ last_bytes)) ≡ ram ∷ last ∷ [])
    × (zero_page_entries (page 1 (ram_bytes ++ last_bytes)) ≡ nth_entry table_offset 0 (page 1 (ram_bytes ++ last_bytes)) ∷ [])
unfolding entry_at
entries_of_examples = (refl, refl)

stated_number : (zero_page_entry_count (page 200 (ram_bytes ++ last_bytes)) ≡ 200) × (table_offset ≡ 720)
stated_number = (refl, refl)
