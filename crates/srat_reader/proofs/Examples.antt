-- Worked examples of small tables.
use Rattle.std.proofs.Common.{Ok, Err, ◌≡◌, ℕ, true, false, List, [], ◌∷◌, ◌++◌, Some, None, refl}
use Rattle.std.specs.Prelude.{replicate, codes}
use Rattle.srat_reader.specs.declared.entries.SratEntry.TheVariants as said
use Rattle.srat_reader.specs.declared.table.SratFault.TheVariants as faults
use Rattle.srat_reader.specs.Entries.{fits_entry_type, is_whole_entry, has_enabled_flag, local_apic_domain, memory_domain, x2apic_domain, memory_entry_at, srat_entry_at, is_block_too_far}
use Rattle.srat_reader.specs.Table.{srat_header_fault, entry_offsets_from, entry_offsets, srat_fault_at, first_srat_fault, srat_fault, processors_of, srat_blocks_of, srat_of}

-- the header of a table with this length (below 256), revision and checksum byte
abbrev header : ℕ → ℕ → ℕ → List ℕ
header size revision check =
    codes "SRAT" ++ (size ∷ 0 ∷ 0 ∷ 0 ∷ revision ∷ check ∷ []) ++ replicate 38 0

-- the bytes of entries with these flags: a local APIC in domain 0x04030201, a local x2APIC in
-- domain 0x0c0d, and 0x1000 bytes of memory at 0x2000 in domain 0x0105
abbrev apic : ℕ → List ℕ
apic flags = 0 ∷ 16 ∷ 1 ∷ 9 ∷ flags ∷ 0 ∷ 0 ∷ 0 ∷ 7 ∷ 2 ∷ 3 ∷ 4 ∷ 0 ∷ 0 ∷ 0 ∷ 0 ∷ []

abbrev x2apic : ℕ → List ℕ
x2apic flags = 2 ∷ 24 ∷ 0 ∷ 0 ∷ 0x0D ∷ 0x0C ∷ 0 ∷ 0 ∷ 9 ∷ 9 ∷ 9 ∷ 9 ∷ flags ∷ 0 ∷ 0 ∷ 0 ∷ replicate 8 0

abbrev memory : ℕ → List ℕ
memory flags =
    1 ∷ 40 ∷ 5 ∷ 1 ∷ 0 ∷ 0 ∷ 0 ∷ 0 ∷
    0 ∷ 0x20 ∷ 0 ∷ 0 ∷ 0 ∷ 0 ∷ 0 ∷ 0 ∷ 0 ∷ 0x10 ∷ 0 ∷ 0 ∷ 0 ∷ 0 ∷ 0 ∷ 0 ∷
    0 ∷ 0 ∷ 0 ∷ 0 ∷ flags ∷ 0 ∷ 0 ∷ 0 ∷ replicate 8 0

-- entries of 0xFFF and of 0x1000 bytes of memory at 2^64 - 0x1000: one ends at 2^64 - 1, the other
-- exceeds that
abbrev last_memory : ℕ → ℕ → List ℕ
last_memory low high =
    1 ∷ 40 ∷ 0 ∷ 0 ∷ 0 ∷ 0 ∷ 0 ∷ 0 ∷
    0 ∷ 0xF0 ∷ 0xFF ∷ 0xFF ∷ 0xFF ∷ 0xFF ∷ 0xFF ∷ 0xFF ∷ low ∷ high ∷ 0 ∷ 0 ∷ 0 ∷ 0 ∷ 0 ∷ 0 ∷
    0 ∷ 0 ∷ 0 ∷ 0 ∷ 1 ∷ 0 ∷ 0 ∷ 0 ∷ replicate 8 0

-- an entry of type 0, 1 or 2 has the length of its type; one of another type may have any length
own_lengths : (fits_entry_type 0 16 ≡ true) × (fits_entry_type 1 16 ≡ false) × (fits_entry_type 2 24 ≡ true) × (fits_entry_type 3 5 ≡ true)
own_lengths = (refl, refl, refl, refl)

-- an entry isn't whole if only one byte of it is left, if its length is below 2 or passes the end,
-- or if its length doesn't fit its type. The last example is a whole entry at offset 1.
whole_entries : (is_whole_entry 0 (memory 1) ≡ true) × (is_whole_entry 0 (9 ∷ 2 ∷ []) ≡ true) × (is_whole_entry 0 (9 ∷ []) ≡ false)
    × (is_whole_entry 0 (9 ∷ 1 ∷ 0 ∷ []) ≡ false) × (is_whole_entry 0 (9 ∷ 4 ∷ 0 ∷ []) ≡ false) × (is_whole_entry 0 (1 ∷ 2 ∷ []) ≡ false)
    × (is_whole_entry 1 (7 ∷ apic 1) ≡ true)
unfolding is_whole_entry
whole_entries = (refl, refl, refl, refl, refl, refl, refl)

-- only bit 0 of the flags counts
lowest_bit : (has_enabled_flag 0 (1 ∷ 0 ∷ 0 ∷ 0 ∷ []) ≡ true) × (has_enabled_flag 0 (3 ∷ 0 ∷ 0 ∷ 0 ∷ []) ≡ true)
    × (has_enabled_flag 0 (0xFE ∷ 0xFF ∷ 0xFF ∷ 0xFF ∷ []) ≡ false) × (has_enabled_flag 0 (0 ∷ 1 ∷ 0 ∷ 0 ∷ []) ≡ false)
lowest_bit = (refl, refl, refl, refl)

-- before revision 2 only the lowest byte of a domain counts; the domain of an x2APIC always has 32
-- bits
domains_of_revision_1 : (local_apic_domain 48 (header 64 1 0 ++ apic 1) ≡ 1) × (memory_domain 48 (header 88 1 0 ++ memory 1) ≡ 5)
unfolding local_apic_domain memory_domain
domains_of_revision_1 = (refl, refl)

domains_of_revision_2 : (local_apic_domain 48 (header 64 2 0 ++ apic 1) ≡ 0x04030201)
    × (memory_domain 48 (header 88 2 0 ++ memory 1) ≡ 0x105)
unfolding local_apic_domain memory_domain
domains_of_revision_2 = (refl, refl)

x2apic_of_any_revision : (x2apic_domain 48 (header 72 1 0 ++ x2apic 1) ≡ 0x0C0D) × (x2apic_domain 0 (x2apic 0) ≡ 0x0C0D)
x2apic_of_any_revision = (refl, refl)

says_memory : (memory_entry_at 48 (header 88 3 0 ++ memory 0) ≡ said.Block 0x105 0x2000 0x1000)
    × (srat_entry_at 48 (header 88 3 0 ++ memory 1) ≡ said.Block 0x105 0x2000 0x1000)
unfolding srat_entry_at memory_domain
says_memory = (refl, refl)

says_nothing : (srat_entry_at 48 (header 88 3 0 ++ memory 2) ≡ said.Nothing)
    × (srat_entry_at 48 (header 50 3 0 ++ 9 ∷ 2 ∷ []) ≡ said.Nothing)
unfolding srat_entry_at
says_nothing = (refl, refl)

-- memory that ends at 2^64 - 1 isn't too far, and memory that ends at 2^64 is
far_memory : (is_block_too_far (said.Block 0 0xFFFFFFFFFFFFF000 0xFFF) ≡ false)
    × (is_block_too_far (said.Block 0 0xFFFFFFFFFFFFF000 0x1000) ≡ true)
    × (is_block_too_far (said.Processor 7) ≡ false)
    × (is_block_too_far said.Nothing ≡ false)
far_memory = (refl, refl, refl, refl)

-- the faults of the header, in their order: too few bytes, a wrong signature, a wrong length, a
-- wrong checksum; and a header without a fault
header_faults : (srat_header_fault [] ≡ Some faults.Short) × (srat_header_fault (replicate 47 0) ≡ Some faults.Short)
    × (srat_header_fault (replicate 48 0) ≡ Some faults.Signature) × (srat_header_fault (header 49 1 0) ≡ Some faults.Length)
    × (srat_header_fault (header 48 1 0x96) ≡ Some faults.Checksum) × (srat_header_fault (header 48 1 0x95) ≡ None)
header_faults = (refl, refl, refl, refl, refl, refl)

-- each entry begins where the one before it ends, and an entry that isn't whole is the last one
two_offsets : (entry_offsets (header 128 1 0 ++ x2apic 1 ++ (9 ∷ 16 ∷ replicate 14 0) ++ memory 1) ≡ 48 ∷ 72 ∷ 88 ∷ [])
    × (entry_offsets (header 92 1 0 ++ x2apic 1 ++ (9 ∷ 1 ∷ []) ++ apic 1) ≡ 48 ∷ 72 ∷ [])
unfolding entry_offsets_from is_whole_entry
two_offsets = (refl, refl)

-- the fault of one entry: one that isn't whole, one without a fault, and ranges of memory that end
-- at 2^64 and at 2^64 - 1
fault_of_one : (srat_fault_at (9 ∷ []) 0 ≡ Some (faults.EntryLength 0)) × (srat_fault_at (header 50 1 0 ++ 9 ∷ 2 ∷ []) 48 ≡ None)
    × (srat_fault_at (header 88 1 0 ++ last_memory 0 0x10) 48 ≡ Some (faults.BlockTooFar 48))
    × (srat_fault_at (header 88 1 0 ++ last_memory 0xFF 0x0F) 48 ≡ None)
unfolding is_whole_entry srat_entry_at memory_domain
fault_of_one = (refl, refl, refl, refl)

-- the first entry with a fault decides, whichever fault it has; without entries there is no fault
first_faults : (first_srat_fault (header 90 1 0 ++ last_memory 0 0x10 ++ 9 ∷ 1 ∷ []) (48 ∷ 88 ∷ []) ≡ Some (faults.BlockTooFar 48))
    × (first_srat_fault (header 90 1 0 ++ last_memory 0xFF 0x0F ++ 9 ∷ 1 ∷ []) (48 ∷ 88 ∷ []) ≡ Some (faults.EntryLength 88))
    × (first_srat_fault (header 48 1 0) [] ≡ None)
unfolding is_whole_entry srat_entry_at memory_domain
first_faults = (refl, refl, refl)

-- a table of 50 bytes whose entry states the length 0: a wrong checksum is reported before the
-- entry's fault
srat_faults : (srat_fault (header 50 1 0 ++ 1 ∷ 0 ∷ []) ≡ Some faults.Checksum)
    × (srat_fault (header 50 1 0x92 ++ 1 ∷ 0 ∷ []) ≡ Some (faults.EntryLength 48))
unfolding entry_offsets_from is_whole_entry
srat_faults = (refl, refl)

both_lists : (processors_of (header 144 2 0 ++ x2apic 1 ++ memory 1 ++ apic 1 ++ apic 0) ≡ 0x0C0D ∷ 0x04030201 ∷ [])
    × (srat_blocks_of (header 144 2 0 ++ x2apic 1 ++ memory 1 ++ apic 1 ++ apic 0)
    ≡ record { domain = 0x105; range = record { base = 0x2000; size = 0x1000 } } ∷ [])
unfolding entry_offsets_from is_whole_entry srat_entry_at local_apic_domain memory_domain
both_lists = (refl, refl)

-- the smallest table, a table with a processor, and a table whose entry isn't whole
srat_examples : (srat_of (header 48 1 0x95) ≡ Ok (record { processors = []; blocks = [] }))
    × (srat_of (header 72 1 0x25 ++ x2apic 1) ≡ Ok (record { processors = 0x0C0D ∷ []; blocks = [] }))
    × (srat_of (header 50 1 0x92 ++ 1 ∷ 0 ∷ []) ≡ Err (faults.EntryLength 48))
unfolding entry_offsets_from is_whole_entry srat_entry_at
srat_examples = (refl, refl, refl)
