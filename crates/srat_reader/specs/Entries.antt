-- The entries of the SRAT (ACPI, section 5.2.16), by their offset in the whole table. Numbers are
-- little-endian.
use Rattle.std.specs.Prelude.{ℕ, ◌+◌, ◌*◌, ◌^◌, ◌==◌, Bool, true, false, ◌&&◌, not, nat_le, nat_lt, bit_and, if◌then◌else◌, List, length, drop, slice_index}
use Rattle.byteorder.specs.Endian.{little_number}
use Rattle.srat_reader.specs.declared.entries.SratEntry.{SratEntry}
use Rattle.srat_reader.specs.declared.entries.SratEntry.TheVariants as said

-- the number in `width` bytes at the offset
abbrev pub number_at : ℕ → ℕ → List ℕ → ℕ
number_at width offset bytes = little_number width (drop offset bytes)

-- the revision of the table, a byte of its header
abbrev pub revision_of : List ℕ → ℕ
revision_of bytes = slice_index bytes 8

-- the type of the entry at offset `at`: its first byte (`struct acpi_subtable_header`)
abbrev pub entry_type_at : ℕ → List ℕ → ℕ
entry_type_at at bytes = slice_index bytes at

-- the length in bytes of the entry at offset `at`: its second byte
abbrev pub entry_length_at : ℕ → List ℕ → ℕ
entry_length_at at bytes = slice_index bytes (at + 1)

-- whether the length fits the type: entries of types 0, 1 and 2 have 16, 40 and 24 bytes, those of
-- other types any number (`struct acpi_srat_cpu_affinity`, `acpi_srat_mem_affinity`,
-- `acpi_srat_x2apic_cpu_affinity`)
abbrev pub fits_entry_type : ℕ → ℕ → Bool
fits_entry_type kind size =
    if kind == 0 then size == 16 else (if kind == 1 then size == 40 else (if kind == 2 then size == 24 else true))

-- whether there is a whole entry at offset `at`: its first two bytes are in the table; its length
-- is at least 2 and doesn't pass the end of the table; and it is 16, 40 or 24 bytes for types 0, 1
-- and 2
unfoldable pub is_whole_entry : ℕ → List ℕ → Bool
is_whole_entry at bytes =
    nat_le (at + 2) (length bytes) && (nat_le 2 (entry_length_at at bytes)
    && (nat_le (at + entry_length_at at bytes) (length bytes) && fits_entry_type (entry_type_at at bytes) (entry_length_at at bytes)))

-- whether bit 0 is set in the flags (u32) at the offset (`ACPI_SRAT_CPU_ENABLED`,
-- `ACPI_SRAT_MEM_ENABLED`)
abbrev pub has_enabled_flag : ℕ → List ℕ → Bool
has_enabled_flag offset bytes = not (bit_and (number_at 4 offset bytes) 1 == 0)

-- the domain of a local APIC entry: its byte 2 as bits 0 to 7. From revision 2 of the table on, its
-- bytes 9, 10 and 11 are bits 8 to 31 (`acpi_numa_processor_affinity_init`).
unfoldable pub local_apic_domain : ℕ → List ℕ → ℕ
local_apic_domain at bytes =
    if nat_lt (revision_of bytes) 2 then slice_index bytes (at + 2)
    else slice_index bytes (at + 2) + 2 ^ 8 * slice_index bytes (at + 9)
    + 2 ^ 16 * slice_index bytes (at + 10) + 2 ^ 24 * slice_index bytes (at + 11)

-- the domain of a memory entry: the u32 at its offset 2. Before revision 2 of the table, only the
-- lowest byte of it counts (`acpi_numa_memory_affinity_init`).
unfoldable pub memory_domain : ℕ → List ℕ → ℕ
memory_domain at bytes = if nat_lt (revision_of bytes) 2 then slice_index bytes (at + 2) else number_at 4 (at + 2) bytes

-- the domain of a local x2APIC entry: the u32 at its offset 4 (`acpi_numa_x2apic_affinity_init`)
abbrev pub x2apic_domain : ℕ → List ℕ → ℕ
x2apic_domain at bytes = number_at 4 (at + 4) bytes

-- what an entry says (the second argument) if it is enabled, else Nothing
abbrev pub entry_if_enabled : Bool → SratEntry → SratEntry
entry_if_enabled enabled what = if enabled then what else said.Nothing

-- what the memory entry at offset `at` says: its domain, its base (u64 at offset 8 of the entry)
-- and its size (u64 at offset 16)
abbrev pub memory_entry_at : ℕ → List ℕ → SratEntry
memory_entry_at at bytes = said.Block (memory_domain at bytes) (number_at 8 (at + 8) bytes) (number_at 8 (at + 16) bytes)

-- what the entry at offset `at` says: Nothing if its type isn't 0, 1 or 2, or if it isn't enabled
unfoldable pub srat_entry_at : ℕ → List ℕ → SratEntry
srat_entry_at at bytes =
    if entry_type_at at bytes == 0 then entry_if_enabled (has_enabled_flag (at + 4) bytes) (said.Processor (local_apic_domain at bytes))
    else
    (if entry_type_at at bytes == 1 then entry_if_enabled (has_enabled_flag (at + 28) bytes) (memory_entry_at at bytes) else
    (if entry_type_at at bytes == 2 then entry_if_enabled (has_enabled_flag (at + 12) bytes) (said.Processor (x2apic_domain at bytes)) else
    said.Nothing))

-- whether the entry says a range of memory whose base plus size exceeds 2^64 - 1
abbrev pub is_block_too_far : SratEntry → Bool
is_block_too_far said.Nothing = false
is_block_too_far (said.Processor domain) = false
is_block_too_far (said.Block domain base size) = nat_le (2 ^ 64) (base + size)
