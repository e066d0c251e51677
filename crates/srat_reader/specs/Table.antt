-- The whole SRAT (`struct acpi_table_srat`): the first fault of its bytes, and the two lists that
-- its entries make up.
use Rattle.std.specs.Prelude.{ℕ, zero, suc, ◌+◌, ◌%◌, ◌==◌, not, nat_le, nat_lt, nat_eq, if◌then◌else◌, List, [], ◌∷◌, length, sum, codes, Option, Some, None, Result, Ok, Err}
use Rattle.std.specs.List.{filter_map, starts_with}
use Rattle.std.specs.Option.{option_or}
use Rattle.srat_reader.specs.declared.entries.SratEntry.{SratEntry}
use Rattle.srat_reader.specs.declared.entries.SratEntry.TheVariants as said
use Rattle.srat_reader.specs.declared.table.Srat.{Srat}
use Rattle.srat_reader.specs.declared.table.SratBlock.{SratBlock}
use Rattle.srat_reader.specs.declared.table.SratFault.{SratFault}
use Rattle.srat_reader.specs.declared.table.SratFault.TheVariants as faults
use Rattle.srat_reader.specs.Entries.{number_at, entry_length_at, is_whole_entry, is_block_too_far, srat_entry_at}

-- the first fault of the header. The tests are, in this order: at least 48 bytes; the signature
-- `SRAT`; the stated length (the u32 at offset 4) is the number of bytes; the bytes sum to 0
-- modulo 256 (`acpi_tb_verify_checksum`).
abbrev pub srat_header_fault : List ℕ → Option SratFault
srat_header_fault bytes =
    if nat_lt (length bytes) 48 then Some faults.Short
    else (if not (starts_with nat_eq bytes (codes "SRAT")) then Some faults.Signature
    else (if not (number_at 4 4 bytes == length bytes) then Some faults.Length
    else (if not (sum bytes % 256 == 0) then Some faults.Checksum else None)))

-- the offsets of the entries from offset `at` on. Each entry begins where the one before it ends
-- (`acpi_table_parse_entries_array`). The last offset is that of the first entry that isn't whole,
-- if there is one. The first parameter bounds the number of entries, so that the definition ends;
-- the number of bytes is always enough.
unfoldable pub entry_offsets_from : ℕ → ℕ → List ℕ → List ℕ
entry_offsets_from zero at bytes = []
entry_offsets_from (suc n) at bytes =
    if nat_le (length bytes) at then []
    else at ∷ (if is_whole_entry at bytes then entry_offsets_from n (at + entry_length_at at bytes) bytes else [])

-- the offsets of all entries; the first is 48
abbrev pub entry_offsets : List ℕ → List ℕ
entry_offsets bytes = entry_offsets_from (length bytes) 48 bytes

-- the fault of the entry at offset `at`, or None: EntryLength if the entry isn't whole, BlockTooFar
-- if it is an enabled range of memory whose base plus size exceeds 2^64 - 1
abbrev pub srat_fault_at : List ℕ → ℕ → Option SratFault
srat_fault_at bytes at =
    if not (is_whole_entry at bytes) then Some (faults.EntryLength at)
    else (if is_block_too_far (srat_entry_at at bytes) then Some (faults.BlockTooFar at) else None)

-- the first fault of the entries at these offsets
abbrev pub first_srat_fault : List ℕ → List ℕ → Option SratFault
first_srat_fault bytes [] = None
first_srat_fault bytes (at ∷ rest) = option_or (srat_fault_at bytes at) (first_srat_fault bytes rest)

-- the first fault of the bytes: the header is tested before the entries
abbrev pub srat_fault : List ℕ → Option SratFault
srat_fault bytes = option_or (srat_header_fault bytes) (first_srat_fault bytes (entry_offsets bytes))

-- the proximity domain of a processor's entry; None for other entries
abbrev pub processor_of : SratEntry → Option ℕ
processor_of said.Nothing = None
processor_of (said.Processor domain) = Some domain
processor_of (said.Block domain base size) = None

-- the range and the proximity domain of a memory entry; None for other entries
abbrev pub srat_block_of : SratEntry → Option SratBlock
srat_block_of said.Nothing = None
srat_block_of (said.Processor domain) = None
srat_block_of (said.Block domain base size) = Some (record { domain = domain; range = record { base = base; size = size } })

-- the proximity domain of the entry at offset `at` if it is an enabled processor, else None
abbrev pub processor_domain_at : List ℕ → ℕ → Option ℕ
processor_domain_at bytes at = processor_of (srat_entry_at at bytes)

-- the range and the proximity domain of the entry at offset `at` if it is enabled memory, else None
abbrev pub srat_block_at : List ℕ → ℕ → Option SratBlock
srat_block_at bytes at = srat_block_of (srat_entry_at at bytes)

-- the domains of the processors, in the order of the table
abbrev pub processors_of : List ℕ → List ℕ
processors_of bytes = filter_map (processor_domain_at bytes) (entry_offsets bytes)

-- the ranges of memory with their domains, in the order of the table
abbrev pub srat_blocks_of : List ℕ → List SratBlock
srat_blocks_of bytes = filter_map (srat_block_at bytes) (entry_offsets bytes)

-- the content of a table: the domains of the processors, and the ranges of memory
pub record SratView : Type 0 where
  pub processors : List ℕ
  pub blocks : List SratBlock

-- what contracts see of the code's `Srat`
abbrev pub srat_view : Srat → SratView
srat_view srat = record { processors = srat.cpus.items; blocks = srat.blocks.items }

-- the fault if there is one, else the two lists
abbrev pub srat_unless_fault : Option SratFault → SratView → Result SratView SratFault
srat_unless_fault None lists = Ok lists
srat_unless_fault (Some fault) lists = Err fault

-- the two lists of the table, or the first fault of its bytes
abbrev pub srat_of : List ℕ → Result SratView SratFault
srat_of bytes = srat_unless_fault (srat_fault bytes) (record { processors = processors_of bytes; blocks = srat_blocks_of bytes })
