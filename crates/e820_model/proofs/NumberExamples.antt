-- The numbers of the standards that definitions cite by their names.
use Rattle.std.proofs.Common.{◌≡◌, ◌+◌, ◌*◌, refl}
use Rattle.e820_model.specs.declared.entry.TheConstants.{E820_MAX_ENTRIES, E820_TYPE_RAM, E820_TYPE_RESERVED, E820_TYPE_ACPI, E820_TYPE_NVS, E820_TYPE_UNUSABLE, E820_TYPE_PMEM, E820_TYPE_PRAM, E820_TYPE_RESERVED_KERN, E820_TYPE_SOFT_RESERVED}

-- `enum e820_type` of arch/x86/include/asm/e820/types.h; 1 to 5 and 7 are ACPI's address range
-- types (its table 15.4)
type_numbers : (E820_TYPE_RAM ≡ 1) × (E820_TYPE_RESERVED ≡ 2) × (E820_TYPE_ACPI ≡ 3) × (E820_TYPE_NVS ≡ 4) × (E820_TYPE_UNUSABLE ≡ 5)
    × (E820_TYPE_PMEM ≡ 7) × (E820_TYPE_PRAM ≡ 12) × (E820_TYPE_RESERVED_KERN ≡ 128) × (E820_TYPE_SOFT_RESERVED ≡ 0xEFFFFFFF)
type_numbers = (refl, refl, refl, refl, refl, refl, refl, refl, refl)

-- `E820_MAX_ENTRIES`: 128 of the zero page (`E820_MAX_ENTRIES_ZEROPAGE`) and three for each of
-- 1,024 nodes
most_runs : E820_MAX_ENTRIES ≡ 128 + 3 * 1024
most_runs = refl
