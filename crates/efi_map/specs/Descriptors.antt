-- Descriptors of the memory map that UEFI firmware passes on (`EFI_MEMORY_DESCRIPTOR`; UEFI,
-- section 7.2.3, `GetMemoryMap`), and what the kernel makes of each (`do_add_efi_memmap` in
-- arch/x86/platform/efi/efi.c, and `efi_find_mirror`).
use Rattle.std.specs.Prelude.{ℕ, ◌+◌, ◌*◌, ◌^◌, ◌==◌, Bool, ◌||◌, not, nat_le, bit_and, if◌then◌else◌, List, drop, Option, None}
use Rattle.byteorder.specs.Endian.{little_number}
use Rattle.bm_base.specs.Range.{RangeView}
use Rattle.bm_base.specs.Frames.{frames_within}
use Rattle.e820_model.specs.declared.entry.Entry.{Entry}

-- a descriptor: its type, its first address, its number of pages of 4,096 bytes, and its
-- attributes
pub record Descriptor : Type 0 where
  pub kind : ℕ
  pub base : ℕ
  pub pages : ℕ
  pub attributes : ℕ

-- the descriptor at the offset, little-endian: `Type` (u32) at 0, `PhysicalStart` (u64) at 8,
-- `NumberOfPages` (u64) at 24, `Attribute` (u64) at 32. `VirtualStart` at 16 and the bytes from 40
-- on are ignored.
unfoldable pub descriptor_at : ℕ → List ℕ → Descriptor
descriptor_at offset bytes = record {
  kind = little_number 4 (drop offset bytes);
  base = little_number 8 (drop (offset + 8) bytes);
  pages = little_number 8 (drop (offset + 24) bytes);
  attributes = little_number 8 (drop (offset + 32) bytes);
}

-- the range of the memory that the descriptor describes
abbrev pub bytes_of_descriptor : Descriptor → RangeView
bytes_of_descriptor d = record { base = d.base; size = 4096 * d.pages }

-- whether the first address plus the size in bytes of the described memory exceeds 2^64 - 1
abbrev pub is_descriptor_too_far : Descriptor → Bool
is_descriptor_too_far d = nat_le (2 ^ 64) (d.base + 4096 * d.pages)

-- whether the bit is set in the descriptor's attributes
abbrev pub has_attribute : ℕ → Descriptor → Bool
has_attribute bit d = not (bit_and d.attributes bit == 0)

-- whether memory of this type is free once the firmware's boot services have ended: EfiLoaderCode,
-- EfiLoaderData, EfiBootServicesCode, EfiBootServicesData, EfiConventionalMemory
abbrev pub is_free_kind : ℕ → Bool
is_free_kind kind = (kind == 1) || (kind == 2) || (kind == 3) || (kind == 4) || (kind == 7)

-- the E820 type of memory that is free once boot services have ended: soft reserved with the
-- attribute EFI_MEMORY_SP, else RAM with EFI_MEMORY_WB, and reserved with neither
abbrev pub free_memory_type : Descriptor → ℕ
free_memory_type d = if has_attribute 0x40000 d then 0xEFFFFFFF else (if has_attribute 0x8 d then 1 else 2)

-- the E820 type of memory that isn't free once boot services have ended, by its EFI type.
-- EfiUnusableMemory is unusable, EfiACPIReclaimMemory ACPI data, EfiACPIMemoryNVS ACPI non-volatile
-- storage, and EfiPersistentMemory persistent memory. The rest is reserved: EfiReservedMemoryType,
-- EfiRuntimeServicesCode, EfiRuntimeServicesData, EfiMemoryMappedIO, EfiMemoryMappedIOPortSpace,
-- EfiPalCode, EfiUnacceptedMemoryType, and all types that a firmware may define.
abbrev pub other_memory_type : ℕ → ℕ
other_memory_type kind = if kind == 8 then 5 else (if kind == 9 then 3 else (if kind == 10 then 4 else (if kind == 14 then 7 else 2)))

-- the E820 type that the kernel gives the described memory (`do_add_efi_memmap`)
abbrev pub e820_type : Descriptor → ℕ
e820_type d = if is_free_kind d.kind then free_memory_type d else other_memory_type d.kind

-- the E820 entry that the kernel makes of the descriptor (`do_add_efi_memmap`)
abbrev pub entry_of_descriptor : Descriptor → Entry
entry_of_descriptor d = record { addr = d.base; size = 4096 * d.pages; kind = e820_type d }

-- the range of the whole frames of the described memory; None if the attribute
-- EFI_MEMORY_MORE_RELIABLE isn't set, or if there is no whole frame (`efi_find_mirror`)
abbrev pub mirror_of_descriptor : Descriptor → Option RangeView
mirror_of_descriptor d = if has_attribute 0x10000 d then frames_within (bytes_of_descriptor d) else None
