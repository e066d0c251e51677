-- Worked examples of small EFI maps: each type of memory with each attribute that counts, and each
-- fault.
use Rattle.std.proofs.Common.{◌≡◌, ℕ, ◌^◌, true, false, Some, None, Ok, Err, List, [], ◌∷◌, ◌++◌, replicate, refl}
use Rattle.efi_map.specs.Descriptors.{Descriptor, descriptor_at, is_descriptor_too_far, free_memory_type, other_memory_type, e820_type, mirror_of_descriptor}
use Rattle.efi_map.specs.Map.{descriptor_size, has_efi_header, has_efi_length, descriptor_count, nth_descriptor, descriptors_from, descriptors_of, far_descriptor_from, mirrors_of_descriptors, efi_of}
use Rattle.efi_map.specs.declared.efi.EfiFault.TheVariants as faults

abbrev page : ℕ → ℕ → Descriptor
page kind attributes = record { kind = kind; base = 0x300000; pages = 1; attributes = attributes }

free_types : (free_memory_type (page 7 0) ≡ 2) × (free_memory_type (page 7 0x8) ≡ 1) × (free_memory_type (page 7 0x40000) ≡ 0xEFFFFFFF)
    × (free_memory_type (page 7 0x40008) ≡ 0xEFFFFFFF)
free_types = (refl, refl, refl, refl)

-- the E820 types of all UEFI types in their order, with write-back caching: EfiReservedMemoryType
-- to EfiUnacceptedMemoryType, and one that a firmware defined
types : (e820_type (page 0 8) ≡ 2) × (e820_type (page 1 8) ≡ 1) × (e820_type (page 2 8) ≡ 1) × (e820_type (page 3 8) ≡ 1)
    × (e820_type (page 4 8) ≡ 1)
    × (e820_type (page 5 8) ≡ 2) × (e820_type (page 6 8) ≡ 2) × (e820_type (page 7 8) ≡ 1) × (e820_type (page 8 8) ≡ 5)
    × (e820_type (page 9 8) ≡ 3)
types = (refl, refl, refl, refl, refl, refl, refl, refl, refl, refl)

later_types : (e820_type (page 10 8) ≡ 4) × (e820_type (page 11 8) ≡ 2) × (e820_type (page 12 8) ≡ 2) × (e820_type (page 13 8) ≡ 2)
    × (e820_type (page 14 8) ≡ 7) × (e820_type (page 15 8) ≡ 2) × (e820_type (page 0xFFFFFFFF 8) ≡ 2) × (other_memory_type 16 ≡ 2)
later_types = (refl, refl, refl, refl, refl, refl, refl, refl)

-- attributes change nothing for types of memory that isn't free
purpose_of_acpi : (e820_type (page 9 0x40008) ≡ 3) × (e820_type (page 14 0) ≡ 7)
purpose_of_acpi = (refl, refl)

-- the mirrored range of a descriptor is its whole frames; there is none without a whole frame or
-- without the attribute
a_mirror : mirror_of_descriptor (page 7 0x10008) ≡ Some (record { base = 0x300000; size = 0x1000 })
a_mirror = refl

part_of_a_mirror : mirror_of_descriptor (record { kind = 7; base = 0x300800; pages = 2; attributes = 0x10000 })
    ≡ Some (record { base = 0x301000; size = 0x1000 })
part_of_a_mirror = refl

no_whole_frame : mirror_of_descriptor (record { kind = 7; base = 0x300800; pages = 1; attributes = 0x10000 }) ≡ None
no_whole_frame = refl

no_mirror : mirror_of_descriptor (page 7 0x8) ≡ None
no_mirror = refl

mirrors : mirrors_of_descriptors (page 7 0x8 ∷ (page 7 0x10008 ∷ (page 4 0x10000 ∷ []))) ≡ record { base = 0x300000; size = 0x1000 }
    ∷ (record { base = 0x300000; size = 0x1000 } ∷ [])
unfolding mirrors_of_descriptors
mirrors = refl

-- memory that ends at 2^64 - 4,096 isn't too far; memory that is one page longer is
ends : (is_descriptor_too_far (record { kind = 7; base = 0xFFFFFFFFFFFFE000; pages = 1; attributes = 0 }) ≡ false)
    × (is_descriptor_too_far (record { kind = 7; base = 0xFFFFFFFFFFFFE000; pages = 2; attributes = 0 }) ≡ true)
ends = (refl, refl)

far : Descriptor
far = record { kind = 7; base = 0; pages = 2 ^ 52; attributes = 0 }

-- if two descriptors are too far, the lesser index is found; without such a descriptor none is
least_far : (far_descriptor_from 0 (page 7 0 ∷ (far ∷ (far ∷ []))) ≡ Some 1) × (far_descriptor_from 0 (page 7 0 ∷ []) ≡ None)
unfolding far_descriptor_from far
least_far = (refl, refl)

-- a header: the size of a descriptor, and the version
abbrev header : ℕ → ℕ → List ℕ
header stride version = stride ∷ 0 ∷ 0 ∷ 0 ∷ version ∷ 0 ∷ 0 ∷ 0 ∷ []

header_examples : (has_efi_header (header 40 1) ≡ true) × (has_efi_header (header 48 1) ≡ true) × (has_efi_header (header 32 1) ≡ false)
    × (has_efi_header (header 44 1) ≡ false)
    × (has_efi_header (header 40 2) ≡ false) × (has_efi_header (40 ∷ 0 ∷ 0 ∷ 0 ∷ 1 ∷ 0 ∷ 0 ∷ []) ≡ false)
header_examples = (refl, refl, refl, refl, refl, refl)

-- a descriptor of 40 bytes: type 9, 16 pages from 2 MiB on, write-back caching
abbrev acpi : List ℕ
acpi = 9 ∷ 0 ∷ 0 ∷ 0 ∷ 0 ∷ 0 ∷ 0 ∷ 0 ∷ 0 ∷ 0 ∷ 0x20 ∷ 0 ∷ 0 ∷ 0 ∷ 0 ∷ 0 ∷ 0 ∷ 0 ∷ 0 ∷ 0 ∷ 0 ∷ 0 ∷ 0 ∷ 0
    ∷ 16 ∷ 0 ∷ 0 ∷ 0 ∷ 0 ∷ 0 ∷ 0 ∷ 0 ∷ 8 ∷ 0 ∷ 0 ∷ 0 ∷ 0 ∷ 0 ∷ 0 ∷ 0 ∷ []

a_descriptor : nth_descriptor 40 0 (header 40 1 ++ acpi) ≡ record { kind = 9; base = 0x200000; pages = 16; attributes = 8 }
unfolding descriptor_at
a_descriptor = refl

second_of_48 : nth_descriptor 48 1 (header 48 1 ++ acpi ++ replicate 8 255 ++ acpi)
    ≡ record { kind = 9; base = 0x200000; pages = 16; attributes = 8 }
unfolding descriptor_at
second_of_48 = refl

length_examples : (has_efi_length (header 40 1) ≡ true) × (has_efi_length (header 40 1 ++ acpi) ≡ true)
    × (has_efi_length (header 48 1 ++ acpi) ≡ false)
    × (descriptor_count (header 40 1 ++ acpi ++ acpi) ≡ 2) × (descriptor_size (header 48 1) ≡ 48)
length_examples = (refl, refl, refl, refl, refl)

all_of_two : descriptors_of (header 40 1 ++ acpi ++ acpi) ≡ nth_descriptor 40 0 (header 40 1 ++ acpi)
    ∷ (nth_descriptor 40 0 (header 40 1 ++ acpi) ∷ [])
unfolding descriptors_from descriptor_at
all_of_two = refl

-- a wrong header is reported before a wrong length; a map without descriptors is well-formed
faults_in_order : (efi_of [] ≡ Err faults.Header) × (efi_of (header 44 1 ++ acpi) ≡ Err faults.Header)
    × (efi_of (header 48 1 ++ acpi) ≡ Err faults.Length)
    × (efi_of (header 40 1) ≡ Ok (record { entries = []; mirrors = [] }))
unfolding descriptors_from far_descriptor_from mirrors_of_descriptors
faults_in_order = (refl, refl, refl, refl)

one_entry : efi_of (header 40 1 ++ acpi) ≡ Ok (record { entries = record { addr = 0x200000; size = 0x10000; kind = 3 } ∷ []; mirrors = [] })
unfolding descriptors_from descriptor_at far_descriptor_from mirrors_of_descriptors
one_entry = refl
