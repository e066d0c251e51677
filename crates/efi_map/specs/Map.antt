-- The file of a saved EFI memory map: the size of a descriptor in bytes (u32), the version of
-- descriptors (u32), and the descriptors. The header is this project's own; `GetMemoryMap` returns
-- both numbers next to the map.
use Rattle.std.specs.Prelude.{ℕ, zero, suc, ◌+◌, ◌-◌, ◌*◌, ◌/◌, ◌%◌, ◌==◌, Bool, ◌&&◌, not, nat_le, if◌then◌else◌, List, [], ◌∷◌, map, length, drop, Option, Some, None, Result, Ok, Err}
use Rattle.byteorder.specs.Endian.{little_number}
use Rattle.bm_base.specs.Range.{RangeView}
use Rattle.e820_model.specs.declared.entry.Entry.{Entry}
use Rattle.efi_map.specs.Descriptors.{Descriptor, descriptor_at, is_descriptor_too_far, entry_of_descriptor, mirror_of_descriptor}
use Rattle.efi_map.specs.declared.efi.EfiFault.{EfiFault}
use Rattle.efi_map.specs.declared.efi.EfiFault.TheVariants as faults

-- the size of a descriptor in bytes, as the header states it
abbrev pub descriptor_size : List ℕ → ℕ
descriptor_size bytes = little_number 4 bytes

-- whether there are at least 8 bytes, the size of a descriptor is at least 40 and a multiple of 8,
-- and the version is 1
abbrev pub has_efi_header : List ℕ → Bool
has_efi_header bytes =
    nat_le 8 (length bytes)
    && (nat_le 40 (descriptor_size bytes) && (descriptor_size bytes % 8 == 0 && little_number 4 (drop 4 bytes) == 1))

-- whether the bytes after the header are a whole number of descriptors
abbrev pub has_efi_length : List ℕ → Bool
has_efi_length bytes = (length bytes - 8) % descriptor_size bytes == 0

-- the number of descriptors
abbrev pub descriptor_count : List ℕ → ℕ
descriptor_count bytes = (length bytes - 8) / descriptor_size bytes

-- the descriptor with index `i`, counted from 0; `stride` is the size of a descriptor in bytes
abbrev pub nth_descriptor : ℕ → ℕ → List ℕ → Descriptor
nth_descriptor stride i bytes = descriptor_at (8 + stride * i) bytes

-- the n descriptors of `stride` bytes each, from index `i` on
unfoldable pub descriptors_from : ℕ → ℕ → ℕ → List ℕ → List Descriptor
descriptors_from stride i zero bytes = []
descriptors_from stride i (suc n) bytes = nth_descriptor stride i bytes ∷ descriptors_from stride (i + 1) n bytes

-- all descriptors of the file
abbrev pub descriptors_of : List ℕ → List Descriptor
descriptors_of bytes = descriptors_from (descriptor_size bytes) 0 (descriptor_count bytes) bytes

-- the least index of a descriptor of the list whose address plus size exceeds 2^64 - 1, or None if
-- there is no such descriptor. The first descriptor of the list has the index `i`.
unfoldable pub far_descriptor_from : ℕ → List Descriptor → Option ℕ
far_descriptor_from i [] = None
far_descriptor_from i (d ∷ ds) = if is_descriptor_too_far d then Some i else far_descriptor_from (i + 1) ds

-- the list of ranges with the optional range put before it; the list itself if that is None
abbrev pub prepend_mirror : Option RangeView → List RangeView → List RangeView
prepend_mirror None others = others
prepend_mirror (Some range) others = range ∷ others

-- the mirrored ranges of a list of descriptors, in their order
unfoldable pub mirrors_of_descriptors : List Descriptor → List RangeView
mirrors_of_descriptors [] = []
mirrors_of_descriptors (d ∷ ds) = prepend_mirror (mirror_of_descriptor d) (mirrors_of_descriptors ds)

-- what the kernel makes of the map: an entry for each descriptor, and the mirrored ranges, both in
-- the order of the descriptors
pub record EfiContent : Type 0 where
  pub entries : List Entry
  pub mirrors : List RangeView

-- the fault `TooFar` with the index of the second argument; if that is None, what the kernel makes
-- of the descriptors
abbrev pub efi_unless_far : List Descriptor → Option ℕ → Result EfiContent EfiFault
efi_unless_far ds (Some index) = Err (faults.TooFar index)
efi_unless_far ds None = Ok (record { entries = map entry_of_descriptor ds; mirrors = mirrors_of_descriptors ds })

-- what the kernel makes of the map in the file, or the first fault of the file: the header is
-- tested first, then the length, then the descriptors from index 0 on
abbrev pub efi_of : List ℕ → Result EfiContent EfiFault
efi_of bytes =
    if not (has_efi_header bytes) then Err faults.Header
    else (if not (has_efi_length bytes) then Err faults.Length
    else efi_unless_far (descriptors_of bytes) (far_descriptor_from 0 (descriptors_of bytes)))
