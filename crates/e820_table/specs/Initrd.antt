-- The initrd in the zero page: where the boot loader put it (`ramdisk_image`, `ramdisk_size`, and
-- their upper halves `ext_ramdisk_image` and `ext_ramdisk_size`), and the range that the kernel
-- reserves for it (`early_reserve_initrd`).
use Rattle.std.specs.Prelude.{◌≡◌, ℕ, ◌+◌, ◌-◌, ◌*◌, ◌%◌, ◌^◌, ◌<◌, ◌==◌, Bool, ◌&&◌, not, nat_lt, if◌then◌else◌, List, slice_index, Option, Some, None}
use Rattle.bm_base.specs.Range.{RangeView, end_of}
use Rattle.bm_base.specs.Frames.{frame_around}
use Rattle.bm_base.specs.declared.range.TheConstants.{FRAME_SIZE}
use Rattle.e820_table.specs.Entries.{little_endian_at}

-- the boot loader's type, the byte `type_of_loader` of the zero page; 0 if the loader has set none
abbrev pub loader_of : List ℕ → ℕ
loader_of bytes = slice_index bytes 0x210

-- the 64-bit number whose lower four bytes are at offset `lower`, and whose upper four bytes are
-- at `upper`
abbrev pub halves_at : ℕ → ℕ → List ℕ → ℕ
halves_at lower upper bytes = little_endian_at 4 lower bytes + 2 ^ 32 * little_endian_at 4 upper bytes

-- the range of the image: its address (`get_ramdisk_image`) and its size (`get_ramdisk_size`)
abbrev pub image_of : List ℕ → RangeView
image_of bytes = record { base = halves_at 0x218 0x0C0 bytes; size = halves_at 0x21C 0x0C4 bytes }

-- whether there is an initrd: the loader's type, the address and the size are all different from 0
abbrev pub has_initrd : ℕ → RangeView → Bool
has_initrd loader image = not (loader == 0) && not (image.base == 0) && not (image.size == 0)

-- the range from the first byte of the image to the end of the frame that has its last byte
abbrev pub to_frame_end : RangeView → RangeView
to_frame_end image = record { base = image.base; size = end_of (frame_around (end_of image - 1)) - image.base }

-- the range that is reserved for the initrd, or None if there is no initrd
abbrev pub reserved_initrd_range : ℕ → RangeView → Option RangeView
reserved_initrd_range loader image = if has_initrd loader image then Some (to_frame_end image) else None

-- the range that is reserved for the initrd of this zero page, or None if it has none
unfoldable pub initrd_of : List ℕ → Option RangeView
initrd_of bytes = reserved_initrd_range (loader_of bytes) (image_of bytes)

-- whether there is an initrd whose address plus size exceeds 2^64 - 4,096; rounding its end up to a
-- frame could then exceed 2^64 - 1
abbrev pub is_initrd_too_far : ℕ → RangeView → Bool
is_initrd_too_far loader image = has_initrd loader image && nat_lt (2 ^ 64 - FRAME_SIZE) (end_of image)

-- whether this zero page has an initrd whose address plus size exceeds 2^64 - 4,096
unfoldable pub is_initrd_far : List ℕ → Bool
is_initrd_far bytes = is_initrd_too_far (loader_of bytes) (image_of bytes)

-- what is true of the range of every initrd: it isn't empty, and ends at the end of a frame
pub record IsInitrd (r : RangeView) : Type 0 where
  pub some : 0 < r.size
  pub whole : end_of r % FRAME_SIZE ≡ 0
