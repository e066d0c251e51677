-- The place of the kernel's image, from its text to the end of its bss (`_text` to
-- `__end_of_kernel_reserve`).
use Rattle.std.specs.Prelude.{◌≡◌, ◌*◌, ◌%◌, ◌≤◌, ◌==◌, Bool, ◌&&◌, nat_le}
use Rattle.bm_base.specs.Range.{RangeView, end_of}
use Rattle.bm_base.specs.declared.range.TheConstants.{FRAME_SIZE}
use Rattle.bm_base.specs.Width.{address_limit_of}
use Rattle.bm_base.specs.declared.width.Width.{Width}

-- The image begins at or above 1 MiB, since real mode keeps the memory below. It is whole frames,
-- at least two, since memblock's two tables lie in its last two frames. It ends at or below the
-- limit of physical addresses. These bounds are this project's own, since the boot protocol leaves
-- the place to the loader.
pub record IsKernel (width : Width) (image : RangeView) : Type 0 where
  pub above : 0x100000 ≤ image.base
  pub long : 2 * FRAME_SIZE ≤ image.size
  pub at_frame : image.base % FRAME_SIZE ≡ 0
  pub of_frames : image.size % FRAME_SIZE ≡ 0
  pub in_reach : end_of image ≤ address_limit_of width

-- tests whether an image meets the bounds of `IsKernel`
abbrev pub is_kernel : Width → RangeView → Bool
is_kernel width image =
    nat_le 0x100000 image.base && nat_le (2 * FRAME_SIZE) image.size && (image.base % FRAME_SIZE == 0) && (image.size % FRAME_SIZE == 0)
    && nat_le (end_of image) (address_limit_of width)
