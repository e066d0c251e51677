-- The range of addresses of the kernel's image, from the value of `--kernel`.
use Rattle.std.specs.Prelude.{ℕ, if◌then◌else◌, List, Option, Some, None}
use Rattle.bm_base.specs.Range.{RangeView}
use Rattle.bm_base.specs.OptionSteps.{◌>>=◌}
use Rattle.bm_base.specs.declared.width.Width.{Width}
use Rattle.boot_model.specs.Kernel.{is_kernel}
use Rattle.program_args.specs.Range.{base_size_range}

-- the range if `--kernel` isn't given: 32 MiB from 16 MiB on (`CONFIG_PHYSICAL_START`)
abbrev pub default_kernel : RangeView
default_kernel = record { base = 0x1000000; size = 0x2000000 }

-- the range, if a kernel's image may lie there (`is_kernel`): it begins at or above 1 MiB, ends at
-- or below the limit of physical addresses, and consists of at least two whole frames
abbrev pub image_if_allowed : Width → RangeView → Option RangeView
image_if_allowed width image = if is_kernel width image then Some image else None

-- the range that `BASE,SIZE` gives, if a kernel's image may lie there (`is_kernel`)
abbrev pub kernel_range_in : Width → List ℕ → Option RangeView
kernel_range_in width text = base_size_range text >>= image_if_allowed width

-- the range of the kernel's image: the default if `--kernel` isn't given, `None` if its value isn't
-- a range in which the image may lie
abbrev pub kernel_range_of : Width → Option (List ℕ) → Option RangeView
kernel_range_of width None = Some default_kernel
kernel_range_of width (Some text) = kernel_range_in width text
