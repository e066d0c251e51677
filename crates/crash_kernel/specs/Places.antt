-- Where the crash area and its low part may lie (`reserve_crashkernel`,
-- `reserve_crashkernel_low`). All sizes and addresses are in bytes.
use Rattle.std.specs.Prelude.{ℕ, ◌+◌, ◌%◌, ◌^◌, ◌==◌, Bool, false, ◌&&◌, nat_le, nat_lt, if◌then◌else◌, Option, Some, None, List, unwrap_or}
use Rattle.std.specs.Option.{option_map, option_or}
use Rattle.bm_base.specs.Range.{RangeView}
use Rattle.memblock_model.specs.declared.query.Query.{Query}
use Rattle.memblock_model.specs.declared.item.Item.{Item}
use Rattle.memblock_model.specs.Search.{best_place, fits}
use Rattle.boot_options.specs.Crash.{CrashOptionView}
use Rattle.crash_kernel.specs.declared.request.Placement.{Placement}
use Rattle.crash_kernel.specs.declared.request.Placement.TheVariants as placement
use Rattle.crash_kernel.specs.declared.crash.Crash.{Crash}
use Rattle.crash_kernel.specs.declared.crash.Crash.TheVariants as crash

-- the search for `size` bytes between the addresses `lo` and `hi`, at a multiple of `align`, on any
-- node
abbrev pub area_query : ℕ → ℕ → ℕ → ℕ → Query
area_query size align lo hi = record { lo = lo; hi = hi; size = size; align = align; node = None }

-- the free range of `size` bytes that memblock picks between the addresses `lo` and `hi`, at a
-- multiple of 16 MiB (`CRASH_ALIGN`); none if no free range fits
abbrev pub best_range : ℕ → ℕ → ℕ → List Item → Option RangeView
best_range size lo hi items = option_map (λ base. record { base = base; size = size }) (best_place items (area_query size 0x1000000 lo hi))

-- the range of `size` bytes at the requested base, if the base is a multiple of 1 MiB (`SZ_1M`),
-- the range ends below 2^64, and it is free memory of one node
abbrev pub fixed_range : ℕ → ℕ → List Item → Option RangeView
fixed_range base size items =
    if (base % 0x100000 == 0) && nat_lt (base + size) (2 ^ 64) && fits items (area_query size 1 base (base + size)) false base
    then Some (record { base = base; size = size }) else None

-- the free range that memblock picks between 16 MiB and 64 TiB (`CRASH_ADDR_HIGH_MAX`)
abbrev pub high_range : ℕ → List Item → Option RangeView
high_range size items = best_range size 0x1000000 (2 ^ 46) items

-- The range for the crash area. If a base is requested, it is the range at that base. Otherwise it
-- is the free range that memblock picks; without `,high` a range below 4 GiB (`CRASH_ADDR_LOW_MAX`)
-- is searched for first. It is none if no free range fits.
unfoldable pub main_range : ℕ → Placement → List Item → Option RangeView
main_range size (placement.Fixed base) items = fixed_range base size items
main_range size placement.Automatic items = option_or (best_range size 0x1000000 (2 ^ 32) items) (high_range size items)
main_range size placement.High items = high_range size items

-- the outcome if no range was found for an area with this placement
abbrev pub search_failure : Placement → Crash
search_failure (placement.Fixed base) = crash.InUse
search_failure placement.Automatic = crash.NoArea
search_failure placement.High = crash.NoArea

-- the size of the low part: that of `SIZE,low`, else 256 MiB (`reserve_crashkernel_low`)
abbrev pub low_size : CrashOptionView → ℕ
low_size asked = unwrap_or asked.low 0x10000000

-- whether the area `main` needs a low part of `low` bytes: it lies at or above 4 GiB, and `low`
-- isn't 0 (`crashkernel=0,low`)
abbrev pub needs_low_part : RangeView → ℕ → Bool
needs_low_part main low = nat_le (2 ^ 32) main.base && nat_lt 0 low

-- the free range of `size` bytes that memblock picks below 4 GiB, for the low part
unfoldable pub low_range : ℕ → List Item → Option RangeView
low_range size items = best_range size 0 (2 ^ 32) items
