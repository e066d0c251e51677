-- The size and placement that `crashkernel=` requests on a machine with a given amount of memory
-- (`parse_crashkernel`, `parse_crashkernel_mem`), by each of two rules. By `bootmem`'s own, total
-- memory isn't rounded and sizes aren't bounded. By that of Linux 6.1, total memory is rounded up
-- to a multiple of 128 MiB and bounds the sizes.
use Rattle.std.specs.Prelude.{ℕ, ◌+◌, ◌*◌, ◌/◌, ◌==◌, Bool, false, ◌&&◌, ◌||◌, not, nat_le, if◌then◌else◌, Option, Some, None, is_none, List, [], ◌∷◌, length}
use Rattle.std.specs.Option.{option_or}
use Rattle.boot_options.specs.declared.crash.CrashRange.{CrashRange}
use Rattle.boot_options.specs.Crash.{CrashOptionView, CrashPlainView, is_above}
use Rattle.crash_kernel.specs.declared.request.AreaRequest.{AreaRequest}
use Rattle.crash_kernel.specs.declared.request.Placement.{Placement}
use Rattle.crash_kernel.specs.declared.request.Placement.TheVariants as placement
use Rattle.crash_kernel.specs.declared.rule.CrashRule.{CrashRule}
use Rattle.crash_kernel.specs.declared.rule.CrashRule.TheVariants as rules

-- whether total memory is at least the start of the range, and below its end if it has one
abbrev pub is_in_total_range : ℕ → CrashRange → Bool
is_in_total_range total r = nat_le r.start total && is_above r.end total

-- the size given for the first range that total memory is in; 0 if it is in none
abbrev pub size_for_total : ℕ → List CrashRange → ℕ
size_for_total total [] = 0
size_for_total total (r ∷ rs) = if is_in_total_range total r then r.size else size_for_total total rs

-- the request for an area of `size` bytes, or none if `size` is 0
abbrev pub request_of_size : ℕ → Placement → Option AreaRequest
request_of_size size where_to = if size == 0 then None else Some (record { size = size; placement = where_to })

-- the placement for the `BASE` of the plain form; base 0 leaves the place to the kernel
abbrev pub placement_for : ℕ → Placement
placement_for base = if base == 0 then placement.Automatic else placement.Fixed base

-- the area that the plain form (`SIZE[@BASE]`, or `RANGE:SIZE,...[@BASE]`) requests if memory has
-- `total` bytes. None without the form, or if its size for that total is 0.
abbrev pub plain_request : ℕ → Option CrashPlainView → Option AreaRequest
plain_request total None = None
plain_request total (Some form) = request_of_size (size_for_total total form.ranges) (placement_for form.base)

abbrev pub high_request : Option ℕ → Option AreaRequest
high_request None = None
high_request (Some size) = request_of_size size placement.High

-- the area that `crashkernel=` requests; the high form, `SIZE,high`, counts only if the plain form
-- requests nothing (`reserve_crashkernel`)
unfoldable pub request_for : ℕ → CrashOptionView → Option AreaRequest
request_for total asked = option_or (plain_request total asked.plain) (high_request asked.high)

-- total memory as Linux 6.1 counts it: the bytes that became memory, rounded up to a multiple of
-- 128 MiB (`SZ_128M`)
abbrev pub rounded_total : ℕ → ℕ
rounded_total added = (added + 0x7FFFFFF) / 0x8000000 * 0x8000000

-- whether Linux refuses the plain form at this range: the range ends at or below its start, or its
-- size is total memory or more
abbrev pub is_refused_range : ℕ → CrashRange → Bool
is_refused_range total r = not (is_above r.end r.start) || nat_le total r.size

-- the size given for the first range that total memory is in; 0 if it is in none, or if Linux
-- refuses the form at that range or at one before it
abbrev pub bounded_size_for_total : ℕ → List CrashRange → ℕ
bounded_size_for_total total [] = 0
bounded_size_for_total total (r ∷ rs) =
    if is_refused_range total r then 0 else (if is_in_total_range total r then r.size else bounded_size_for_total total rs)

-- whether the ranges are those of `crashkernel=SIZE`: a single one from 0, without an end
-- (`parse_crashkernel_simple`). The option has this value for `0-:SIZE` too.
abbrev pub is_size_form : List CrashRange → Bool
is_size_form [] = false
is_size_form (r ∷ rs) = (length rs == 0) && (r.start == 0) && is_none r.end

-- the size of the plain form by the rule of Linux 6.1. Sizes for ranges of total memory are bounded
-- by total memory; the size of `crashkernel=SIZE` isn't.
abbrev pub size_by_linux : ℕ → List CrashRange → ℕ
size_by_linux total ranges = if is_size_form ranges then size_for_total total ranges else bounded_size_for_total total ranges

-- the area that the plain form requests by the rule of Linux 6.1
abbrev pub linux_plain_request : ℕ → Option CrashPlainView → Option AreaRequest
linux_plain_request total None = None
linux_plain_request total (Some form) = request_of_size (size_by_linux total form.ranges) (placement_for form.base)

-- the area that `crashkernel=` requests by the rule of Linux 6.1; the high form counts if the
-- plain form requests nothing or is refused (`reserve_crashkernel`)
unfoldable pub linux_request : ℕ → CrashOptionView → Option AreaRequest
linux_request total asked = option_or (linux_plain_request total asked.plain) (high_request asked.high)

-- the area that is requested by each rule. `total` is the number of bytes in the memory table, and
-- `added` the number of bytes that were added to it before it was trimmed to whole frames
-- (`memblock_phys_mem_size`, which `memblock_trim_memory` leaves as it is).
unfoldable pub request_by : CrashRule → ℕ → ℕ → CrashOptionView → Option AreaRequest
request_by rules.ExactTotal total added asked = request_for total asked
request_by rules.RoundedTotal total added asked = linux_request (rounded_total added) asked
