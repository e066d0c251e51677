-- The reservation of the crash area, step by step (`reserve_crashkernel`,
-- `reserve_crashkernel_low`).
use Rattle.std.specs.Prelude.{ℕ, if◌then◌else◌, Option, Some, None}
use Rattle.bm_base.specs.Range.{RangeView}
use Rattle.memblock_model.specs.declared.owner.Owner.TheVariants as owner
use Rattle.memblock_model.specs.Items.{memory_of}
use Rattle.growth_model.specs.Growth.{claim_range, free_range}
use Rattle.growth_model.specs.Change.{RefusedGrowth}
use Rattle.stage_steps.specs.Steps.{StageStep, ◌>>=◌, return_value, read_items}
use Rattle.stage_steps.specs.Requests.{make_change}
use Rattle.boot_options.specs.Crash.{CrashOptionView}
use Rattle.crash_kernel.specs.declared.request.AreaRequest.{AreaRequest}
use Rattle.crash_kernel.specs.declared.crash.Crash.{Crash}
use Rattle.crash_kernel.specs.declared.crash.Crash.TheVariants as crash
use Rattle.crash_kernel.specs.Total.{memory_bytes}
use Rattle.crash_kernel.specs.Request.{request_by, request_for}
use Rattle.crash_kernel.specs.declared.rule.CrashRule.{CrashRule}
use Rattle.crash_kernel.specs.Places.{low_range, low_size, main_range, needs_low_part, search_failure}

-- `reserve_low_part` searches for a low part of `size` bytes, and `claim_low_part` claims the range
-- that was found. If none was found, the area `main` is freed again.
abbrev pub claim_low_part : RangeView → Option RangeView → StageStep RefusedGrowth Crash
claim_low_part main None = do
  done ← make_change (free_range main)
  return_value crash.LowFailed
claim_low_part main (Some low) = do
  done ← make_change (claim_range low owner.CrashLow)
  return_value (crash.At main (Some low))

unfoldable pub reserve_low_part : RangeView → ℕ → StageStep RefusedGrowth Crash
reserve_low_part main size = do
  low ← read_items (low_range size)
  claim_low_part main low

-- claims the range that was found for the area, and reserves its low part if it needs one. If none
-- was found, returns the outcome for that.
abbrev pub claim_area : AreaRequest → ℕ → Option RangeView → StageStep RefusedGrowth Crash
claim_area area low None = return_value (search_failure area.placement)
claim_area area low (Some main) = do
  done ← make_change (claim_range main owner.Crash)
  if needs_low_part main low then reserve_low_part main low else return_value (crash.At main None)

-- searches for the area, if one is requested, and claims it; `low` is the size that its low part
-- would have
abbrev pub reserve_request : ℕ → Option AreaRequest → StageStep RefusedGrowth Crash
reserve_request low None = return_value crash.Nothing
reserve_request low (Some area) = do
  main ← read_items (main_range area.size area.placement)
  claim_area area low main

-- reserves the area that `crashkernel=` requests for the machine's total memory, if it requests one
-- (`reserve_crashkernel`)
unfoldable pub reserve_crash_area : CrashOptionView → StageStep RefusedGrowth Crash
reserve_crash_area asked = do
  total ← read_items (λ items. memory_bytes (memory_of items))
  reserve_request (low_size asked) (request_for total asked)

-- reserves the crash area, with its size by `rule`. `added` is the number of bytes that became
-- memory before it was trimmed to whole frames; only the rule of Linux 6.1 uses it.
unfoldable pub reserve_crash_area_by : CrashRule → ℕ → CrashOptionView → StageStep RefusedGrowth Crash
reserve_crash_area_by rule added asked = do
  total ← read_items (λ items. memory_bytes (memory_of items))
  reserve_request (low_size asked) (request_by rule total added asked)
