-- The stage writes no item that changes memory, whatever its outcome.
use Rattle.std.proofs.Common.{ℕ, Bool, true, false, if◌then◌else◌, Option, Some, None}
use Rattle.bm_base.specs.Range.{RangeView}
use Rattle.memblock_model.specs.declared.owner.Owner.TheVariants as owner
use Rattle.memblock_model.specs.Items.{memory_of}
use Rattle.growth_model.proofs.QuietLaws.{claim_range-quiet, free_range-quiet}
use Rattle.growth_model.specs.Change.{RefusedGrowth}
use Rattle.stage_steps.specs.Steps.{StageStep}
use Rattle.stage_steps.specs.KeepsMemory.{KeepsMemory}
use Rattle.stage_steps.proofs.QuietLaws.{quiet-bind, quiet-changes, quiet-returns, quiet-seen}
use Rattle.boot_options.specs.Crash.{CrashOptionView}
use Rattle.crash_kernel.specs.declared.request.AreaRequest.{AreaRequest}
use Rattle.crash_kernel.specs.declared.crash.Crash.{Crash}
use Rattle.crash_kernel.specs.declared.crash.Crash.TheVariants as crash
use Rattle.crash_kernel.specs.Total.{memory_bytes}
use Rattle.crash_kernel.specs.Request.{request_by, request_for}
use Rattle.crash_kernel.specs.declared.rule.CrashRule.{CrashRule}
use Rattle.crash_kernel.specs.Places.{low_range, low_size, main_range, needs_low_part, search_failure}
use Rattle.crash_kernel.specs.Reservation.{reserve_low_part, reserve_crash_area, reserve_crash_area_by, reserve_request, claim_low_part, claim_area}

quiet_if : (b : Bool) (f g : StageStep RefusedGrowth Crash) → KeepsMemory f → KeepsMemory g → KeepsMemory (if b then f else g)
quiet_if true f g first second = first
quiet_if false f g first second = second

quiet_with_low : (main : RangeView) (low : Option RangeView) → KeepsMemory (claim_low_part main low)
quiet_with_low main None = quiet-bind _ _ (quiet-changes _ (free_range-quiet main)) (λ done. quiet-returns crash.LowFailed)
quiet_with_low main (Some low) =
    quiet-bind _ _ (quiet-changes _ (claim_range-quiet low owner.CrashLow)) (λ done. quiet-returns (crash.At main (Some low)))

quiet_low_part : (main : RangeView) (size : ℕ) → KeepsMemory (reserve_low_part main size)
unfolding reserve_low_part
quiet_low_part main size = quiet-bind _ _ (quiet-seen (low_range size)) (quiet_with_low main)

quiet_with_main : (area : AreaRequest) (low : ℕ) (main : Option RangeView) → KeepsMemory (claim_area area low main)
quiet_with_main area low None = quiet-returns (search_failure area.placement)
quiet_with_main area low (Some main) =
    quiet-bind _ _ (quiet-changes _ (claim_range-quiet main owner.Crash))
    (λ done. quiet_if (needs_low_part main low) _ _ (quiet_low_part main low) (quiet-returns (crash.At main None)))

quiet_with_area : (low : ℕ) (area : Option AreaRequest) → KeepsMemory (reserve_request low area)
quiet_with_area low None = quiet-returns crash.Nothing
quiet_with_area low (Some area) = quiet-bind _ _ (quiet-seen (main_range area.size area.placement)) (quiet_with_main area low)

pub quiet-reserved : (asked : CrashOptionView) → KeepsMemory (reserve_crash_area asked)
unfolding reserve_crash_area
quiet-reserved asked =
    quiet-bind _ _ (quiet-seen (λ items. memory_bytes (memory_of items)))
    (λ total. quiet_with_area (low_size asked) (request_for total asked))

pub quiet-reserved_by : (rule : CrashRule) (added : ℕ) (asked : CrashOptionView) → KeepsMemory (reserve_crash_area_by rule added asked)
unfolding reserve_crash_area_by
quiet-reserved_by rule added asked =
    quiet-bind _ _ (quiet-seen (λ items. memory_bytes (memory_of items)))
    (λ total. quiet_with_area (low_size asked) (request_by rule total added asked))
