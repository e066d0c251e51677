-- The causes of a stop. Out of memory is the one stop without a cause.
use Rattle.std.specs.Prelude.{Option, Some, None}
use Rattle.e820_sanitise.specs.declared.stop.MapStop.{MapStop}
use Rattle.growth_model.specs.Change.{RefusedGrowth}
use Rattle.e820_sanitise.specs.declared.stop.MapStop.TheVariants as reasons
use Rattle.stage_steps.specs.Causes.{StageCause, NoPlace, NoTablePlace}
use Rattle.boot_model.specs.declared.stop.Cause.{Cause}
use Rattle.boot_model.specs.declared.stop.Cause.TheVariants as causes
use Rattle.boot_model.specs.declared.stop.Stop.{Stop}
use Rattle.boot_model.specs.declared.stop.Stop.TheVariants as stops

-- the stop that has this cause
abbrev pub stop_of : Cause → Stop
stop_of causes.NoRam = stops.NoRam
stop_of (causes.TooMuchRam frames) = stops.TooMuchRam frames
stop_of (causes.MapFull runs) = stops.MapFull runs
stop_of (causes.NoPlace thing) = stops.NoPlace thing
stop_of (causes.NoTablePlace which room) = stops.NoTablePlace which room

-- the cause of a stop, or `None` for out of memory
abbrev pub cause_of : Stop → Option Cause
cause_of stops.NoRam = Some causes.NoRam
cause_of (stops.TooMuchRam frames) = Some (causes.TooMuchRam frames)
cause_of (stops.MapFull runs) = Some (causes.MapFull runs)
cause_of (stops.NoPlace thing) = Some (causes.NoPlace thing)
cause_of (stops.NoTablePlace which room) = Some (causes.NoTablePlace which room)
cause_of stops.Memory = None

-- the cause for which a boot stops if its map is refused for this reason
abbrev pub cause_of_map : MapStop → Cause
cause_of_map reasons.NoRam = causes.NoRam
cause_of_map (reasons.TooMuchRam frames) = causes.TooMuchRam frames

-- the cause if a table had to grow and no place was found for it (`memblock_double_array`)
abbrev pub cause_of_growth : RefusedGrowth → Cause
cause_of_growth refused = causes.NoTablePlace refused.which refused.room

-- the cause for which a boot stops if one of its stages stops for this reason
abbrev pub cause_of_stage : StageCause → Cause
cause_of_stage (NoPlace thing) = causes.NoPlace thing
cause_of_stage (NoTablePlace w room) = causes.NoTablePlace w room

-- the stop for a stage's cause, or out of memory if there is none
abbrev pub stop_of_error : {E : Type 0} → (E → Cause) → Option E → Stop
stop_of_error cause None = stops.Memory
stop_of_error cause (Some why) = stop_of (cause why)
