-- Why a stage stops the boot, and the error that its call returns for each cause. Out of memory
-- isn't a cause here, because a definition can't run out of memory. The call of a stage can, so the
-- functions below map `None` to the error `Memory`.
use Rattle.std.specs.Prelude.{ℕ, Option, Some, None}
use Rattle.memblock_model.specs.declared.owner.Which.{Which}
use Rattle.growth_model.specs.declared.refusal.Refusal.{Refusal}
use Rattle.growth_model.specs.declared.refusal.Refusal.TheVariants as refusal
use Rattle.growth_model.specs.Change.{RefusedGrowth}
use Rattle.memblock_grow.specs.declared.stop.What.{What}
use Rattle.memblock_grow.specs.declared.stop.StageStop.{StageStop}
use Rattle.memblock_grow.specs.declared.stop.StageStop.TheVariants as stop

-- Why a stage stops the boot. `NoPlace`: no free place fits the allocation `thing`. `NoTablePlace`:
-- a table of memblock had to grow and no place was found for it. `room` is the number of records
-- that it has room for, which was too small.
pub data StageCause : Type 0 where
  NoPlace : (thing : What) → StageCause
  NoTablePlace : (which : Which) (room : ℕ) → StageCause

abbrev pub error_of_stage_cause : Option StageCause → StageStop
error_of_stage_cause None = stop.Memory
error_of_stage_cause (Some (NoPlace thing)) = stop.NoPlace thing
error_of_stage_cause (Some (NoTablePlace w room)) = stop.NoTablePlace w room

-- the error of a call that can fail for two reasons only: a table has to grow and no place is found
-- for it, or this program is out of memory (`None`)
abbrev pub refusal_for : Option RefusedGrowth → Refusal
refusal_for None = refusal.Memory
refusal_for (Some r) = refusal.NoGapForTable r.which r.room

-- why the boot stops after memblock refused to allocate `thing`
abbrev pub stop_for_refusal : What → Refusal → StageStop
stop_for_refusal thing refusal.NoGap = stop.NoPlace thing
stop_for_refusal thing (refusal.NoGapForTable w room) = stop.NoTablePlace w room
stop_for_refusal thing refusal.Memory = stop.Memory
