-- Defines when the bytes at a table head (address, number of records, room) are an ascending list
-- of records.
use Rattle.std.specs.Prelude.{◌≡◌, ℕ, ◌+◌, ◌*◌, ◌%◌, ◌^◌, ◌<◌, ◌≤◌, List, [], ◌∷◌}
use Rattle.bm_base.specs.declared.range.TheConstants.{FRAME_SIZE}
use Rattle.address_runs.specs.Runs.{RunOf, run_end}
use Rattle.address_runs.specs.Sweep.{StartAtOrPast}
use Rattle.phys_store.specs.Bytes.{ExtentView}
use Rattle.memblock_model.specs.Labels.{LabelView}
use Rattle.memblock_ranges.specs.declared.region.Head.{Head}
use Rattle.memblock_ranges.specs.Tables.{records_of_head}

-- no record is empty, each ends at or below the bound, and each begins at or above the end of the
-- one before it
abbrev pub AreAscendingBelow : ℕ → List (RunOf LabelView) → Type 0
AreAscendingBelow bound [] = Unit {0}
AreAscendingBelow bound (r ∷ rs) = (0 < r.size) × (run_end r ≤ bound) × StartAtOrPast (run_end r) rs × AreAscendingBelow bound rs

-- the records at the head ascend below the bound (`AreAscendingBelow`), their number is at most the
-- head's room, and the bytes of that room lie below 2^64
pub record HasRecords (store : List ExtentView) (head : Head) (bound : ℕ) : Type 0 where
  pub few : head.count ≤ head.room
  pub fits : head.place + 24 * head.room < 2 ^ 64
  pub ascend : AreAscendingBelow bound (records_of_head store head)

-- each record begins and ends at a frame boundary
abbrev pub AreWholeFrames : List (RunOf LabelView) → Type 0
AreWholeFrames [] = Unit {0}
AreWholeFrames (r ∷ rs) = (r.base % FRAME_SIZE ≡ 0) × (r.size % FRAME_SIZE ≡ 0) × AreWholeFrames rs
