use Rattle.std.proofs.Common.{ℕ, ◌-◌, ◌<◌, ◌≤◌, length}
use Rattle.address_runs.specs.Runs.{run_end, AreRuns}
use Rattle.memblock_find.specs.Walk.{nth_record}
use Rattle.memblock_find.proofs.up.count_ending_by.Given as goal

-- the records before `low` end at or below the address, and those from `high` on don't
abbrev pub invariant-loop-low : goal.invariant-loop-low
invariant-loop-low l = record {
  runs : AreRuns l.records;
  order : l.low ≤ l.high;
  within : l.high ≤ length l.records;
  before : (i : ℕ) → i < l.low → run_end (nth_record l.records i) ≤ l.at;
  after : (i : ℕ) → l.high ≤ i → i < length l.records → l.at < run_end (nth_record l.records i);
}

abbrev pub decreases-loop-low : goal.decreases-loop-low
decreases-loop-low l = l.high - l.low
