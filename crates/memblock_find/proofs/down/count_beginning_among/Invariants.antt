use Rattle.std.proofs.Common.{ℕ, ◌-◌, ◌<◌, ◌≤◌, length}
use Rattle.memblock_find.specs.Walk.{nth_record}
use Rattle.memblock_find.proofs.down.count_beginning_among.Given as goal

-- the records before `low` begin below the address, and those from `high` on don't
abbrev pub invariant-loop-low : goal.invariant-loop-low
invariant-loop-low l = record {
  order : l.low ≤ l.high;
  within : l.high < length l.records;
  before : (i : ℕ) → i < l.low → (nth_record l.records i).base < l.at;
  after : (i : ℕ) → l.high ≤ i → i < length l.records → l.at ≤ (nth_record l.records i).base;
}

abbrev pub decreases-loop-low : goal.decreases-loop-low
decreases-loop-low l = l.high - l.low
