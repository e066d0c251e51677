use Rattle.std.proofs.Common.{◌-◌, ◌≤◌, length, take, drop}
use Rattle.address_runs.specs.Sweep.{FirstEndsAtOrPast}
use Rattle.run_edits.specs.Records.{EndBelow}
use Rattle.run_edits.proofs.reading.first_ending_from.Given as goal

-- the records before index `low` end below the address, and those from index `high` on don't
abbrev pub invariant-loop-low : goal.invariant-loop-low
invariant-loop-low g l = record {
  order : l.low ≤ l.high;
  within : l.high ≤ length (g.T.Rows.list l.table);
  before : EndBelow l.at (take l.low (g.T.Rows.list l.table));
  from : FirstEndsAtOrPast l.at (drop l.high (g.T.Rows.list l.table));
}

abbrev pub decreases-loop-low : goal.decreases-loop-low
decreases-loop-low g l = l.high - l.low
