use Rattle.std.proofs.Common.{◌-◌, ◌≤◌, length, take, drop}
use Rattle.address_runs.specs.Runs.{value_at}
use Rattle.address_runs.specs.Edits.{change_range}
use Rattle.address_runs.specs.Sweep.{IsBuiltTo, IsRestFrom}
use Rattle.run_edits.proofs.edits.edit_range.Given as goal

-- the new runs are written up to address `from`, and the old records from there on are still to be
-- read
abbrev pub invariant-loop-from : goal.invariant-loop-from
invariant-loop-from g l = record {
  first : l.range.base ≤ l.from;
  last : l.from ≤ l.until;
  order : l.sweep.write ≤ l.sweep.read;
  within : l.sweep.read ≤ length (g.T.Rows.list l.table);
  built : IsBuiltTo (change_range (g.C.Change.makes l.fn.change) l.fn.range (value_at (g.T.Rows.list l.fn.table))) l.from
      (take l.sweep.write (g.T.Rows.list l.table)) l.sweep.start l.sweep.value;
  rest : IsRestFrom (value_at (g.T.Rows.list l.fn.table)) l.from (drop l.sweep.read (g.T.Rows.list l.table));
  keeps : g.T.Slots.keeps l.fn.table l.table;
}

abbrev pub decreases-loop-from : goal.decreases-loop-from
decreases-loop-from g l = l.until - l.from
