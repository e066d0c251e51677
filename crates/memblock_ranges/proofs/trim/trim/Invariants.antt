use Rattle.std.proofs.Common.{ℕ, ◌≤◌, Option, length, take, drop}
use Rattle.address_runs.specs.Runs.{value_at}
use Rattle.address_runs.specs.Sweep.{IsSweptTo}
use Rattle.memblock_model.specs.Labels.{LabelView}
use Rattle.memblock_model.specs.Items.{trim_frames}
use Rattle.memblock_ranges.proofs.TrimLaws.{Turns}
use Rattle.memblock_ranges.proofs.trim.trim.Given as goal

-- the records before `read` are cut and written, and those from `read` on are unchanged
abbrev pub invariant-loop-read : goal.invariant-loop-read
invariant-loop-read g l =
    let f : ℕ → Option LabelView = value_at (g.T.Rows.list l.fn.table) in record {
      order : l.write ≤ l.read;
      within : l.read ≤ length (g.T.Rows.list l.table);
      keeps : g.T.Slots.keeps l.fn.table l.table;
      swept : (at : ℕ) × IsSweptTo (trim_frames f) at (take l.write (g.T.Rows.list l.table))
          × Turns f at (drop l.read (g.T.Rows.list l.table));
    }

abbrev pub decreases-loop-read : goal.decreases-loop-read
decreases-loop-read g l = length (drop l.read (g.T.Rows.list l.table))
