use Rattle.std.proofs.Common.{◌≡◌, ℕ, ◌-◌, ◌^◌, ◌<◌, ◌≤◌, Option, drop}
use Rattle.std.specs.Prelude.{is_none}
use Rattle.bm_base.specs.Range.{end_of}
use Rattle.address_runs.specs.Runs.{value_at}
use Rattle.address_runs.specs.Edits.{gaps_in_range}
use Rattle.address_runs.specs.Sweep.{HasValueBetween, IsRestFrom, FirstEndsAtOrPast}
use Rattle.run_edits.specs.Ends.{run_ends_at, total}
use Rattle.memblock_model.specs.Labels.{LabelView, plain_label}
use Rattle.memblock_model.specs.Same.{same_label}
use Rattle.memblock_ranges.proofs.pieces.count_pieces.Given as goal

-- the pieces that end below the address have been counted
abbrev pub invariant-loop-from : goal.invariant-loop-from
invariant-loop-from g l =
    let f : ℕ → Option LabelView = value_at (g.T.Rows.list l.table) in record {
      first : l.range.base ≤ l.from;
      last : l.from ≤ end_of l.range;
      rest : IsRestFrom f l.from (drop l.read (g.T.Rows.list l.table));
      here : l.bare ≡ is_none (f l.from);
      stays : HasValueBetween f l.from l.next (f l.from);
      ends : FirstEndsAtOrPast l.next (drop l.read (g.T.Rows.list l.table));
      after : l.from < 2 ^ 64 - 1 → l.from < l.next;
      few : l.count ≤ l.from;
      count : l.count ≡ total (run_ends_at same_label (gaps_in_range l.range plain_label f)) 0 l.from;
    }

abbrev pub decreases-loop-from : goal.decreases-loop-from
decreases-loop-from g l = l.until - l.from
