-- The first bad column is none of those so far.
use Rattle.std.proofs.Common.{◌≡◌, ◌-◌}
use Rattle.std.specs.List.{find, range_with_len}
use Rattle.slit_zonelists.specs.SlitView.{slit_view}
use Rattle.slit_zonelists.specs.Uses.{is_bad_cell, first_bad_column}
use Rattle.slit_zonelists.proofs.uses.first_bad_column.Given as goal

abbrev pub invariant-loop-column : goal.invariant-loop-column
invariant-loop-column l =
    find (is_bad_cell (slit_view l.slit) l.row) (range_with_len l.column (l.slit.count - l.column))
    ≡ first_bad_column (slit_view l.slit) l.row
