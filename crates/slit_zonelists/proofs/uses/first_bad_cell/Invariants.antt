-- The first bad cell is in none of the rows so far.
use Rattle.std.proofs.Common.{◌≡◌, ◌-◌}
use Rattle.std.specs.List.{filter_map, range_with_len}
use Rattle.slit_zonelists.specs.SlitView.{slit_view}
use Rattle.slit_zonelists.specs.Uses.{first_bad_in_row, first_bad_cell, first_member}
use Rattle.slit_zonelists.proofs.uses.first_bad_cell.Given as goal

abbrev pub invariant-loop-row : goal.invariant-loop-row
invariant-loop-row l =
    first_member (filter_map (first_bad_in_row (slit_view l.slit)) (range_with_len l.row (l.slit.count - l.row)))
    ≡ first_bad_cell (slit_view l.slit)
