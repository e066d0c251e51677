-- A row without a bad cell is passed over.
use Rattle.std.proofs.Common.{sym, ◌∙◌}
use Rattle.slit_zonelists.specs.SlitView.{slit_view}
use Rattle.slit_zonelists.proofs.BadLaws.{row_skipped}
use Rattle.slit_zonelists.proofs.uses.first_bad_cell.Goals as goal

pub loop-row-preserved : goal.loop-row-preserved
loop-row-preserved c =
    let m = slit_view c.args.slit.now in
    row_skipped m c.loop-row.row m.count c.loop-row-test.true (sym c.first_bad_column.ensures ∙ c.in_default.is) ∙ c.loop-row.invariant
