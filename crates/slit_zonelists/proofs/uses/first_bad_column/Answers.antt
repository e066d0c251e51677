-- A cell that isn't bad is passed over.
use Rattle.std.proofs.Common.{sym, ◌∙◌}
use Rattle.slit_zonelists.specs.SlitView.{slit_view}
use Rattle.slit_zonelists.specs.Uses.{is_bad_cell}
use Rattle.slit_zonelists.proofs.BadLaws.{skipped}
use Rattle.slit_zonelists.proofs.uses.first_bad_column.Goals as goal

pub loop-column-preserved : goal.loop-column-preserved
loop-column-preserved c =
    let m = slit_view c.args.slit.now in
    skipped (is_bad_cell m c.args.row) c.loop-column.column m.count c.loop-column-test.true
    (sym c.is_bad_cell.ensures ∙ c.if-is_bad_cell.false)
    ∙ c.loop-column.invariant
