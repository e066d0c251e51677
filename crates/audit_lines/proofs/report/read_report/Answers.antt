use Rattle.std.proofs.Common.{◌≡◌, ℕ, ◌==◌, true, Ok, List, [], ◌∷◌, length, sym, arith}
use Rattle.std.proofs.lemmas.Bool.Decides.{nat_tests}
use Rattle.audit_lines.specs.Reports.{report_of, split_lines}
use Rattle.audit_lines.proofs.ReportLaws.{lines_end, report_ascends}
use Rattle.audit_lines.proofs.report.read_report.Goals as goal

split_ends : (rest : List ℕ) → split_lines rest ≡ ([], rest) → true ≡ (length rest == 0) → split_lines rest ≡ ([], [])
split_ends [] split none = split
split_ends (b ∷ bs) split none = let some : length (b ∷ bs) == 0 ≡ true = sym none in absurd (grind (arith, nat_tests))

pub returns-then-is_empty-clause-order : goal.returns-then-is_empty-clause-order
returns-then-is_empty-clause-order g c =
    let form = g.L.ReportLine.form in
    let extent = g.L.ReportLine.extent in
    let end = split_ends c.loop-text.rest.now c.in_default.ensures.none c.if-is_empty.ensures in
    let whole : report_of form extent c.args.bytes.now ≡ Ok c.loop-text.lines.items =
    lines_end form extent c.loop-text.lines.items c.loop-text.index c.loop-text.at (split_lines c.loop-text.rest.now)
    (report_of form extent c.args.bytes.now) end c.loop-text.invariant.read in
    (report_ascends form extent 0 0 (split_lines c.args.bytes.now).0 (split_lines c.args.bytes.now).1 c.loop-text.lines.items whole).1
