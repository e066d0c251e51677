use Rattle.std.proofs.Common.{arith, sym, ◌∙◌}
use Rattle.boot_audit.proofs.LineLaws.{seen_before, seen_first}
use Rattle.boot_audit.proofs.sweep.coverage_at.Goals as goal

pub returns-then-at-base-clause-says : goal.returns-then-at-base-clause-says
returns-then-at-base-clause-says g c = λ x above below.
    seen_before g.L.RangeLine.counted g.L.RangeLine.extent c.args.lines.now c.in-Some.line.now c.in-Some.field-0-1.now
    c.in-Some.ensures.cases.0 c.requires.order x (omega (arith, c.base-base.ensures))

pub returns-clause-says : goal.returns-clause-says
returns-clause-says g c = λ x above below.
    seen_first g.L.RangeLine.counted g.L.RangeLine.extent c.args.lines.now c.in-Some.line.now c.in-Some.field-0-1.now
    c.in-Some.ensures.cases.0 c.requires.order x (omega (arith, c.base-base.ensures)) (omega (arith, c.end.ensures))
    ∙ sym c.is_relevant.ensures
