-- Before that line none places the sections, and after it none does by the requirement.
use Rattle.std.proofs.Common.{◌≡◌, ◌+◌, true, sym, ◌∙◌, ap, arith}
use Rattle.std.proofs.lemmas.Bool.{true≢false}
use Rattle.std.proofs.lemmas.List.{take_rest}
use Rattle.script_reader.specs.Script.{is_sections}
use Rattle.early_script.proofs.StageLaws.{all-before, passed-here, passed-all}
use Rattle.early_script.proofs.lines.split_at_sections.Goals as goal
use Rattle.early_script.proofs.lines.split_at_sections.Goals.{in-Sections, in_default}

pub returns-then-matches-clause-run : goal.returns-then-matches-clause-run
returns-then-matches-clause-run c =
    let lines = c.args.lines.now in
    let here : is_sections c.index-lines-i.result.act ≡ true = elim c.match-matches.branch [
      | in-Sections w ↦ ap is_sections w.in-Sections.is
      | in_default w ↦ absurd (true≢false (sym c.if-matches.true ∙ w.matches-is))
    ] in
    let parts = passed-here lines c.loop-i.i c.index-lines-i.result c.loop-i-test.true c.index-lines-i.is here c.loop-i.invariant in
    (rw parts.0 (all-before lines), rw (take_rest lines (c.loop-i.i + 1), parts.1) c.requires.once)

pub returns-clause-run : goal.returns-clause-run
returns-clause-run c =
    let lines = c.args.lines.now in
    let parts = passed-all lines c.loop-i.i c.loop-i-test.false c.loop-i.invariant in
    (rw parts.0 (all-before lines), λ k d less. absurd (omega arith))
