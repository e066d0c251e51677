-- No line so far places the sections.
use Rattle.early_script.proofs.StageLaws.{Passed}
use Rattle.early_script.proofs.lines.split_at_sections.Given as goal

abbrev pub invariant-loop-i : goal.invariant-loop-i
invariant-loop-i l = Passed l.lines l.i
