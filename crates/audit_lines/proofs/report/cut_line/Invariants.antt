use Rattle.std.proofs.Common.{◌≡◌, take, drop}
use Rattle.audit_lines.specs.Reports.{split_lines}
use Rattle.audit_lines.proofs.SplitLaws.{glued}
use Rattle.audit_lines.proofs.report.cut_line.Given as goal

abbrev pub invariant-loop-index : goal.invariant-loop-index
invariant-loop-index l = glued (take l.index l.text) (split_lines (drop l.index l.text)) ≡ split_lines l.text
