use Rattle.std.proofs.Common.{◌≡◌, ◌≤◌, ℕ, length, map}
use Rattle.audit_lines.specs.Lines.{AscendApart}
use Rattle.boot_audit.specs.Sweep.{is_in_relevant_line}
use Rattle.boot_audit.proofs.sweep.skip_lines_below.Given as goal

abbrev pub invariant-loop-line : goal.invariant-loop-line
invariant-loop-line g l = record {
  order : AscendApart (map g.L.RangeLine.extent l.rest);
  says : (x : ℕ) → l.at ≤ x → is_in_relevant_line g.L.RangeLine.counted g.L.RangeLine.extent l.rest x
      ≡ is_in_relevant_line g.L.RangeLine.counted g.L.RangeLine.extent l.lines x;
}

abbrev pub decreases-loop-line : goal.decreases-loop-line
decreases-loop-line g l = length l.rest
