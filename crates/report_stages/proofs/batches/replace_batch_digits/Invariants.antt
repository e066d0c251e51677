-- The lines before this one have the new digits, and the others still have the old ones.
use Rattle.std.proofs.Common.{◌≡◌, ℕ, List, ◌-◌, ◌++◌, length}
use Rattle.report_stages.specs.Batches.{batch_lines_from, batch_text}
use Rattle.report_stages.proofs.batches.replace_batch_digits.Given as goal

abbrev pub invariant-loop-i : goal.invariant-loop-i
invariant-loop-i l =
    (front old : List ℕ) → length old ≡ 8 → l.fn.batch ≡ batch_text front old
    → l.batch ≡ batch_lines_from front l.digits 0 l.i ++ batch_lines_from front old l.i (1024 - l.i)
