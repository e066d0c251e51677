-- The last digits are written already. The digits that are left to write are those of the quotient.
use Rattle.std.proofs.Common.{◌≡◌, ◌-◌, length, drop, []}
use Rattle.bm_base.proofs.TextLaws.{prepend_hex_digits}
use Rattle.report_stages.proofs.batches.eight_digits.Given as goal

abbrev pub invariant-loop-i : goal.invariant-loop-i
invariant-loop-i l = record {
  long : length l.digits ≡ 8;
  digits : prepend_hex_digits (8 - l.i) l.left (drop (8 - l.i) l.digits) ≡ prepend_hex_digits 8 l.number [];
}
