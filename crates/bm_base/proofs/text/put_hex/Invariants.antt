use Rattle.std.proofs.Common.{◌≡◌, ◌-◌, length, take, drop, codes, []}
use Rattle.bm_base.proofs.TextLaws.{prepend_hex_digits}
use Rattle.bm_base.proofs.text.put_hex.Given as goal

abbrev pub invariant-loop-i : goal.invariant-loop-i
invariant-loop-i l = record {
  long : length l.text ≡ 18;
  head : take 2 l.text ≡ codes "0x";
  digits : prepend_hex_digits (16 - l.i) l.left (drop (18 - l.i) l.text) ≡ prepend_hex_digits 16 l.value [];
}
