use Rattle.std.proofs.Common.{◌≡◌, ◌+◌, length, drop}
use Rattle.std.specs.Str.Parse.{digits_value_after}
use Rattle.bm_base.specs.Size.{front_digits, front_digits_value}
use Rattle.bm_base.proofs.size.read_digits.Given as goal

abbrev pub invariant-loop-count : goal.invariant-loop-count
invariant-loop-count l = record {
  value : digits_value_after l.radix l.value (front_digits l.radix (drop l.count l.text)) ≡ front_digits_value l.radix l.text;
  count : l.count + length (front_digits l.radix (drop l.count l.text)) ≡ length (front_digits l.radix l.text);
}
