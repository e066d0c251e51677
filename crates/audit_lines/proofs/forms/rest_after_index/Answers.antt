use Rattle.std.proofs.Common.{◌≡◌, ◌-◌, rules, arith, length, take, drop, length-drop}
use Rattle.std.proofs.lemmas.List.{take_all}
use Rattle.std.proofs.lemmas.Fmt.{length-decimal-le}
use Rattle.bm_base.specs.Text.{padded_decimal}
use Rattle.bm_base.proofs.TextLaws.{right_aligned}
use Rattle.audit_lines.proofs.forms.rest_after_index.Goals as goal

pub write_digits-start-requires : goal.write_digits-start-requires
write_digits-start-requires c = search (rules, length-decimal-le 20)

pub returns : goal.returns
returns c =
    let w = c.write_digits-start in
    let text : drop c.min-from.result w.new.buf ≡ padded_decimal 4 c.args.index =
    rw c.min-from.ensures
    (right_aligned 4 w.result c.args.index w.new.buf (omega arith) w.ensures.start w.ensures.written w.ensures.before) in
    let long : length w.new.buf ≡ 20 = w.auto.buf in
    let all : take (20 - c.min-from.result) (drop c.min-from.result w.new.buf) ≡ drop c.min-from.result w.new.buf =
    take_all (20 - c.min-from.result) (drop c.min-from.result w.new.buf) (omega (arith, length-drop c.min-from.result w.new.buf)) in
    rw (← text, ← all) c.rest_after.ensures
