use Rattle.std.proofs.Common.{◌≡◌, ◌-◌, ◌∙◌, arith}
use Rattle.std.proofs.lemmas.List.{length-set, take-set-le}
use Rattle.bm_base.specs.Text.{hex_text}
use Rattle.bm_base.proofs.TextLaws.{hex_step, hex_end}
use Rattle.bm_base.proofs.text.put_hex.Goals as goal

pub loop-i-preserved : goal.loop-i-preserved
loop-i-preserved c =
    let l = c.loop-i in
    record {
      long = length-set l.text (17 - l.i) c.hex_digit.result ∙ l.invariant.long;
      head = take-set-le 2 l.text (17 - l.i) c.hex_digit.result (omega arith) ∙ l.invariant.head;
      digits = rw c.hex_digit.ensures (hex_step l.text l.i l.left (omega arith) l.invariant.long ∙ l.invariant.digits);
    }

pub returns-clause-puts : goal.returns-clause-puts
returns-clause-puts c =
    let l = c.loop-i in
    let text : l.text ≡ hex_text c.args.value =
    hex_end l.text l.i l.left c.args.value (omega arith) (omega arith) l.invariant.head l.invariant.digits in
    rw (← text) c.put_text.ensures.puts
