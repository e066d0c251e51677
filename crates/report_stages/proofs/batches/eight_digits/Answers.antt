use Rattle.std.proofs.Common.{◌-◌, ◌∙◌, arith}
use Rattle.std.proofs.lemmas.List.{length-set}
use Rattle.report_stages.proofs.BatchLaws.{digit_step, digits_end}
use Rattle.report_stages.proofs.batches.eight_digits.Goals as goal

pub loop-i-preserved : goal.loop-i-preserved
loop-i-preserved c =
    let l = c.loop-i in
    record {
      long = length-set l.digits (7 - l.i) c.hex_digit.result ∙ l.invariant.long;
      digits = rw c.hex_digit.ensures (digit_step l.digits l.i l.left (omega arith) l.invariant.long ∙ l.invariant.digits);
    }

pub returns : goal.returns
returns c =
    let l = c.loop-i in digits_end l.digits l.i l.left c.args.number (omega arith) (omega arith) l.invariant.digits
