use Rattle.std.proofs.Common.{◌≡◌, ℕ, List, length, ap, append-nil, arith}
use Rattle.report_stages.proofs.BatchLaws.{renumber_one_line, batch_none}
use Rattle.report_stages.proofs.batches.replace_batch_digits.Goals as goal

pub loop-i-init : goal.loop-i-init
loop-i-init c = λ front old eight is. rw (batch_none 0 front c.args.digits.now) is

pub loop-i-preserved : goal.loop-i-preserved
loop-i-preserved c = λ front old eight is.
    renumber_one_line front c.args.digits.now old c.copy_from_slice.new.self c.loop-i.i (length c.args.batch.now) c.loop-i.batch
    (omega arith)
    (ap (λ (t : List ℕ). length t) is) (omega arith) eight c.copy_from_slice.ensures.after (c.loop-i.invariant front old eight is)

pub returns : goal.returns
returns c = λ front old eight is.
    let end : c.loop-i.i ≡ 1024 = omega arith in
    rw (end, batch_none 1024 front old, append-nil) at (c.loop-i.invariant front old eight is)
