use Rattle.std.proofs.Common.{Ok, Err}
use Rattle.stage_steps.proofs.RequestLaws.{ends-placed}
use Rattle.stage_steps.proofs.calls.place_or_stop.Goals as goal

pub returns-in-Ok-clause-ends : goal.returns-in-Ok-clause-ends
returns-in-Ok-clause-ends c =
    ends-placed c.args.what (Ok c.in-Ok.base) c.args.memblock.now.journal.items c.alloc.new.self.journal.items c.args.request.now
    c.args.owner c.in-Ok.ensures.ends

pub returns-in-Err-clause-ends : goal.returns-in-Err-clause-ends
returns-in-Err-clause-ends c =
    rw c.stop_for_refusal.ensures (ends-placed c.args.what (Err c.in-Err.refusal) c.args.memblock.now.journal.items
    c.alloc.new.self.journal.items c.args.request.now c.args.owner c.in-Err.ensures.ends)
