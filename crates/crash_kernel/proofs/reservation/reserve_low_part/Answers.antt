use Rattle.std.proofs.Common.{Some, None}
use Rattle.std.proofs.lemmas.Result.{err_from_is_err_and}
use Rattle.memblock_model.specs.declared.owner.Owner.TheVariants as owner
use Rattle.growth_model.specs.Growth.{claim_range, free_range}
use Rattle.stage_steps.specs.Steps.{return_value}
use Rattle.crash_kernel.specs.declared.crash.Crash.TheVariants as crash
use Rattle.crash_kernel.proofs.ReservedLaws.{change-then, change-fails, low-at}
use Rattle.crash_kernel.proofs.reservation.reserve_low_part.Goals as goal

pub returns-in_err-claim-in-Some-clause-ends : goal.returns-in_err-claim-in-Some-clause-ends
returns-in_err-claim-in-Some-clause-ends c =
    let old = c.args.memblock.now.journal.items in
    let p = err_from_is_err_and c.from_residual.result c.from_residual.ensures.1 in
    rw (p.1, p.2, low-at old c.args.main c.args.size (Some c.in-Some.low) c.in-Some.ensures.range)
    (change-fails c.in_err-claim-in-Some.field-0.0 old c.claim.new.self.journal.items (claim_range c.in-Some.low owner.CrashLow)
    (λ done. return_value (crash.At c.args.main (Some c.in-Some.low))) c.in_err-claim-in-Some.ensures.ends)

pub returns-in_err-free-in-None-clause-ends : goal.returns-in_err-free-in-None-clause-ends
returns-in_err-free-in-None-clause-ends c =
    let old = c.args.memblock.now.journal.items in
    let p = err_from_is_err_and c.from_residual-in_err-free-in-None.result c.from_residual-in_err-free-in-None.ensures.1 in
    rw (p.1, p.2, low-at old c.args.main c.args.size None c.in-None.ensures.range)
    (change-fails c.in_err-free-in-None.field-0.0 old c.free.new.self.journal.items (free_range c.args.main) (λ done.
    return_value crash.LowFailed)
    c.in_err-free-in-None.ensures.ends)

pub returns-in_ok-claim-in-Some-clause-ends : goal.returns-in_ok-claim-in-Some-clause-ends
returns-in_ok-claim-in-Some-clause-ends c =
    let old = c.args.memblock.now.journal.items in
    rw (low-at old c.args.main c.args.size (Some c.in-Some.low) c.in-Some.ensures.range)
    (change-then (crash.At c.args.main (Some c.in-Some.low)) old c.claim.new.self.journal.items (claim_range c.in-Some.low owner.CrashLow)
    c.in_ok-claim-in-Some.ensures.ends)

pub returns-in_ok-free-in-None-clause-ends : goal.returns-in_ok-free-in-None-clause-ends
returns-in_ok-free-in-None-clause-ends c =
    let old = c.args.memblock.now.journal.items in
    rw (low-at old c.args.main c.args.size None c.in-None.ensures.range)
    (change-then crash.LowFailed old c.free.new.self.journal.items (free_range c.args.main) c.in_ok-free-in-None.ensures.ends)
