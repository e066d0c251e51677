use Rattle.audit_soundness.specs.PrintableBoots.{IsBoundedOwnerRun}
use Rattle.audit_soundness.proofs.BootedLaws.{one_more}
use Rattle.audit_soundness.proofs.booted.owner_runs_are_bounded.Goals as goal

pub loop-run-preserved : goal.loop-run-preserved
loop-run-preserved c = λ rest.
    c.loop-run.invariant (one_more IsBoundedOwnerRun c.args.runs.now c.loop-run.run-index c.run-item.result c.run-item.result
    c.loop-run-test.true c.run-item.is c.owner_run_is_bounded.ensures rest)
