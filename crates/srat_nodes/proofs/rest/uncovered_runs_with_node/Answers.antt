use Rattle.std.proofs.Common.{◌∙◌}
use Rattle.srat_nodes.proofs.RestLaws.{uncovered_runs_with_node-step, space_given}
use Rattle.srat_nodes.proofs.rest.uncovered_runs_with_node.Goals as goal

pub loop-run-preserved : goal.loop-run-preserved
loop-run-preserved c =
    let l = c.loop-run in
    record {
      told = rw c.in_ok-push_run_if_uncovered.ensures.value
          (uncovered_runs_with_node-step c.args.node l.rest.items c.args.covered.now l.run-index c.run-item.result
          c.loop-run-test.true c.run-item.is
          ∙ l.invariant.told);
      space = rw c.in_ok-push_run_if_uncovered.ensures.value (space_given c.args.node l.rest.items c.run-item.result l.invariant.space
          c.push_run_if_uncovered.ensures.space);
    }
