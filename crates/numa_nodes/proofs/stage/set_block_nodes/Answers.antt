-- Each range is one change of memory.
use Rattle.std.proofs.Common.{Ok, Err, subst}
use Rattle.std.proofs.lemmas.Result.{err_from_is_err_and}
use Rattle.stage_steps.specs.Causes.{error_of_stage_cause}
use Rattle.stage_steps.specs.Steps.{EndsAsStage}
use Rattle.stage_steps.proofs.DoingLaws.{ends-begun}
use Rattle.memblock_grow.proofs.GoingLaws.{goes-then}
use Rattle.srat_nodes.specs.NodeAt.{NumaBlock}
use Rattle.numa_nodes.specs.Assignment.{set_block_node}
use Rattle.numa_nodes.proofs.TurnLaws.{turn-next, turn-stops, turn-done}
use Rattle.numa_nodes.proofs.stage.set_block_nodes.Goals as goal

pub returns-in_err-set_node_or_stop-clause-ends : goal.returns-in_err-set_node_or_stop-clause-ends
returns-in_err-set_node_or_stop-clause-ends c =
    let run = c.run-item.result in
    let here = c.loop-run.memblock.journal.items in
    let new = c.set_node_or_stop.new.memblock.journal.items in
    let e = c.in_err-set_node_or_stop.field-0.0 in
    let p = err_from_is_err_and c.from_residual.result c.from_residual.ensures.1 in
    rw (p.1, p.2) (turn-stops c.loop-run.invariant.ends run run new e c.loop-run-test.true c.run-item.is
    (subst (λ (b : NumaBlock). EndsAsStage {A = Unit {0}} (set_block_node tt b) error_of_stage_cause (Err e) here new) c.run.view_is
    c.in_err-set_node_or_stop.ensures.ends))

pub returns-in_err-set_node_or_stop-clause-goes_on : goal.returns-in_err-set_node_or_stop-clause-goes_on
returns-in_err-set_node_or_stop-clause-goes_on c = λ start goes.
    goes-then start c.loop-run.memblock c.set_node_or_stop.new.memblock
    (c.loop-run.invariant.goes_on start goes) c.in_err-set_node_or_stop.ensures.goes_on

pub loop-run-preserved : goal.loop-run-preserved
loop-run-preserved c =
    let here = c.loop-run.memblock.journal.items in
    let mid = c.set_node_or_stop.new.memblock.journal.items in
    let run = c.run-item.result in
    let was = subst (λ (b : NumaBlock). EndsAsStage {A = Unit {0}} (set_block_node tt b) error_of_stage_cause (Ok tt) here mid)
    c.run.view_is
    c.in_ok-set_node_or_stop.ensures.ends in
    record {
      begun = ends-begun (Ok tt) error_of_stage_cause here mid (set_block_node tt run) c.loop-run.invariant.begun was;
      ends = turn-next c.loop-run.invariant.ends run run mid c.loop-run-test.true c.run-item.is was;
      goes_on = λ start goes.
          goes-then start c.loop-run.memblock c.set_node_or_stop.new.memblock
          (c.loop-run.invariant.goes_on start goes) c.in_ok-set_node_or_stop.ensures.goes_on;
    }

pub returns-clause-ends : goal.returns-clause-ends
returns-clause-ends c = turn-done c.loop-run.invariant.ends c.loop-run-test.false
