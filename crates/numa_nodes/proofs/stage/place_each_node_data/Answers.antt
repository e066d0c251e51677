-- Each node's data is one allocation.
use Rattle.std.proofs.Common.{Ok, Err, get_or, refl, ap}
use Rattle.std.proofs.lemmas.Result.{err_from_is_err_and}
use Rattle.memblock_model.specs.declared.query.Request.{Request}
use Rattle.stage_steps.specs.Causes.{error_of_stage_cause}
use Rattle.stage_steps.proofs.DoingLaws.{ends-begun}
use Rattle.memblock_grow.proofs.GoingLaws.{goes-then}
use Rattle.numa_nodes.specs.Assignment.{place_node_data}
use Rattle.numa_nodes.proofs.TurnLaws.{turn-next, turn-stops, turn-done, data-placed}
use Rattle.numa_nodes.proofs.stage.place_each_node_data.Goals as goal

pub place_or_stop-requires-clause-aligned : goal.place_or_stop-requires-clause-aligned
place_or_stop-requires-clause-aligned c = (6, ap (λ (q : Request). q.align) c.node_data_request-request.ensures)

pub returns-in_err-place_or_stop-clause-ends : goal.returns-in_err-place_or_stop-clause-ends
returns-in_err-place_or_stop-clause-ends c =
    let node = get_or c.args.nodes.now c.loop-node.node-index 0 in
    let here = c.loop-node.memblock.journal.items in
    let new = c.place_or_stop.new.memblock.journal.items in
    let e = c.in_err-place_or_stop.field-0.0 in
    let p = err_from_is_err_and c.from_residual.result c.from_residual.ensures.1 in
    rw (p.1, p.2) (turn-stops c.loop-node.invariant.ends node 0 new e c.loop-node-test.true refl
    (data-placed
    (Err e) node here new c.node_data_request-request.result c.node_data_request-request.ensures c.in_err-place_or_stop.ensures.ends))

pub returns-in_err-place_or_stop-clause-goes_on : goal.returns-in_err-place_or_stop-clause-goes_on
returns-in_err-place_or_stop-clause-goes_on c = λ start goes.
    goes-then start c.loop-node.memblock c.place_or_stop.new.memblock
    (c.loop-node.invariant.goes_on start goes) c.in_err-place_or_stop.ensures.goes_on

pub loop-node-preserved : goal.loop-node-preserved
loop-node-preserved c =
    let node = get_or c.args.nodes.now c.loop-node.node-index 0 in
    let here = c.loop-node.memblock.journal.items in
    let mid = c.place_or_stop.new.memblock.journal.items in
    let was = data-placed
    (Ok c.in_ok-place_or_stop.field-0) node here mid c.node_data_request-request.result c.node_data_request-request.ensures
    c.in_ok-place_or_stop.ensures.ends in
    record {
      begun = ends-begun (Ok tt) error_of_stage_cause here mid (place_node_data tt node) c.loop-node.invariant.begun was;
      ends = turn-next c.loop-node.invariant.ends node 0 mid c.loop-node-test.true refl was;
      goes_on = λ start goes.
          goes-then start c.loop-node.memblock c.place_or_stop.new.memblock
          (c.loop-node.invariant.goes_on start goes) c.in_ok-place_or_stop.ensures.goes_on;
    }

pub returns-clause-ends : goal.returns-clause-ends
returns-clause-ends c = turn-done c.loop-node.invariant.ends c.loop-node-test.false
