use Rattle.std.proofs.Common.{◌++◌, List, map, ◌∙◌, subst}
use Rattle.std.proofs.lemmas.Result.{IfOk-weaker}
use Rattle.address_runs.specs.Overlay.{overlay_runs}
use Rattle.address_runs.specs.Runs.{RunOf, IsRunsOf}
use Rattle.address_runs.proofs.OverlayLaws.{HaveAddresses-map_id, AreRuns-map_id}
use Rattle.std.specs.Option.{option_or}
use Rattle.srat_nodes.specs.Steps.{run_without_node, run_with_node}
use Rattle.srat_nodes.proofs.RestLaws.{marked_runs-HaveAddresses, left_runs}
use Rattle.srat_nodes.proofs.rest.uncovered_runs.Goals as goal

pub overlay_all-requires : goal.overlay_all-requires
overlay_all-requires c =
    HaveAddresses-map_id c.deref.result.now (rw (c.deref.ensures.value, c.in_ok-told.ensures)
    (marked_runs-HaveAddresses c.args.memory.now c.args.joined.now c.requires.memory c.requires.joined))

pub returns-clause-runs : goal.returns-clause-runs
returns-clause-runs c =
    let laid = AreRuns-map_id option_or c.deref.result.now c.in_ok-covered.covered.items c.in_ok-covered.ensures in
    let told : IsRunsOf
    (overlay_runs option_or (map run_with_node c.args.joined.now ++ map run_without_node c.args.memory.now)) c.deref-2.result.now =
    rw c.deref-2.ensures.value (subst (λ (ss : List (RunOf _)). IsRunsOf (overlay_runs option_or ss) c.in_ok-covered.covered.items)
    (c.deref.ensures.value ∙ c.in_ok-told.ensures) laid) in
    let runs = left_runs c.args.memory.now c.args.joined.now c.args.node c.deref-2.result.now told in
    IfOk-weaker c.uncovered_runs_with_node.result _ _ (λ rest is. rw is runs) c.uncovered_runs_with_node.ensures.value
