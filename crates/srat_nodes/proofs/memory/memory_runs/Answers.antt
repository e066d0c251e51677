use Rattle.std.proofs.Common.{List, Bool, map, ◌++◌, ◌∙◌, ap, subst}
use Rattle.std.proofs.lemmas.Result.{IfOk-weaker}
use Rattle.std.specs.Option.{option_or}
use Rattle.address_runs.specs.Overlay.{overlay_runs}
use Rattle.address_runs.specs.Runs.{RunOf, IsRunsOf}
use Rattle.address_runs.proofs.OverlayLaws.{HaveAddresses-map_id, AreRuns-map_id}
use Rattle.srat_nodes.specs.Steps.{run_without_node}
use Rattle.srat_nodes.proofs.MemoryLaws.{memory_runs_are_memory}
use Rattle.srat_nodes.proofs.RestLaws.{run_without_node-HaveAddresses}
use Rattle.srat_nodes.proofs.memory.memory_runs.Goals as goal

pub overlay_all-requires : goal.overlay_all-requires
overlay_all-requires c =
    HaveAddresses-map_id c.deref.result.now (rw (c.deref.ensures.value, c.in_ok-push_uncovered_memory.ensures, c.new-told.ensures.items)
    (run_without_node-HaveAddresses c.args.memory.now c.requires))

pub returns-clause-bytes : goal.returns-clause-bytes
returns-clause-bytes c =
    IfOk-weaker c.overlay_all.result _ _ (λ runs laid.
    memory_runs_are_memory c.args.memory.now runs.items
    (subst (λ (ss : List (RunOf Bool)). IsRunsOf (overlay_runs option_or ss) runs.items)
    (c.deref.ensures.value ∙ c.in_ok-push_uncovered_memory.ensures
    ∙ ap (λ (rs : List (RunOf Bool)). rs ++ map run_without_node c.args.memory.now)
    c.new-told.ensures.items) (AreRuns-map_id option_or c.deref.result.now runs.items laid)))
    c.overlay_all.ensures
