use Rattle.std.proofs.Common.{List, ◌∙◌, subst}
use Rattle.std.proofs.lemmas.Result.{IfOk-weaker}
use Rattle.std.specs.Option.{option_or}
use Rattle.address_runs.specs.Overlay.{overlay_runs}
use Rattle.address_runs.specs.Runs.{IsRunsOf}
use Rattle.address_runs.proofs.OverlayLaws.{AreRuns-map_id}
use Rattle.srat_nodes.specs.NodeAt.{NumaBlock}
use Rattle.srat_nodes.proofs.NodesLaws.{laid_given}
use Rattle.srat_nodes.proofs.hulls.overlay_blocks.Goals as goal

pub returns : goal.returns
returns c =
    IfOk-weaker c.overlay_all.result _ _ (λ runs laid.
    laid_given _ runs.items
    (subst (λ (bs : List NumaBlock). IsRunsOf (overlay_runs option_or bs) runs.items) (c.deref.ensures.value ∙ c.in_ok-blocks.ensures)
    (AreRuns-map_id option_or c.deref.result.now runs.items laid)))
    c.overlay_all.ensures
