use Rattle.std.proofs.Common.{map, refl, sym, subst, ◌∙◌, arith}
use Rattle.std.proofs.lemmas.Bool.{true≢false}
use Rattle.address_runs.specs.Runs.{value_at}
use Rattle.srat_nodes.specs.declared.kept.KeptBlock.{KeptBlock}
use Rattle.srat_nodes.specs.NodeAt.{NumaBlock}
use Rattle.srat_nodes.proofs.NodesLaws.{HasOwn, own_apart, laid_own}
use Rattle.srat_nodes.proofs.kept.are_apart.Goals as goal

pub returns-then-not-has_value_throughout : goal.returns-then-not-has_value_throughout
returns-then-not-has_value_throughout c = (
  λ yes. absurd (true≢false (sym yes)),
  λ none.
      let laid = c.args.laid.now.items in
      let own = laid_own c.args.kept.now laid c.loop-one.one-index c.one-item.result c.requires none (omega arith) c.one-item.is in
      let here = subst (λ (k : KeptBlock). HasOwn (value_at (map (λ (r : NumaBlock). r) laid)) k.block) (sym c.one.view_is) own in
      absurd (true≢false (sym (c.has_value_throughout.ensures.1 here) ∙ c.if-not-has_value_throughout.true)),
)

pub returns : goal.returns
returns c = (
  λ yes. own_apart (value_at c.args.laid.now.items) c.args.kept.now (λ k d lt. c.loop-one.invariant k d (omega arith)),
  λ none. refl,
)
