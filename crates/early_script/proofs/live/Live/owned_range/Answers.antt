-- The map has the range, and the journal's result is the definition's test.
use Rattle.std.proofs.Common.{◌≡◌, true, false, Some, sym, ◌∙◌, subst}
use Rattle.early_script.specs.LiveView.{LiveView, range_of_id}
use Rattle.early_script.specs.FromMemblock.{state_of_memblock}
use Rattle.early_script.proofs.IdsLaws.{bytes-found}
use Rattle.early_script.proofs.WholeLaws.{owned-by, whole-is}
use Rattle.early_script.proofs.live.Live.owned_range.Goals as goal

pub returns-then-not-owns-clause-outcome : goal.returns-then-not-owns-clause-outcome
returns-then-not-owns-clause-outcome c =
    let found = subst (λ (ids : LiveView). range_of_id ids c.args.id ≡ Some c.in-Some.range) c.self.view_is
    (sym c.get.ensures.value ∙ sym c.copied.ensures ∙ c.in-Some.is) in
    let owned = owned-by c.journal.result.now c.args.mb.now.journal c.args.id c.in-Some.range c.owns.result false c.journal.ensures.journal
    c.if-not-owns.true c.owns.ensures in
    whole-is (state_of_memblock c.args.self.now c.args.mb.now) c.args.id c.in-Some.range false found owned

pub returns-clause-range : goal.returns-clause-range
returns-clause-range c =
    let found = subst (λ (ids : LiveView). range_of_id ids c.args.id ≡ Some c.in-Some.range) c.self.view_is
    (sym c.get.ensures.value ∙ sym c.copied.ensures ∙ c.in-Some.is) in
    let owned = owned-by c.journal.result.now c.args.mb.now.journal c.args.id c.in-Some.range c.owns.result true c.journal.ensures.journal
    c.if-not-owns.false c.owns.ensures in
    whole-is (state_of_memblock c.args.self.now c.args.mb.now) c.args.id c.in-Some.range true found owned

pub returns-clause-some : goal.returns-clause-some
returns-clause-some c =
    bytes-found c.self.inside.ids.entries c.args.id c.in-Some.range c.self.invariant
    (sym c.get.ensures.value ∙ sym c.copied.ensures ∙ c.in-Some.is)
