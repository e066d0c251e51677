use Rattle.std.proofs.Common.{◌≡◌, Some, None, sym, ◌∙◌, ap, subst}
use Rattle.buddy_handover.specs.BuddyView.{node_of_free_frame}
use Rattle.buddy_blocks.specs.Buddies.{with_set}
use Rattle.page_alloc.specs.declared.act.PageAct.TheVariants as acts
use Rattle.page_alloc.specs.declared.outcome.PageOutcome.{PageOutcome}
use Rattle.page_alloc.specs.declared.outcome.PageOutcome.TheVariants as outcomes
use Rattle.page_alloc.specs.PagesView.{PagesView, frames_held_by, page_state_of}
use Rattle.page_alloc.specs.FramePlaces.{IsValidPageState}
use Rattle.page_alloc.specs.Pages.{PageState, with_held_frames, free_held_frames}
use Rattle.page_alloc.proofs.BookLaws.{state_is, changed}
use Rattle.page_alloc.proofs.KeptLaws.{step_kept}
use Rattle.page_alloc.proofs.pages.Pages.free_held_frames.Goals as goal

pub put_back-requires-clause-small : goal.put_back-requires-clause-small
put_back-requires-clause-small c =
    let is = subst (λ (b : PagesView). frames_held_by b.ids c.args.id ≡ Some c.in-Some.held) (sym c.self.view_is) (sym c.held.ensures
    ∙ c.in-Some.is) in
    (c.self.invariant.well c.args.id c.in-Some.held is).small

pub put_back-requires-clause-low : goal.put_back-requires-clause-low
put_back-requires-clause-low c =
    let is = subst (λ (b : PagesView). frames_held_by b.ids c.args.id ≡ Some c.in-Some.held) (sym c.self.view_is) (sym c.held.ensures
    ∙ c.in-Some.is) in
    (c.self.invariant.well c.args.id c.in-Some.held is).low

pub returns-clause-ok : goal.returns-clause-ok
returns-clause-ok c =
    let id = c.args.id in
    let what = c.in-Some.held in
    let is = subst (λ (b : PagesView). frames_held_by b.ids id ≡ Some what) (sym c.self.view_is) (sym c.held.ensures ∙ c.in-Some.is) in
    let b : PagesView = record { buddy = c.self.inside.buddy; ids = c.self.inside.ids.entries } in
    let new : PagesView = record { buddy = c.put_back.new.self; ids = c.remove.new.self.entries } in
    let same : page_state_of new ≡ record {
      frames = with_set what.order what.first what.node (node_of_free_frame b.buddy);
      held = with_held_frames id None (frames_held_by b.ids);
    } =
    state_is (node_of_free_frame new.buddy) (with_set what.order what.first what.node (node_of_free_frame b.buddy)) (frames_held_by new.ids)
    (with_held_frames id None (frames_held_by b.ids))
    c.in_ok-put_back.ensures.runs.each
    (λ q. changed id q None (frames_held_by b.ids) (frames_held_by new.ids q) (c.remove.ensures.updates.0 q)) in
    subst (λ (d : PagesView). (outcomes.Done, page_state_of new) ≡ free_held_frames (page_state_of d) id (frames_held_by d.ids id))
    c.self.view_is
    (ap (λ (s : PageState). let p : PageOutcome × PageState = (outcomes.Done, s) in p) same
    ∙ sym (ap (free_held_frames (page_state_of b) id) is))

pub invariant_of-self-2 : goal.invariant_of-self-2
invariant_of-self-2 c =
    let id = c.args.id in
    let what = c.in-Some.held in
    let is = subst (λ (b : PagesView). frames_held_by b.ids id ≡ Some what) (sym c.self.view_is) (sym c.held.ensures ∙ c.in-Some.is) in
    let b : PagesView = record { buddy = c.self.inside.buddy; ids = c.self.inside.ids.entries } in
    let new : PagesView = record { buddy = c.put_back.new.self; ids = c.remove.new.self.entries } in
    let same : page_state_of new ≡ record {
      frames = with_set what.order what.first what.node (node_of_free_frame b.buddy);
      held = with_held_frames id None (frames_held_by b.ids);
    } =
    state_is (node_of_free_frame new.buddy) (with_set what.order what.first what.node (node_of_free_frame b.buddy)) (frames_held_by new.ids)
    (with_held_frames id None (frames_held_by b.ids))
    c.in_ok-put_back.ensures.runs.each
    (λ q. changed id q None (frames_held_by b.ids) (frames_held_by new.ids q) (c.remove.ensures.updates.0 q)) in
    let all = step_kept (page_state_of b) (acts.Give id) tt c.self.invariant in
    subst (λ (s : PageState). IsValidPageState s) (sym (same ∙ sym (ap (λ o. (free_held_frames (page_state_of b) id o).1) is))) all
