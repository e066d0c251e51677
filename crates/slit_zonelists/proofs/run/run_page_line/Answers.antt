-- A zone in the list serves, so the line isn't refused.
use Rattle.std.proofs.Common.{◌≡◌, None, IsSome, OnErr, List, sym, subst, rules}
use Rattle.page_alloc.specs.declared.act.PageAct.{PageAct}
use Rattle.page_alloc.specs.PagesView.{frames_held_by, page_state_of}
use Rattle.page_alloc.specs.Pages.{NeedsMemory}
use Rattle.slit_zonelists.specs.declared.order.ListZone.{ListZone}
use Rattle.slit_zonelists.specs.Lists.{zone_list_of}
use Rattle.slit_zonelists.specs.Near.{first_zone, page_step_by_distance}
use Rattle.slit_zonelists.proofs.LineLaws.{near_takes, err_then}
use Rattle.slit_zonelists.proofs.run.run_page_line.Goals as goal

pub returns-then-is_err-clause-memory : goal.returns-then-is_err-clause-memory
returns-then-is_err-clause-memory c =
    let k = c.args.lists.now in
    let s = page_state_of c.args.pages.now in
    let none : frames_held_by c.args.pages.now.ids c.in-Near.id ≡ None = search rules in
    subst (λ (act : PageAct). OnErr c.outcome_without_list.result (NeedsMemory (page_step_by_distance k s act).0)) (sym c.in-Near.is)
    (err_then c.outcome_without_list.result _ _
    (near_takes k s c.in-Near.id c.in-Near.order c.in-Near.node none) c.outcome_without_list.ensures.memory)

pub returns-clause-memory : goal.returns-clause-memory
returns-clause-memory c =
    let k = c.args.lists.now in
    let s = page_state_of c.args.pages.now in
    let none : frames_held_by c.args.pages.now.ids c.in-Near.id ≡ None = search rules in
    let list : c.deref.result.now ≡ zone_list_of k c.in-Near.node = search rules in
    subst (λ (act : PageAct). OnErr c.take_from_first_zone.result (NeedsMemory (page_step_by_distance k s act).0)) (sym c.in-Near.is)
    (err_then c.take_from_first_zone.result _ _ (near_takes k s c.in-Near.id c.in-Near.order c.in-Near.node none)
    (subst (λ (zs : List ListZone). OnErr c.take_from_first_zone.result (IsSome (first_zone s c.in-Near.order zs))) list
    c.take_from_first_zone.ensures.memory))
