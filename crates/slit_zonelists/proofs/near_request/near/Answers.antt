-- A zone in the list serves, so the request isn't refused.
use Rattle.std.proofs.Common.{◌≡◌, None, IsSome, OnErr, List, ◌∙◌, subst, rules}
use Rattle.page_alloc.specs.PagesView.{frames_held_by, page_state_of}
use Rattle.slit_zonelists.specs.declared.order.ListZone.{ListZone}
use Rattle.slit_zonelists.specs.Near.{first_zone}
use Rattle.slit_zonelists.proofs.LineLaws.{near_takes, err_then}
use Rattle.slit_zonelists.proofs.near_request.near.Goals as goal

pub returns-in_default-clause-memory : goal.returns-in_default-clause-memory
returns-in_default-clause-memory c =
    let none : frames_held_by c.args.pages.now.ids c.args.id ≡ None = search rules in
    err_then c.outcome_without_list.result _ _
    (near_takes c.args.lists.now (page_state_of c.args.pages.now) c.args.id c.args.order c.args.node none)
    c.outcome_without_list.ensures.memory

pub returns-clause-memory : goal.returns-clause-memory
returns-clause-memory c =
    let none : frames_held_by c.args.pages.now.ids c.args.id ≡ None = search rules in
    err_then c.take_from_first_zone.result _ _
    (near_takes c.args.lists.now (page_state_of c.args.pages.now) c.args.id c.args.order c.args.node none)
    (subst (λ (zs : List ListZone). OnErr c.take_from_first_zone.result
    (IsSome (first_zone (page_state_of c.args.pages.now) c.args.order zs)))
    (c.deref.ensures.value ∙ c.in-Ok.ensures.list) c.take_from_first_zone.ensures.memory)
