use Rattle.std.proofs.Common.{◌∙◌, ap, List}
use Rattle.slit_zonelists.specs.declared.order.ListZone.{ListZone}
use Rattle.slit_zonelists.specs.Lists.{zone_list_of}
use Rattle.slit_zonelists.specs.Near.{first_zone, take_from_zone, take_from_nearest}
use Rattle.slit_zonelists.proofs.LineLaws.{first_is, first_none}
use Rattle.slit_zonelists.proofs.laws.near_takes_from_the_first_zone.Goals as goal

pub returns-clause-first : goal.returns-clause-first
returns-clause-first c = λ k s id order node z none is.
    ap (take_from_nearest s id order (zone_list_of k node)) none
    ∙ ap (λ (zs : List ListZone). take_from_zone s id order (first_zone s order zs)) is.is
    ∙ ap (take_from_zone s id order) (first_is s order is.before z is.after is.has is.first)

pub returns-clause-none : goal.returns-clause-none
returns-clause-none c = λ k s id order node none all.
    ap (take_from_nearest s id order (zone_list_of k node)) none
    ∙ ap (take_from_zone s id order) (first_none s order (zone_list_of k node) all)
