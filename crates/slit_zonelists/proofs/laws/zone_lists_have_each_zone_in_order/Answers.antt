use Rattle.std.proofs.Common.{map}
use Rattle.std.proofs.lemmas.List.Sorted.{IsPermutation-trans}
use Rattle.slit_zonelists.specs.Lists.{zonelists_from_slit, zone_of_span, zones_by_node, distance_in, zone_list_of}
use Rattle.slit_zonelists.proofs.OrderLaws.{by_node_ascends, by_node_has}
use Rattle.slit_zonelists.proofs.ListLaws.{all_laid, distance_low, laid_ascends}
use Rattle.slit_zonelists.proofs.laws.zone_lists_have_each_zone_in_order.Goals as goal

pub returns-clause-each : goal.returns-clause-each
unfolding zone_list_of
returns-clause-each c = λ slit domains spans node bytes.
    let k = zonelists_from_slit slit domains spans in
    let zs = map zone_of_span spans in
    IsPermutation-trans zs (zones_by_node zs) (zone_list_of k node) (by_node_has zs)
    (all_laid (λ z. distance_in k node z.node) (zones_by_node zs) 256 (λ z. distance_low k node z.node bytes))

pub returns-clause-order : goal.returns-clause-order
unfolding zone_list_of
returns-clause-order c = λ slit domains spans node.
    laid_ascends (zonelists_from_slit slit domains spans) node (zones_by_node (map zone_of_span spans)) 0 256
    (by_node_ascends (map zone_of_span spans))
