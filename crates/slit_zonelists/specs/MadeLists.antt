-- Zone lists that were already made, in a map from nodes to lists.
use Rattle.std.specs.Prelude.{◌≡◌, ℕ, Some, Vec}
use Rattle.std.specs.Ordering.{nat_cmp}
use Rattle.std.specs.BTreeMap.{BTreeMap, get}
use Rattle.slit_zonelists.specs.declared.order.ListZone.{ListZone}
use Rattle.slit_zonelists.specs.Lists.{ZoneListsView, zone_list_of}

-- each zone list in the map is that of its node
abbrev pub AreZoneListsOfNodes : {A : Type 0} → ZoneListsView → BTreeMap ℕ (Vec ListZone A) → Type 0
AreZoneListsOfNodes {A} k made = (node : ℕ) (list : Vec ListZone A) → get nat_cmp made node ≡ Some list → list.items ≡ zone_list_of k node
