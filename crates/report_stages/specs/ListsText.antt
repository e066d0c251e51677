-- The report `zonelists`: whether the distances of the SLIT are used, and the zone list of each
-- node, which is the order in which an allocation for the node tries the zones. The words are this
-- project's own.
use Rattle.std.specs.Prelude.{ℕ, List, ◌++◌, codes, decimal}
use Rattle.std.specs.List.{flat_map}
use Rattle.slit_zonelists.specs.declared.order.ListZone.{ListZone}
use Rattle.slit_zonelists.specs.declared.uses.SlitUse.{SlitUse}
use Rattle.slit_zonelists.specs.declared.uses.SlitUse.TheVariants as uses
use Rattle.slit_zonelists.specs.Lists.{ZoneListsView, nodes_with_zones, slit_use_of, zone_list_of}
use Rattle.report_memory.specs.Lines.{indexed_lines}
use Rattle.bm_base.specs.Zones.{zone_name}

-- the text that says whether the distances of the SLIT are used, and if not, why. `not valid` is
-- followed by the row and the column of the first bad distance, both from 0.
abbrev pub slit_use_text : SlitUse → List ℕ
slit_use_text uses.Used = codes "used"
slit_use_text uses.Absent = codes "absent"
slit_use_text uses.NoSrat = codes "no srat"
slit_use_text (uses.NotValid row column) = codes "not valid " ++ decimal row ++ codes " " ++ decimal column

-- the line that says whether the distances of the SLIT are used, as in `slit no srat`
abbrev pub slit_use_line : SlitUse → List ℕ
slit_use_line used = codes "slit " ++ slit_use_text used ++ codes "\n"

-- the text of an entry of a zone list, as in ` 0/DMA32`: its node and its zone
abbrev pub list_zone_text : ListZone → List ℕ
list_zone_text z = codes " " ++ decimal z.node ++ codes "/" ++ zone_name z.zone

-- the line of a node, as in `Node 0: 0/Normal 0/DMA32 0/DMA`: the zones of its list in order; the
-- index `n` isn't printed
abbrev pub zonelist_line : ZoneListsView → ℕ → ℕ → List ℕ
zonelist_line k n node = codes "Node " ++ decimal node ++ codes ":" ++ flat_map list_zone_text (zone_list_of k node) ++ codes "\n"

-- the report `zonelists`: whether the SLIT is used, and a line for each node that has memory
abbrev pub zonelists_text : ZoneListsView → List ℕ
zonelists_text k = slit_use_line (slit_use_of k) ++ indexed_lines (zonelist_line k) 0 (nodes_with_zones k.zones)
