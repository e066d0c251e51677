-- The groups of sections as stretches of the list of sections. A group begins where the node
-- changes (`sparse_init`).
use Rattle.std.specs.Prelude.{◌≡◌, ◌≢◌, ◌<◌, List, length, All}
use Rattle.std.specs.List.{AllAdjacentBelow, flat_map}
use Rattle.memblock_grow.specs.declared.stop.Section.{Section}
use Rattle.section_maps.specs.Maps.{SectionGroup, sections_in}

-- all sections of the group are of one node
abbrev pub HasOneNode : SectionGroup → Type 0
HasOneNode g = All (λ s. s.node ≡ g.first.node) (sections_in g)

-- The groups, one after another, are the list of sections in its order, and none is empty. The
-- sections of a group have one node, and neighbouring groups have different nodes. Each group is
-- therefore a maximal stretch: sections of one node that are next to each other in the list, and
-- as many as possible.
pub record AreMaximalStretches (sections : List Section) (groups : List SectionGroup) : Type 0 where
  pub joined : flat_map sections_in groups ≡ sections
  pub some : All (λ g. 0 < length (sections_in g)) groups
  pub one_node : All HasOneNode groups
  pub apart : AllAdjacentBelow (λ g h. g.first.node ≢ h.first.node) groups (length groups)
