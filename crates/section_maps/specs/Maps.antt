-- Defines how the maps and the usage data of sections are placed (`sparse_init_nid`,
-- `sparse_buffer_init`, `__populate_section_memmap`).
use Rattle.std.specs.Prelude.{ℕ, ◌+◌, ◌*◌, ◌==◌, Bool, true, false, if◌then◌else◌, Some, None, List, [], ◌∷◌, ◌++◌, length}
use Rattle.memblock_model.specs.declared.owner.Owner.TheVariants as owner
use Rattle.memblock_model.specs.declared.query.Request.{Request}
use Rattle.memblock_grow.specs.declared.stop.Section.{Section}
use Rattle.memblock_grow.specs.declared.stop.What.TheVariants as what
use Rattle.stage_steps.specs.Causes.{StageCause}
use Rattle.stage_steps.specs.Steps.{StageStep, ◌>>=◌, return_value, read_items_allocating, fold_steps}
use Rattle.stage_steps.specs.Requests.{place_or_stop, or_else}
use Rattle.section_maps.specs.declared.placed.Placed.{Placed}

-- a group of sections: neighbours in the list that are on one node; the first of them and the
-- others
pub record SectionGroup : Type 0 where
  pub first : Section
  pub others : List Section

abbrev pub sections_in : SectionGroup → List Section
sections_in g = g.first ∷ g.others

abbrev pub prepend_section : Section → List SectionGroup → List SectionGroup
prepend_section s [] = record { first = s; others = [] } ∷ []
prepend_section s (g ∷ gs) =
    if s.node == g.first.node then record { first = s; others = sections_in g } ∷ gs else (record { first = s; others = [] } ∷ (g ∷ gs))

abbrev pub groups_of : List Section → List SectionGroup
groups_of [] = []
groups_of (s ∷ ss) = prepend_section s (groups_of ss)

-- the request for the usage data of n sections: 40 bytes each, on the node if there is room
-- (`sparse_early_usemaps_alloc_pgdat_section`)
abbrev pub usage_request : ℕ → ℕ → Request
usage_request n node = record { size = 40 * n; align = 64; min = 0; max = None; node = Some node; exact = false }

-- the request for the maps of n sections: 2 MiB each, at or above 16 MiB if there is room
-- (`__pa(MAX_DMA_ADDRESS)`); only on the node if `exact` is set
abbrev pub map_request : ℕ → ℕ → Bool → Request
map_request n node exact = record {
  size = 0x200000 * n;
  align = 0x200000;
  min = 0x1000000;
  max = None;
  node = Some node;
  exact = exact;
}

-- the sections of a group with their addresses. The usage data (40 bytes each) lies one after
-- another from address `usage` on, and the maps (2 MiB each) from address `map` on.
abbrev pub consecutive_places : ℕ → ℕ → List Section → List Placed
consecutive_places usage map [] = []
consecutive_places usage map (s ∷ ss) =
    record { section = s.number; node = s.node; map = map; usage = usage } ∷ consecutive_places (usage + 40) (map + 0x200000) ss

-- the steps that place the map of each section alone. The usage data of the sections is placed
-- already: 40 bytes each, from address `usage` on.
abbrev pub place_each_map : ℕ → List Placed → List Section → StageStep StageCause (List Placed)
place_each_map usage before [] = return_value before
place_each_map usage before (s ∷ ss) =
    place_or_stop (what.Map s.number) (map_request 1 s.node false) (owner.Map s.number)
    >>= λ map. place_each_map (usage + 40) (before ++ record { section = s.number; node = s.node; map = map; usage = usage } ∷ []) ss

-- the step that places all maps of a group in one buffer, on the node itself
abbrev pub place_map_buffer : ℕ → List Placed → Section → List Section → StageStep StageCause (List Placed)
place_map_buffer usage before first sections =
    place_or_stop (what.Map first.number) (map_request (length sections) first.node true) (owner.Map first.number)
    >>= λ map. return_value (before ++ consecutive_places usage map sections)

-- the steps for a group: they place its usage data, and then its maps in one buffer, or one by one
-- if no buffer is free
abbrev pub place_group : List Placed → Section → List Section → StageStep StageCause (List Placed)
place_group before first sections =
    place_or_stop (what.Usage first.number) (usage_request (length sections) first.node) (owner.Usage first.number)
    >>= λ usage. or_else (place_map_buffer usage before first sections) (place_each_map usage before sections)

abbrev pub place_section_group : List Placed → SectionGroup → StageStep StageCause (List Placed)
place_section_group before g = place_group before g.first (sections_in g)

-- the whole stage: makes a list with room for all sections, and then places the groups in order
unfoldable pub place_maps : List Section → StageStep StageCause (List Placed)
place_maps sections = read_items_allocating (λ items. []) >>= λ none. fold_steps place_section_group none (groups_of sections)
