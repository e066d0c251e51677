-- Placing maps and usage data changes neither memory nor the limit.
use Rattle.std.proofs.Common.{◌≡◌, ℕ, ◌+◌, true, false, List, [], ◌∷◌, ◌++◌, length}
use Rattle.memblock_model.specs.declared.owner.Owner.TheVariants as owner
use Rattle.memblock_model.specs.declared.item.Item.{Item}
use Rattle.memblock_model.specs.Items.{memory_of, limit_of}
use Rattle.memblock_grow.specs.declared.stop.Section.{Section}
use Rattle.memblock_grow.specs.declared.stop.What.TheVariants as what
use Rattle.stage_steps.specs.Steps.{items_after_step}
use Rattle.stage_steps.specs.KeepsMemory.{KeepsMemory}
use Rattle.stage_steps.proofs.QuietLaws.{quiet-returns, quiet-listed, quiet-bind, quiet-turn, quiet-placed, quiet-else, quiet-appended_memory, quiet-appended_limit}
use Rattle.section_maps.specs.declared.placed.Placed.{Placed}
use Rattle.section_maps.specs.Maps.{SectionGroup, sections_in, groups_of, usage_request, map_request, consecutive_places, place_each_map, place_map_buffer, place_section_group, place_maps}

quiet-each : (usage : ℕ) (before : List Placed) (sections : List Section) → KeepsMemory (place_each_map usage before sections)
quiet-each usage before [] = quiet-returns before
quiet-each usage before (s ∷ ss) =
    quiet-bind _ _ (quiet-placed (what.Map s.number) (map_request 1 s.node false) (owner.Map s.number))
    (λ map. quiet-each (usage + 40) (before ++ record { section = s.number; node = s.node; map = map; usage = usage } ∷ []) ss)

quiet-all : (usage : ℕ) (before : List Placed) (first : Section) (sections : List Section)
    → KeepsMemory (place_map_buffer usage before first sections)
quiet-all usage before first sections =
    quiet-bind _ _ (quiet-placed (what.Map first.number) (map_request (length sections) first.node true) (owner.Map first.number))
    (λ map. quiet-returns (before ++ consecutive_places usage map sections))

quiet-group : (before : List Placed) (g : SectionGroup) → KeepsMemory (place_section_group before g)
quiet-group before g =
    let ss = sections_in g in
    quiet-bind _ _ (quiet-placed (what.Usage g.first.number) (usage_request (length ss) g.first.node) (owner.Usage g.first.number))
    (λ usage. quiet-else _ _ (quiet-all usage before g.first ss) (quiet-each usage before ss))

pub quiet-maps : (sections : List Section) → KeepsMemory (place_maps sections)
unfolding place_maps
quiet-maps sections =
    quiet-bind _ _ (quiet-listed (λ items. [])) (λ none. quiet-turn place_section_group quiet-group none (groups_of sections))

pub place_maps-memory : (sections : List Section) (items : List Item)
    → memory_of (items_after_step items (place_maps sections items)) ≡ memory_of items
place_maps-memory sections items = quiet-appended_memory items (place_maps sections items).steps ((quiet-maps sections).each items)

pub place_maps-limit : (sections : List Section) (items : List Item)
    → limit_of (items_after_step items (place_maps sections items)) ≡ limit_of items
place_maps-limit sections items = quiet-appended_limit items (place_maps sections items).steps ((quiet-maps sections).each items)
