-- The allocations for sections: the roots, and then the usage data and maps (`sparse_init`).
use Rattle.std.specs.Prelude.{List, []}
use Rattle.bm_base.specs.declared.width.Width.{Width}
use Rattle.memblock_model.specs.Items.{memory_of}
use Rattle.memblock_grow.specs.declared.stop.Section.{Section}
use Rattle.stage_steps.specs.Causes.{StageCause}
use Rattle.stage_steps.specs.Steps.{StageStep, ◌>>=◌, return_value, read_items_allocating}
use Rattle.sparse_sections.specs.Present.{present}
use Rattle.sparse_sections.specs.Roots.{RootsView, place_roots}
use Rattle.section_maps.specs.declared.placed.Placed.{Placed}
use Rattle.section_maps.specs.Maps.{place_maps}

-- the addresses of the table of roots and of the roots, and of each section's map and usage data
pub record SectionPlaces : Type 0 where
  pub roots : RootsView
  pub placed : List Placed

-- the addresses before the stage of sections: there are none yet
abbrev pub no_sections : SectionPlaces
no_sections = record { roots = record { table = 0; roots = [] }; placed = [] }

-- allocates the table of roots and the roots of these sections, and then their usage data and maps
abbrev pub place_sections : Width → List Section → StageStep StageCause SectionPlaces
place_sections width sections = do
  table ← place_roots width sections
  placed ← place_maps sections
  return_value (record { roots = table; placed = placed })

-- allocates the roots, the usage data and the maps of all sections that have memory
unfoldable pub place_present_sections : Width → StageStep StageCause SectionPlaces
place_present_sections width = do
  sections ← read_items_allocating (λ items. present (memory_of items))
  place_sections width sections
