-- The places of the sections, step by step.
use Rattle.std.proofs.Common.{◌≡◌, List, Result, Ok, Err, Vec, Global, refl, subst}
use Rattle.bm_base.specs.declared.width.Width.{Width}
use Rattle.memblock_model.specs.declared.item.Item.{Item}
use Rattle.memblock_model.specs.Items.{memory_of}
use Rattle.memblock_grow.specs.declared.stop.Section.{Section}
use Rattle.memblock_grow.specs.declared.stop.StageStop.{StageStop}
use Rattle.memblock_grow.specs.declared.stop.StageStop.TheVariants as stage
use Rattle.stage_steps.specs.Causes.{StageCause, error_of_stage_cause}
use Rattle.stage_steps.specs.Steps.{StageStep, EndsAsStage, ◌>>=◌, view_of_result, return_value, read_items_allocating}
use Rattle.stage_steps.proofs.DoingLaws.{ends-first, ends-listed, ends-second, ends-wanting}
use Rattle.sparse_sections.specs.Present.{present}
use Rattle.sparse_sections.specs.declared.places.Roots.{Roots}
use Rattle.sparse_sections.specs.Roots.{RootsView, place_roots}
use Rattle.section_maps.specs.declared.placed.Placed.{Placed}
use Rattle.section_maps.specs.Maps.{place_maps}
use Rattle.boot_model.specs.Sections.{SectionPlaces, place_present_sections, place_sections}
use Rattle.boot_model.specs.View.{sections_view}

-- the places of the sections, as contracts see them
abbrev pub places_view : Result (Roots × Vec Placed Global) StageStop → Result SectionPlaces StageStop
places_view r = view_of_result (λ places. sections_view places.0 places.1) r

abbrev placed_of : RootsView → List Placed → SectionPlaces
placed_of table placed = record { roots = table; placed = placed }

-- the rest of the stage once the roots are placed: the section maps
abbrev after_roots : List Section → RootsView → StageStep StageCause SectionPlaces
after_roots sections table = place_maps sections >>= λ placed. return_value (placed_of table placed)

abbrev sections_in : List Item → List Section
sections_in items = present (memory_of items)

module _ (width : Width) where
  -- placing the sections that have memory ends as placing exactly this list of sections does
  from_present : (r : Result SectionPlaces StageStop) (old new : List Item) (sections : List Section) → sections ≡ sections_in old
      → EndsAsStage (place_sections width sections) error_of_stage_cause r old new
      → EndsAsStage (place_present_sections width) error_of_stage_cause r old new
  unfolding place_present_sections
  from_present r old new sections is ends =
      ends-second (sections_in old) r error_of_stage_cause old old new (read_items_allocating sections_in) (place_sections width)
      (ends-listed sections_in error_of_stage_cause old)
      (subst (λ (ss : List Section). EndsAsStage (place_sections width ss) error_of_stage_cause r old new) is ends)

  -- the program runs out of memory for the list of the sections
  pub places-wanting : (r : Result (Roots × Vec Placed Global) StageStop) (old : List Item) → r ≡ Err stage.Memory
      → EndsAsStage (place_present_sections width) error_of_stage_cause (places_view r) old old
  unfolding place_present_sections
  places-wanting r old is =
      rw is (ends-first stage.Memory error_of_stage_cause old old (read_items_allocating sections_in) (place_sections width)
      (ends-wanting sections_in error_of_stage_cause old))

  module _ (r : Result (Roots × Vec Placed Global) StageStop) (old new : List Item) (sections : List Section)
      (is : sections ≡ sections_in old) where
    pub places-first : (e : StageStop) → r ≡ Err e
        → EndsAsStage {A = RootsView} (place_roots width sections) error_of_stage_cause (Err e) old new
        → EndsAsStage (place_present_sections width) error_of_stage_cause (places_view r) old new
    places-first e exits ends =
        rw exits (from_present (Err e) old new sections is
        (ends-first e error_of_stage_cause old new (place_roots width sections) (after_roots sections) ends))

    pub places-second : (e : StageStop) (mid : List Item) (table : RootsView) → r ≡ Err e
        → EndsAsStage (place_roots width sections) error_of_stage_cause (Ok table) old mid
        → EndsAsStage {A = List Placed} (place_maps sections) error_of_stage_cause (Err e) mid new
        → EndsAsStage (place_present_sections width) error_of_stage_cause (places_view r) old new
    places-second e mid table exits first ends =
        rw exits (from_present (Err e) old new sections is
        (ends-second table (Err e) error_of_stage_cause old mid new (place_roots width sections) (after_roots sections) first
        (ends-first e error_of_stage_cause mid new (place_maps sections) (λ placed. return_value (placed_of table placed)) ends)))

  pub places-all : (old mid new : List Item) (sections : List Section) (table : RootsView) (placed : List Placed)
      → sections ≡ sections_in old → EndsAsStage (place_roots width sections) error_of_stage_cause (Ok table) old mid
      → EndsAsStage (place_maps sections) error_of_stage_cause (Ok placed) mid new
      → EndsAsStage (place_present_sections width) error_of_stage_cause (Ok (placed_of table placed)) old new
  places-all old mid new sections table placed present_is first ends =
      from_present (Ok (placed_of table placed)) old new sections present_is
      (ends-second table (Ok (placed_of table placed)) error_of_stage_cause old mid new (place_roots width sections)
      (after_roots sections) first
      (ends-second placed (Ok (placed_of table placed)) error_of_stage_cause mid new new (place_maps sections)
      (λ p. return_value (placed_of table p)) ends (refl, refl)))
