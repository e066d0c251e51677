-- Placing roots changes neither memory nor the limit.
use Rattle.std.proofs.Common.{◌≡◌, List}
use Rattle.bm_base.specs.declared.width.Width.{Width}
use Rattle.memblock_model.specs.declared.item.Item.{Item}
use Rattle.memblock_model.specs.Items.{memory_of, limit_of}
use Rattle.memblock_grow.specs.declared.stop.Section.{Section}
use Rattle.stage_steps.specs.Steps.{items_after_step}
use Rattle.stage_steps.specs.KeepsMemory.{KeepsMemory}
use Rattle.stage_steps.proofs.QuietLaws.{quiet-returns, quiet-listed, quiet-bind, quiet-turn, quiet-placed, quiet-appended_memory, quiet-appended_limit}
use Rattle.sparse_sections.specs.declared.places.RootPlace.{RootPlace}
use Rattle.sparse_sections.specs.Roots.{place_root, place_roots}

quiet-root : (before : List RootPlace) (s : Section) → KeepsMemory (place_root before s)
quiet-root before s = search (quiet-bind, quiet-placed, quiet-returns)

pub quiet-roots : (width : Width) (sections : List Section) → KeepsMemory (place_roots width sections)
unfolding place_roots
quiet-roots width sections = search (quiet-bind, quiet-placed, quiet-returns, quiet-listed, quiet-turn, quiet-root) depth 9

pub place_roots-memory : (width : Width) (sections : List Section) (items : List Item)
    → memory_of (items_after_step items (place_roots width sections items)) ≡ memory_of items
place_roots-memory width sections items =
    quiet-appended_memory items (place_roots width sections items).steps ((quiet-roots width sections).each items)

pub place_roots-limit : (width : Width) (sections : List Section) (items : List Item)
    → limit_of (items_after_step items (place_roots width sections items)) ≡ limit_of items
place_roots-limit width sections items =
    quiet-appended_limit items (place_roots width sections items).steps ((quiet-roots width sections).each items)
