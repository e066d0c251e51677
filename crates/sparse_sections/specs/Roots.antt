-- Defines the allocations of the table of roots and of each root (`memory_present`,
-- `sparse_index_alloc`).
use Rattle.std.specs.Prelude.{ℕ, ◌/◌, ◌==◌, Bool, false, if◌then◌else◌, Option, Some, None, List, [], ◌∷◌, ◌++◌}
use Rattle.bm_base.specs.declared.range.TheConstants.{FRAME_SIZE}
use Rattle.bm_base.specs.declared.width.Width.{Width}
use Rattle.bm_base.specs.Width.{root_table_size_of}
use Rattle.memblock_model.specs.declared.owner.Owner.TheVariants as owner
use Rattle.memblock_model.specs.declared.query.Request.{Request}
use Rattle.memblock_grow.specs.declared.stop.Section.{Section}
use Rattle.memblock_grow.specs.declared.stop.What.TheVariants as what
use Rattle.stage_steps.specs.Causes.{StageCause}
use Rattle.stage_steps.specs.Steps.{StageStep, ◌>>=◌, return_value, read_items_allocating, fold_steps}
use Rattle.stage_steps.specs.Requests.{place_or_stop}
use Rattle.sparse_sections.specs.declared.places.RootPlace.{RootPlace}
use Rattle.sparse_sections.specs.declared.places.Roots.{Roots}

-- the number of a section's root; each root has entries for 256 sections (`SECTIONS_PER_ROOT`)
abbrev pub root_of : Section → ℕ
root_of s = s.number / 256

abbrev pub is_last_root : Option ℕ → ℕ → Bool
is_last_root None root = false
is_last_root (Some last) root = last == root

-- the first section of each root, if the sections are in ascending order; the sections of the root
-- `last` are left out, because that root has been placed already
abbrev pub first_of_each_root : Option ℕ → List Section → List Section
first_of_each_root last [] = []
first_of_each_root last (s ∷ ss) =
    if is_last_root last (root_of s) then first_of_each_root last ss else (s ∷ first_of_each_root (Some (root_of s)) ss)

-- a request for `size` bytes, aligned to a cache line (64 bytes), on the node if one is given and
-- has room, else on any node
abbrev pub cache_line_request : ℕ → Option ℕ → Request
cache_line_request size node = record { size = size; align = 64; min = 0; max = None; node = node; exact = false }

-- the step that places the root of a section: a page, on the section's node if there is room
abbrev pub place_root : List RootPlace → Section → StageStep StageCause (List RootPlace)
place_root before s =
    place_or_stop (what.Root (root_of s)) (cache_line_request FRAME_SIZE (Some s.node)) (owner.Root (root_of s))
    >>= λ place. return_value (before ++ record { number = root_of s; place = place } ∷ [])

abbrev pub place_each_root : List Section → StageStep StageCause (List RootPlace)
place_each_root sections = read_items_allocating (λ items. []) >>= λ none. fold_steps place_root none (first_of_each_root None sections)

-- what contracts see of the table of roots and the roots (`Roots`)
pub record RootsView : Type 0 where
  pub table : ℕ
  pub roots : List RootPlace

abbrev pub roots_view : Roots → RootsView
roots_view r = record { table = r.table; roots = r.roots.items }

-- the whole stage: the step that places the table, which has room for each root that addresses of
-- this width can have, and then the steps that place the roots in order
unfoldable pub place_roots : Width → List Section → StageStep StageCause RootsView
place_roots width sections =
    place_or_stop what.Roots (cache_line_request (root_table_size_of width) None) owner.Roots
    >>= λ table. (place_each_root sections >>= λ places. return_value (record { table = table; roots = places }))
