-- The searches that an allocation tries (`memblock_alloc_range_nid`, `memblock_alloc_internal`).
use Rattle.std.specs.Prelude.{ℕ, ◌==◌, Bool, true, false, min, if◌then◌else◌, Option, Some, None, List, [], ◌∷◌, ◌++◌, unwrap_or}
use Rattle.std.specs.Option.{option_or}
use Rattle.memblock_model.specs.declared.query.Query.{Query}
use Rattle.memblock_model.specs.declared.item.Item.{Item}
use Rattle.memblock_model.specs.Items.{limit_of}
use Rattle.memblock_model.specs.Search.{top_place}
use Rattle.memblock_model.specs.declared.query.Request.{Request}

-- one search: its query, and whether only mirrored memory is allowed
pub record Attempt : Type 0 where
  pub query : Query
  pub mirror : Bool

-- one search of a request: from address `lo` up to the request's maximum or the limit, whichever
-- is lower. It searches the node `wanted`, or all nodes if `wanted` is None.
abbrev pub attempt : Request → ℕ → ℕ → Bool → Option ℕ → Attempt
attempt r limit lo mirror wanted =
    let asked : Query = record { lo = lo; hi = min (unwrap_or r.max limit) limit; size = r.size; align = r.align; node = wanted } in
    record { query = asked; mirror = mirror }

-- the search on any node that follows the one on the request's node; none if the request names no
-- node, or allows only its own
abbrev pub any_node_attempt : Request → ℕ → ℕ → Bool → Option ℕ → List Attempt
any_node_attempt r limit lo mirror None = []
any_node_attempt r limit lo mirror (Some node) = if r.exact then [] else attempt r limit lo mirror None ∷ []

-- the searches from `lo` on: on the request's node, and then on any node unless the request allows
-- only its node
abbrev pub node_attempts : Request → ℕ → ℕ → Bool → List Attempt
node_attempts r limit lo mirror = attempt r limit lo mirror r.node ∷ any_node_attempt r limit lo mirror r.node

-- the searches from `lo` on: first in mirrored memory, then in any (`choose_memblock_flags`); if no
-- memory is mirrored, the first ones find nothing
abbrev pub attempts_from : Request → ℕ → ℕ → List Attempt
attempts_from r limit lo = node_attempts r limit lo true ++ node_attempts r limit lo false

-- all searches of a request in order: those from its minimum on and then, if it has a minimum
-- above 0, those from 0 on
abbrev pub attempts : Request → ℕ → List Attempt
attempts r limit = attempts_from r limit r.min ++ (if r.min == 0 then [] else attempts_from r limit 0)

-- the address that the first successful search finds, or None if all fail
abbrev pub first_found_place : List Item → List Attempt → Option ℕ
first_found_place items [] = None
first_found_place items (a ∷ rest) = option_or (top_place items a.query a.mirror) (first_found_place items rest)

-- the address that an allocation gets, or None if all its searches fail
abbrev pub place_for : Request → List Item → Option ℕ
place_for r items = first_found_place items (attempts r (limit_of items))
