-- The block from which the page allocator serves a request for an order (`__rmqueue_smallest`). It
-- has the smallest sufficient order, and it is the lowest block of that order.
use Rattle.std.specs.Prelude.{◌≡◌, ◌⊎◌, ℕ, zero, suc, ◌+◌, ◌-◌, ◌<◌, ◌≤◌, Option, None}
use Rattle.std.specs.List.{find}
use Rattle.std.specs.Option.{option_or, option_map}
use Rattle.bm_base.specs.declared.zone.Zone.{Zone}
use Rattle.buddy_blocks.specs.declared.block.Block.{Block}
use Rattle.buddy_blocks.specs.Frames.{Frames, IsBlock}
use Rattle.buddy_blocks.specs.BlockList.{blocks_of, is_block_of}

-- the block can serve the request: it is on the node, in the zone, and of this order or a larger
-- one
pub record CanServe (n : ℕ) (z : Zone) (order : ℕ) (b : Block) : Type 0 where
  pub node : b.node ≡ n
  pub zone : b.zone ≡ z
  pub enough : order ≤ b.order

-- the request is served from this block: each other block that could serve it has a larger order,
-- or the same order and a higher first frame
pub record IsPicked (f : Frames) (node : ℕ) (zone : Zone) (order : ℕ) (b : Block) : Type 0 where
  pub block : IsBlock f b
  pub serves : CanServe node zone order b
  pub least : (c : Block) → IsBlock f c → CanServe node zone order c → (b.order < c.order) ⊎ ((b.order ≡ c.order) × (b.first ≤ c.first))

-- no block can serve the request
abbrev pub NoneServes : Frames → ℕ → Zone → ℕ → Type 0
NoneServes f node zone order = (b : Block) → IsBlock f b → CanServe node zone order b → ⊥

-- the block that is picked, as a function of the free frames. It looks at the `k` orders from
-- `order` on. Of the first order that has a block on the node and in the zone, it takes the lowest
-- such block.
abbrev pub picked_block_from : Frames → ℕ → Zone → ℕ → ℕ → Option Block
picked_block_from f node zone order zero = None
picked_block_from f node zone order (suc k) =
    option_or (find (is_block_of node zone order) (blocks_of f)) (picked_block_from f node zone (order + 1) k)

-- the block from which a request for `order` is served; orders go up to 10
unfoldable pub picked_block : Frames → ℕ → Zone → ℕ → Option Block
picked_block f node zone order = picked_block_from f node zone order (11 - order)

-- the first frame of the block from which the request is served
abbrev pub picked_first_frame : Frames → ℕ → Zone → ℕ → Option ℕ
picked_first_frame f node zone order = option_map (λ b. b.first) (picked_block f node zone order)
