-- The blocks of free frames as functions: the block of a frame, and the list of all blocks.
use Rattle.std.specs.Prelude.{◌≡◌, ◌⊎◌, ℕ, zero, suc, ◌+◌, ◌-◌, ◌%◌, ◌^◌, ◌≤◌, ◌==◌, Bool, true, false, ◌&&◌, if◌then◌else◌, Option, Some, None, List, [], ◌∷◌, count_by}
use Rattle.bm_base.specs.Range.{RangeView}
use Rattle.bm_base.specs.Each.{each_in}
use Rattle.bm_base.specs.declared.zone.Zone.{Zone}
use Rattle.bm_base.specs.declared.zone.Zone.TheVariants as zone
use Rattle.bm_base.specs.Zones.{zone_of}
use Rattle.buddy_blocks.specs.declared.block.Block.{Block}
use Rattle.buddy_blocks.specs.declared.run.TheConstants.{MAX_FRAMES}
use Rattle.buddy_blocks.specs.Frames.{Frames}

-- whether the node is `n`; false for no node (`None`)
abbrev pub is_node : Option ℕ → ℕ → Bool
is_node None n = false
is_node (Some m) n = m == n

-- the aligned set of `2^order` frames that has frame `x`, as a range of frames
abbrev pub set_around : ℕ → ℕ → RangeView
set_around order x = record { base = x - x % 2 ^ order; size = 2 ^ order }

-- whether all frames of the aligned set of `2^order` frames that has frame `x` are free, on node
-- `n`
unfoldable pub are_free : Frames → ℕ → ℕ → ℕ → Bool
are_free f order x n = each_in (set_around order x) (λ y. is_node (f y) n)

-- the largest order up to `m` such that all frames of the aligned set of that order that has frame
-- `x` are free, on node `n`
unfoldable pub greatest_free_order : Frames → ℕ → ℕ → ℕ → ℕ
greatest_free_order f x n zero = 0
greatest_free_order f x n (suc m) = if are_free f (suc m) x n then suc m else greatest_free_order f x n m

-- the aligned set of `2^order` frames that has frame `x`, as a block of node `n`
abbrev pub block_around : ℕ → ℕ → ℕ → Block
block_around order x n = record { order = order; first = x - x % 2 ^ order; node = n; zone = zone_of (x - x % 2 ^ order) }

-- The block that has frame `x`, if that frame is free on this node. Its order is the largest, up to
-- 10, for which all frames of the aligned set that has frame `x` are free. If the frame isn't free
-- (`None`), there is no block.
abbrev pub block_for : Frames → ℕ → Option ℕ → Option Block
block_for f x None = None
block_for f x (Some n) = Some (block_around (greatest_free_order f x n 10) x n)

-- the block that has the frame; None if the frame isn't free
abbrev pub block_of : Frames → ℕ → Option Block
block_of f x = block_for f x (f x)

-- the list with the block added at its start, if the block begins at frame `x`; else the list as
-- it is
abbrev pub prepend_block_at : ℕ → Option Block → List Block → List Block
prepend_block_at x None bs = bs
prepend_block_at x (Some b) bs = if b.first == x then b ∷ bs else bs

-- the blocks that begin in the `n` frames from `x` on
unfoldable pub blocks_from : Frames → ℕ → ℕ → List Block
blocks_from f x zero = []
blocks_from f x (suc n) = prepend_block_at x (block_of f x) (blocks_from f (x + 1) n)

-- all blocks of the free frames, in ascending order of their first frames
unfoldable pub blocks_of : Frames → List Block
blocks_of f = blocks_from f 0 MAX_FRAMES

-- the two zones are the same
abbrev pub is_same_zone : Zone → Zone → Bool
is_same_zone zone.Dma zone.Dma = true
is_same_zone zone.Dma32 zone.Dma32 = true
is_same_zone zone.Normal zone.Normal = true
is_same_zone a b = false

-- the block is on the node, in the zone and of the order
abbrev pub is_block_of : ℕ → Zone → ℕ → Block → Bool
is_block_of n z order b = (b.node == n) && ((b.order == order) && is_same_zone b.zone z)

-- the number of blocks on the node, in the zone and of the order
unfoldable pub count_blocks : Frames → ℕ → Zone → ℕ → ℕ
count_blocks f n z order = count_by (is_block_of n z order) (blocks_of f)

-- the block is in the list
abbrev pub ListsBlock : List Block → Block → Type 0
ListsBlock [] b = ⊥
ListsBlock (c ∷ cs) b = (c ≡ b) ⊎ ListsBlock cs b

-- each block in the list begins above the start of the one before it, and the first at `from` or
-- above
abbrev pub AscendFrom : ℕ → List Block → Type 0
AscendFrom from [] = Unit {0}
AscendFrom from (b ∷ bs) = (from ≤ b.first) × AscendFrom (b.first + 1) bs
