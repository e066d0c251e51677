-- Free frames and their blocks. Each block is defined by itself, as a set of frames: no range is
-- cut and no blocks are merged. The blocks therefore don't depend on the order in which the frames
-- became free (`memblock_free_all`, `__free_one_page`).
use Rattle.std.specs.Prelude.{◌≡◌, ℕ, ◌+◌, ◌/◌, ◌%◌, ◌^◌, ◌<◌, ◌≤◌, Option, Some}
use Rattle.bm_base.specs.declared.zone.Zone.{Zone}
use Rattle.bm_base.specs.Zones.{zone_of}
use Rattle.buddy_blocks.specs.declared.block.Block.{Block}

-- the node of each free frame; None for a frame that isn't free
abbrev pub Frames : Type 0
Frames = ℕ → Option ℕ

-- the frame is in the aligned set of 2^order frames that has `first`
abbrev pub IsInSet : ℕ → ℕ → ℕ → Type 0
IsInSet order first frame = frame / 2 ^ order ≡ first / 2 ^ order

-- each frame of the aligned set of 2^order frames that has `first` is free, on the node
abbrev pub AreFree : Frames → ℕ → ℕ → ℕ → Type 0
AreFree free order first node = (frame : ℕ) → IsInSet order first frame → free frame ≡ Some node

-- the aligned set of 2^order frames that has `first` is *good*: each of its frames is free, on
-- the node, and in the zone
abbrev pub IsFreeInOneZone : Frames → ℕ → ℕ → ℕ → Zone → Type 0
IsFreeInOneZone free order first node zone = (frame : ℕ) → IsInSet order first frame → (free frame ≡ Some node) × (zone_of frame ≡ zone)

-- A block of the free frames: an aligned set of an order up to 10 whose frames are all free, on one
-- node and in one zone. Unless the order is 10, this isn't true of the aligned set of the next
-- order that contains it.
pub record IsBlock (free : Frames) (b : Block) : Type 0 where
  pub small : b.order ≤ 10
  pub aligned : b.first % 2 ^ b.order ≡ 0
  pub good : IsFreeInOneZone free b.order b.first b.node b.zone
  pub whole : b.order < 10 → IsFreeInOneZone free (b.order + 1) b.first b.node b.zone → ⊥

-- the frame is in the block
abbrev pub IsInBlock : Block → ℕ → Type 0
IsInBlock b frame = IsInSet b.order b.first frame
