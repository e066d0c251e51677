-- How blocks change when frames are allocated and freed. If an aligned set of frames is removed
-- from a block, one buddy is left of each order from the set's order to below the block's order
-- (`expand`). If the set is added back, the buddies are merged with it again (`__free_one_page`).
use Rattle.std.specs.Prelude.{◌≡◌, ℕ, ◌+◌, ◌-◌, ◌*◌, ◌/◌, ◌%◌, ◌^◌, ◌<◌, ◌≤◌, ◌==◌, if◌then◌else◌, None}
use Rattle.address_runs.specs.Edits.{uncover_range, replace_in_range}
use Rattle.buddy_blocks.specs.declared.block.Block.{Block}
use Rattle.buddy_blocks.specs.Frames.{Frames, IsInSet}
use Rattle.buddy_blocks.specs.BlockList.{set_around}

-- the free frames without the aligned set of `2^order` frames that has frame `x`
abbrev pub without_set : ℕ → ℕ → Frames → Frames
without_set order x f = uncover_range (set_around order x) f

-- the free frames together with the aligned set of `2^order` frames that has frame `x`; all
-- frames of the set are on this node
abbrev pub with_set : ℕ → ℕ → ℕ → Frames → Frames
with_set order x node f = replace_in_range (set_around order x) node f

-- `g` has the same free frames as `f`, except that the aligned set of `2^order` frames that has
-- frame `x` isn't free in `g`
pub record RemovesFrameSet (f g : Frames) (order x : ℕ) : Type 0 where
  pub gone : (y : ℕ) → IsInSet order x y → g y ≡ None
  pub kept : (y : ℕ) → (IsInSet order x y → ⊥) → g y ≡ f y

-- the other number of a pair, which is an even number and the odd one after it: 3 for 2, and 2
-- for 3
abbrev pub other_half : ℕ → ℕ
other_half q = if q % 2 == 0 then q + 1 else q - 1

-- the first frame of the buddy of the aligned set of `2^order` frames that has frame `x`
-- (`__find_buddy_pfn`)
abbrev pub buddy_first : ℕ → ℕ → ℕ
buddy_first order x = other_half (x / 2 ^ order) * 2 ^ order

-- the buddy of the aligned set of `2^order` frames that has frame `x`, as a block with the node
-- and the zone of `b`
abbrev pub buddy_of : Block → ℕ → ℕ → Block
buddy_of b order x = record b { order = order; first = buddy_first order x }

-- `c` is the buddy of the aligned set of some order, from `low` to below `until`, that has frame
-- `x`; it is on the node and in the zone of `b`. If `until` is the order of `b`, these are the
-- buddies that are left when the set of `2^low` frames is taken from `b`.
pub record IsBuddy (b : Block) (low until x : ℕ) (c : Block) : Type 0 where
  pub order : ℕ
  pub from : low ≤ order
  pub below : order < until
  pub is : c ≡ buddy_of b order x
