-- Defines when a list of blocks is an index of the free frames. All its members are blocks. It has
-- each block, except that it may lack blocks of the largest order that come right after another
-- one on the same node and in the same zone.
use Rattle.std.specs.Prelude.{◌≡◌, ◌⊎◌, ◌↔◌, ℕ, ◌-◌, ◌≤◌, List}
use Rattle.buddy_blocks.specs.declared.block.Block.{Block}
use Rattle.buddy_blocks.specs.declared.block.BlockRow.{BlockRow}
use Rattle.buddy_blocks.specs.Frames.{Frames, IsBlock}
use Rattle.buddy_blocks.specs.BlockList.{ListsBlock}
use Rattle.buddy_blocks.specs.Buddies.{IsBuddy}

-- the block is of the largest order, and begins where another block of its order, node and zone
-- ends
pub record FollowsLargestBlock (f : Frames) (b : Block) : Type 0 where
  pub great : b.order ≡ 10
  pub room : 1024 ≤ b.first
  pub before : IsBlock f (record b { first = b.first - 1024 })

-- the list is an index of the blocks of the free frames `f`
pub record IndexesFreeBlocks (f : Frames) (bs : List Block) : Type 0 where
  pub sound : (b : Block) → ListsBlock bs b → IsBlock f b
  pub complete : (b : Block) → IsBlock f b → ListsBlock bs b ⊎ FollowsLargestBlock f b

-- the first block of a row
abbrev pub first_block_of_row : BlockRow → Block
first_block_of_row r = record { order = r.order; first = r.first; node = r.node; zone = r.zone }

-- both blocks are of the largest order, on one node and in one zone
pub record AreLargestInSameZone (b next : Block) : Type 0 where
  pub great : b.order ≡ 10
  pub order : next.order ≡ 10
  pub node : next.node ≡ b.node
  pub zone : next.zone ≡ b.zone

-- the list `new` has the blocks of `old`, and also one buddy of each order from `low` to below
-- `until`: the buddies of the aligned sets that have frame `x`, on the node and in the zone of `b`
-- (`IsBuddy`)
abbrev pub AddsBuddies : Block → ℕ → ℕ → ℕ → List Block → List Block → Type 0
AddsBuddies b low until x old new = (c : Block) → ListsBlock new c ↔ (IsBuddy b low until x c ⊎ ListsBlock old c)

-- the list `new` has the blocks of `old`, except one buddy of each order from `low` to below
-- `until`: the buddies of the aligned sets that have frame `x`, on the node and in the zone of `b`
-- (`IsBuddy`)
abbrev pub RemovesBuddies : Block → ℕ → ℕ → ℕ → List Block → List Block → Type 0
RemovesBuddies b low until x old new = (c : Block) → ListsBlock new c ↔ ((IsBuddy b low until x c → ⊥) × ListsBlock old c)
