-- Where each frame is after a boot that isn't stopped (`memblock_free_all`). A usable frame is
-- touched by a claim or is in exactly one block of the buddy lists, and no other frame is in a
-- block. Each block is as large as possible (`__free_one_page`). The blocks are those of the frames
-- that the boot reports as free (`blocks_of`). These facts depend only on the map, the owners and
-- the nodes of memory, and not on the stages of the boot.
use Rattle.std.specs.Prelude.{◌≡◌, ◌⊎◌, ℕ, ◌+◌, ◌-◌, ◌%◌, ◌^◌, ◌<◌, ◌≤◌, Bool, true, ◌&&◌, nat_le, nat_lt, Some, List, count_by}
use Rattle.bm_base.specs.Range.{covers}
use Rattle.bm_base.specs.Frames.{bytes_of_frame}
use Rattle.bm_base.specs.Zones.{zone_of}
use Rattle.e820_model.specs.Usable.{is_usable_frame}
use Rattle.memblock_model.specs.Labels.{node_of_tag}
use Rattle.memblock_model.specs.Items.{tag_of}
use Rattle.memblock_model.specs.declared.item.Item.{Item}
use Rattle.buddy_blocks.specs.declared.block.Block.{Block}
use Rattle.buddy_blocks.specs.declared.block.TheConstants.{MAX_ORDER}
use Rattle.buddy_blocks.specs.BlockList.{ListsBlock, blocks_of}
use Rattle.boot_model.specs.Boot.{InputsView, BootedView, types_in_reach}
use Rattle.conservation.specs.RecordedClaims.{IsTouched, IsUntouched}

-- each byte of the frame is RAM, or the kernel's own memory, in the finished map, and the frame
-- lies below the limit of physical addresses (`e820__memblock_setup`, `memblock_trim_memory`)
abbrev pub IsUsable : InputsView → ℕ → Type 0
IsUsable inputs frame = is_usable_frame (types_in_reach inputs) frame ≡ true

-- whether the frame is one of the block's 2^order frames, from its first frame on
abbrev pub has_frame : Block → ℕ → Bool
has_frame b frame = nat_le b.first frame && nat_lt frame (b.first + 2 ^ b.order)

-- the number of blocks of the list that have the frame
abbrev pub count_blocks_with : List Block → ℕ → ℕ
count_blocks_with blocks frame = count_by (λ b. has_frame b frame) blocks

-- the blocks of the buddy lists: those of the frames that a boot reports as free
abbrev pub booted_blocks : BootedView → List Block
booted_blocks booted = blocks_of booted.free

-- a usable frame of the block's zone, in which no byte is claimed and every byte is memory of the
-- block's node
pub record IsFreeFor (inputs : InputsView) (items : List Item) (b : Block) (frame : ℕ) : Type 0 where
  pub usable : IsUsable inputs frame
  pub untouched : IsUntouched items frame
  pub node : (x : ℕ) → covers (bytes_of_frame frame) x ≡ true → node_of_tag (tag_of items x) ≡ Some b.node
  pub zone : zone_of frame ≡ b.zone

-- every frame of the block is usable, unclaimed, memory of the block's node, and in its zone
-- (`IsFreeFor`)
abbrev pub AreAllFree : InputsView → List Item → Block → Type 0
AreAllFree inputs items b = (frame : ℕ) → has_frame b frame ≡ true → IsFreeFor inputs items b frame

-- the block that has the frames of `b` and of its buddy: twice as many frames, aligned to their
-- number (`__find_buddy_pfn`)
abbrev pub block_with_buddy : Block → Block
block_with_buddy b = record b { order = b.order + 1; first = b.first - b.first % 2 ^ (b.order + 1) }

-- The block's order is at most 10, and it begins at a multiple of its number of frames. Each of its
-- frames is usable, unclaimed, memory of the block's node, and in its zone.
pub record IsWhole (inputs : InputsView) (items : List Item) (b : Block) : Type 0 where
  pub small : b.order ≤ MAX_ORDER
  pub aligned : b.first % 2 ^ b.order ≡ 0
  pub frames : AreAllFree inputs items b

-- if the block's order is below 10, some frame of the block or of its buddy is unusable, claimed,
-- or of another node or zone
abbrev pub IsMaximal : InputsView → List Item → Block → Type 0
IsMaximal inputs items b = b.order < MAX_ORDER → ¬ AreAllFree inputs items (block_with_buddy b)

-- the frame is touched by a claim and in no block, or it is touched by no claim and in exactly one
-- block
abbrev pub IsTouchedOrInOneBlock : BootedView → ℕ → Type 0
IsTouchedOrInOneBlock booted frame =
    (IsTouched booted.items frame × (count_blocks_with (booted_blocks booted) frame ≡ 0))
    ⊎ (IsUntouched booted.items frame × (count_blocks_with (booted_blocks booted) frame ≡ 1))

-- each usable frame is touched by a claim with a recorded owner, or is in exactly one block, and
-- not both
abbrev pub AllTouchedOrInOneBlock : InputsView → BootedView → Type 0
AllTouchedOrInOneBlock inputs booted = (frame : ℕ) → IsUsable inputs frame → IsTouchedOrInOneBlock booted frame

-- each frame that is in a block is usable, and no claim touches it
abbrev pub NoOtherInABlock : InputsView → BootedView → Type 0
NoOtherInABlock inputs booted =
    (frame : ℕ) → 0 < count_blocks_with (booted_blocks booted) frame → IsUsable inputs frame × IsUntouched booted.items frame

-- each block has an order up to 10, is aligned, has only usable and unclaimed frames, and lies in
-- one node and one zone
abbrev pub BlocksAreWhole : InputsView → BootedView → Type 0
BlocksAreWhole inputs booted = (b : Block) → ListsBlock (booted_blocks booted) b → IsWhole inputs booted.items b

-- each block is as large as possible: unless its order is 10, a block with its buddy's frames too
-- would have a frame that is unusable, claimed, or of another node or zone
abbrev pub BlocksAreMaximal : InputsView → BootedView → Type 0
BlocksAreMaximal inputs booted = (b : Block) → ListsBlock (booted_blocks booted) b → IsMaximal inputs booted.items b
