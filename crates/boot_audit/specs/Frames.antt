-- What the lines of saved reports say of a frame and of a block. Each frame is tested on its own,
-- byte by byte, and the order of the lines doesn't matter.
use Rattle.std.specs.Prelude.{ℕ, ◌+◌, ◌-◌, ◌*◌, ◌/◌, ◌%◌, ◌^◌, ◌==◌, ◌&&◌, ◌||◌, Bool, true, false, not, nat_lt, List}
use Rattle.std.specs.List.{list_any}
use Rattle.bm_base.specs.Range.{RangeView, covers}
use Rattle.bm_base.specs.Each.{each_in}
use Rattle.bm_base.specs.Frames.{bytes_of_frame}
use Rattle.bm_base.specs.Zones.{zone_of}
use Rattle.bm_base.specs.declared.zone.Zone.{Zone}
use Rattle.bm_base.specs.declared.zone.Zone.TheVariants as zones
use Rattle.bm_base.specs.declared.range.TheConstants.{FRAME_SIZE}
use Rattle.audit_lines.specs.Blocks.{BlockLineView}
use Rattle.audit_lines.specs.declared.lines.MapLine.{MapLine}

-- whether the type is RAM, or memory that the kernel keeps for itself (`E820_TYPE_RAM`,
-- `E820_TYPE_RESERVED_KERN`)
abbrev pub is_memory_type : ℕ → Bool
is_memory_type kind = (kind == 1) || (kind == 128)

-- whether the byte at address `x` is in a line of the report `map` whose type is memory
abbrev pub is_in_memory : List MapLine → ℕ → Bool
is_in_memory map x = list_any (λ l. is_memory_type l.kind && covers l.range x) map

-- whether the byte at address `x` is in a range of the report `owners`
abbrev pub has_owner : List RangeView → ℕ → Bool
has_owner owners x = list_any (λ r. covers r x) owners

-- whether each byte of the frame is below the address `limit`, and in a line of the report `map`
-- whose type is memory
unfoldable pub is_usable : ℕ → List MapLine → ℕ → Bool
is_usable limit map frame = each_in (bytes_of_frame frame) (λ x. nat_lt x limit && is_in_memory map x)

-- whether no byte of the frame has an owner
unfoldable pub is_untouched : List RangeView → ℕ → Bool
is_untouched owners frame = each_in (bytes_of_frame frame) (λ x. not (has_owner owners x))

-- the frames of a block, as a range of frame numbers
abbrev pub frames_of_block : BlockLineView → RangeView
frames_of_block b = record { base = b.at / FRAME_SIZE; size = 2 ^ b.order }

-- whether the frame is in a block of the list
abbrev pub is_in_a_block : List BlockLineView → ℕ → Bool
is_in_a_block blocks frame = list_any (λ b. covers (frames_of_block b) frame) blocks

-- whether the block's address is a multiple of its size in bytes
abbrev pub is_aligned : BlockLineView → Bool
is_aligned b = b.at % (FRAME_SIZE * 2 ^ b.order) == 0

-- whether the two zones are the same
abbrev pub same_zone : Zone → Zone → Bool
same_zone zones.Dma zones.Dma = true
same_zone zones.Dma32 zones.Dma32 = true
same_zone zones.Normal zones.Normal = true
same_zone a b = false

-- whether each frame of the block is in the zone that its line names
unfoldable pub is_in_zone : BlockLineView → Bool
is_in_zone b = each_in (frames_of_block b) (λ frame. same_zone (zone_of frame) b.zone)

-- the block together with its buddy (`__find_buddy_pfn`), as a range of frame numbers: the aligned
-- set of twice as many frames that contains the block
abbrev pub parent_of : BlockLineView → RangeView
parent_of b = record {
  base = b.at / FRAME_SIZE - b.at / FRAME_SIZE % 2 ^ (b.order + 1);
  size = 2 ^ (b.order + 1);
}

-- whether the two blocks have the same node and zone
abbrev pub are_of_one_zone : BlockLineView → BlockLineView → Bool
are_of_one_zone b c = (b.node == c.node) && same_zone b.zone c.zone

-- whether the frame is in a block of the list that has the same node and zone as block `b`
abbrev pub is_in_same_zone_block : BlockLineView → List BlockLineView → ℕ → Bool
is_in_same_zone_block b blocks frame = list_any (λ c. are_of_one_zone b c && covers (frames_of_block c) frame) blocks

-- whether the block could merge with its buddy: its order is below 10, which is the greatest
-- order, and blocks of its node and zone cover both the block and its buddy
unfoldable pub could_merge : List BlockLineView → BlockLineView → Bool
could_merge blocks b = nat_lt b.order 10 && each_in (parent_of b) (is_in_same_zone_block b blocks)
