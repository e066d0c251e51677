-- The reports `zones` and `buddyinfo`. Both have a line for each span, the range of frames of one
-- node in one zone. `zones` prints the frames of the span in this project's own format. `buddyinfo`
-- prints the number of free blocks of each order in the format of `/proc/buddyinfo`
-- (`frag_show_print`).
use Rattle.std.specs.Prelude.{ℕ, ◌+◌, ◌-◌, ◌^◌, ◌==◌, Bool, ◌&&◌, List, ◌++◌, length, replicate, codes, decimal}
use Rattle.std.specs.List.{count_by, filter, flat_map, range_with_len, sum_by}
use Rattle.bm_base.specs.Text.{padded_decimal}
use Rattle.bm_base.specs.declared.zone.Zone.{Zone}
use Rattle.bm_base.specs.declared.zone.Zone.TheVariants as zone
use Rattle.buddy_blocks.specs.declared.block.Block.{Block}
use Rattle.buddy_blocks.specs.declared.block.TheConstants.{MAX_ORDER}
use Rattle.buddy_blocks.specs.Frames.{Frames}
use Rattle.buddy_blocks.specs.BlockList.{blocks_of, is_block_of, is_same_zone}
use Rattle.zone_spans.specs.declared.span.Span.{Span}
use Rattle.zone_spans.specs.Hull.{populated_spans}
use Rattle.report_memory.specs.Lines.{indexed_lines}
use Rattle.bm_base.specs.Zones.{zone_name}

-- the name of the zone, right-aligned in eight columns (`%8s`)
abbrev pub padded_zone : Zone → List ℕ
padded_zone z = replicate (8 - length (zone_name z)) 32 ++ zone_name z

-- whether the block lies on the node and in the zone
abbrev pub is_block_in_zone : ℕ → Zone → Block → Bool
is_block_in_zone node z b = (b.node == node) && is_same_zone b.zone z

-- the number of frames in the blocks of the list that lie on the node and in the zone; a block has
-- 2^order frames
unfoldable pub frames_in_zone : ℕ → Zone → List Block → ℕ
frames_in_zone node z blocks = sum_by (λ b. 2 ^ b.order) (filter (is_block_in_zone node z) blocks)

-- the line of a span: its first frame, the frame after its last, the number of its frames that are
-- memory, and the number of frames in free blocks of this node and zone; the index `n` isn't
-- printed
abbrev pub zone_line : List Block → ℕ → Span → List ℕ
zone_line blocks n s =
    codes "Node " ++ decimal s.node ++ codes ", zone " ++ zone_name s.zone ++ codes " start " ++ decimal s.start ++ codes " end "
    ++ decimal s.end ++ codes " present " ++ decimal s.present ++ codes " free " ++ decimal (frames_in_zone s.node s.zone blocks)
    ++ codes "\n"

-- the report `zones`: a line for each span; `f` gives the free frames
abbrev pub zones_text : Frames → List Span → List ℕ
zones_text f spans = indexed_lines (zone_line (blocks_of f)) 0 spans

-- the number of blocks of one order on the node and in the zone, right-aligned in six columns, and
-- a space (`%6lu `)
abbrev pub block_count_text : List Block → ℕ → Zone → ℕ → List ℕ
block_count_text blocks node z order = padded_decimal 6 (count_by (is_block_of node z order) blocks) ++ codes " "

-- the number of blocks of each order from 0 to 10 on the node and in the zone
unfoldable pub block_counts_text : List Block → ℕ → Zone → List ℕ
block_counts_text blocks node z = flat_map (block_count_text blocks node z) (range_with_len 0 (MAX_ORDER + 1))

-- the line of a span: its node, its zone, and the number of free blocks of each order from 0 to 10;
-- the index `n` isn't printed
unfoldable pub buddyinfo_line : List Block → ℕ → Span → List ℕ
buddyinfo_line blocks n s =
    codes "Node " ++ decimal s.node ++ codes ", zone " ++ padded_zone s.zone ++ codes " "
    ++ block_counts_text blocks s.node s.zone ++ codes "\n"

-- the report `buddyinfo`: a line for each span whose zone has memory of the node, in the format of
-- `/proc/buddyinfo`; `f` gives the free frames. A zone without memory has no line: `frag_show`
-- (mm/vmstat.c) calls `walk_zones_in_node` with `assert_populated` true.
abbrev pub buddyinfo_text : Frames → List Span → List ℕ
buddyinfo_text f spans = indexed_lines (buddyinfo_line (blocks_of f)) 0 (populated_spans spans)
