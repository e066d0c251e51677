-- The report `blocks`: the free blocks of the buddy lists, as lines of this project's own.
use Rattle.std.specs.Prelude.{◌≡◌, ℕ, ◌%◌, ◌^◌, ◌<◌, ◌≤◌, List, [], ◌∷◌, ◌++◌, codes, decimal}
use Rattle.bm_base.specs.Frames.{bytes_of_frame}
use Rattle.bm_base.specs.Text.{hex_text}
use Rattle.buddy_blocks.specs.declared.block.Block.{Block}
use Rattle.buddy_blocks.specs.declared.block.BlockRow.{BlockRow}
use Rattle.buddy_blocks.specs.declared.block.TheConstants.{MAX_ORDER}
use Rattle.buddy_blocks.specs.declared.run.TheConstants.{MAX_FRAMES}
use Rattle.buddy_blocks.specs.Frames.{Frames}
use Rattle.buddy_blocks.specs.BlockList.{blocks_of}
use Rattle.buddy_blocks.specs.Rows.{blocks_of_row}
use Rattle.report_memory.specs.Lines.{indexed_lines}
use Rattle.bm_base.specs.Zones.{zone_name}

-- the line of a block, as in `node 0 zone DMA32 order 10 0x0000000001000000`: its node, zone and
-- order, and the address of its first byte; the index `n` isn't printed
abbrev pub block_line : ℕ → Block → List ℕ
block_line n b =
    codes "node " ++ decimal b.node ++ codes " zone " ++ zone_name b.zone ++ codes " order " ++ decimal b.order ++ codes " "
    ++ hex_text (bytes_of_frame b.first).base ++ codes "\n"

-- the report `blocks`: a line for each block of the free frames `f`, in ascending order of
-- addresses
abbrev pub blocks_text : Frames → List ℕ
blocks_text f = indexed_lines block_line 0 (blocks_of f)

-- a line for each block of a row, which is a sequence of consecutive blocks of one order, node and
-- zone
abbrev pub row_text : BlockRow → List ℕ
row_text row = indexed_lines block_line 0 (blocks_of_row row)

-- each block has an order up to 10; its first frame is below `MAX_FRAMES`, and a multiple of the
-- number of its frames
abbrev pub AreAlignedBlocks : List Block → Type 0
AreAlignedBlocks [] = Unit {0}
AreAlignedBlocks (b ∷ bs) = (b.order ≤ MAX_ORDER) × (b.first < MAX_FRAMES) × (b.first % 2 ^ b.order ≡ 0) × AreAlignedBlocks bs
