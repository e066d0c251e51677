-- A batch is the lines of the report `blocks` for the 1,024 blocks of the largest order in 4 GiB,
-- from a multiple of 4 GiB on. Each line ends with an address of sixteen hexadecimal digits. The
-- first eight digits are the same in all lines of a batch. The last eight digits are the same in
-- line j of every batch.
use Rattle.std.specs.Prelude.{◌≡◌, ℕ, zero, suc, ◌+◌, ◌*◌, ◌%◌, ◌^◌, ◌≤◌, List, [], ◌++◌, drop, codes}
use Rattle.bm_base.specs.Text.{hex_text}
use Rattle.buddy_blocks.specs.declared.block.BlockRow.{BlockRow}
use Rattle.buddy_blocks.specs.declared.block.TheConstants.{MAX_ORDER}
use Rattle.buddy_blocks.specs.declared.run.TheConstants.{MAX_FRAMES}
use Rattle.buddy_blocks.specs.Rows.{row_from}
use Rattle.report_memory.specs.Lines.{indexed_lines}
use Rattle.report_stages.specs.BlocksText.{block_line}

-- the last eight hexadecimal digits of a number
abbrev pub eight_digits : ℕ → List ℕ
eight_digits n = drop 10 (hex_text n)

-- the end of the line of block j of a batch, with j from 0: the last eight digits of the block's
-- address, and the newline
abbrev pub batch_line_end : ℕ → List ℕ
batch_line_end j = eight_digits (j * 2 ^ 22) ++ codes "\n"

-- the line of block j of a batch: `front` is the text before the digits of the block's address, and
-- `digits` are the first eight digits
abbrev pub batch_line : List ℕ → List ℕ → ℕ → List ℕ
batch_line front digits j = front ++ (digits ++ batch_line_end j)

-- the lines of n blocks of a batch, from block j on
unfoldable pub batch_lines_from : List ℕ → List ℕ → ℕ → ℕ → List ℕ
batch_lines_from front digits j zero = []
batch_lines_from front digits j (suc n) = batch_line front digits j ++ batch_lines_from front digits (j + 1) n

-- all 1,024 lines of a batch; `front` is the text before the digits of each address, and `digits`
-- are the first eight digits
abbrev pub batch_text : List ℕ → List ℕ → List ℕ
batch_text front digits = batch_lines_from front digits 0 1024

-- the row consists of blocks of the largest order, begins and ends at multiples of 4 GiB, and has
-- only frames below `MAX_FRAMES`
pub record FillBatches (row : BlockRow) : Type 0 where
  pub order : row.order ≡ MAX_ORDER
  pub first : row.first % 2 ^ 20 ≡ 0
  pub count : row.count % 1024 ≡ 0
  pub end : row.first + row.count * 1024 ≤ MAX_FRAMES

-- the lines of the first 1,024 blocks of a row of blocks
abbrev pub first_batch : BlockRow → List ℕ
first_batch row = indexed_lines block_line 0 (row_from row.order row.first row.node row.zone 1024)
