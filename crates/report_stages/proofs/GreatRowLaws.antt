-- Lemmas on a long row cut into three parts, of which the middle one consists of batches.
use Rattle.std.proofs.Common.{◌≡◌, ℕ, ◌+◌, ◌-◌, ◌*◌, ◌/◌, ◌%◌, ◌^◌, ◌<◌, ◌≤◌, List, ◌++◌, ap, ◌∙◌, append_assoc, Result, Ok, Err, arith}
use Rattle.std.specs.Prelude.{OnOk}
use Rattle.bm_base.specs.declared.memory.Memory.{Memory}
use Rattle.buddy_blocks.specs.declared.block.BlockRow.{BlockRow}
use Rattle.buddy_blocks.specs.declared.block.Block.{Block}
use Rattle.buddy_blocks.specs.Rows.{blocks_of_row}
use Rattle.report_stages.specs.BlocksText.{AreAlignedBlocks, row_text}
use Rattle.report_stages.specs.Batches.{FillBatches}
use Rattle.report_stages.proofs.RowLaws.{first_placed, lines, lines_append, part, placed_before, placed_after, row_end, three_parts}

-- the number of blocks before the first multiple of 4 GiB
abbrev pub before : ℕ → ℕ
before x = (1048576 - x % 1048576) % 1048576 / 1024

before_is : (x : ℕ) → x % 1024 ≡ 0 → (before x < 1024) × ((x + before x * 1024) % 1048576 ≡ 0)
before_is x aligned = (omega arith, omega (arith, aligned))

-- the row has b blocks, then blocks that fill batches, and then e blocks
pub record InParts (row : BlockRow) (b e : ℕ) : Type 0 where
  pub few : b + e < row.count
  pub end : row.first + row.count * 1024 ≤ 2 ^ 40
  pub before : AreAlignedBlocks (blocks_of_row (part row 0 b))
  pub fill : FillBatches (part row b (row.count - b - e))
  pub after : AreAlignedBlocks (blocks_of_row (part row (row.count - e) e))
  pub text : row_text row ≡ row_text (part row 0 b) ++ (row_text (part row b (row.count - b - e)) ++ row_text (part row (row.count - e) e))

in_parts : (row : BlockRow) (b m e : ℕ) → row.order ≡ 10 → row.count ≡ b + (m + e) → 0 < m → m % 1024 ≡ 0 → m ≡ row.count - b - e
    → (row.first + b * 1024) % 1048576 ≡ 0 → row.first + row.count * 1024 ≤ 2 ^ 40 → AreAlignedBlocks (blocks_of_row row) → InParts row b e
in_parts row b m e great count some whole middle aligned end placed =
    let front : List Block = blocks_of_row (part row 0 b) in
    let back : List Block = blocks_of_row (part row (row.count - e) e) in
    let all = rw middle at (three_parts row b m e great count) in
    let parts = rw all at placed in
    record {
      few = omega (arith, count, some);
      end = end;
      before = placed_before front _ parts;
      fill = record {
        order = great;
        first = aligned;
        count = rw middle at whole;
        end = omega (arith, count, end);
      };
      after = placed_after (blocks_of_row (part row b (row.count - b - e))) back (placed_after front _ parts);
      text = ap lines all ∙ simp lines_append;
    }

pub great_parts : (row : BlockRow) → row.order ≡ 10 → 2048 ≤ row.count → AreAlignedBlocks (blocks_of_row row)
    → InParts row (before row.first) ((row.count - before row.first) % 1024)
great_parts row great many placed =
    let here = rw great at placed in
    let first = first_placed 10 row.first row.node row.count row.zone here (omega (arith, many)) in
    let aligned = first.2 in
    let front = before_is row.first aligned in
    let few = front.0 in
    let b : ℕ = before row.first in
    in_parts row b ((row.count - b) / 1024 * 1024) ((row.count - b) % 1024) great (omega (arith, many, few)) (omega (arith, many, few))
    (omega arith) (omega (arith, many, few)) front.1 (row_end row.count row.first row.node row.zone here (omega (arith, many))) placed

-- if the calls append the lines of the three parts, they append the lines of the row
pub parts_put : (row : BlockRow) (b e : ℕ) (answer : Result (Unit {0}) Memory) (old first second third : List ℕ) → InParts row b e
    → first ≡ old ++ row_text (part row 0 b)
    → second ≡ first ++ row_text (part row b (row.count - b - e))
    → OnOk answer (third ≡ second ++ row_text (part row (row.count - e) e))
    → OnOk answer (third ≡ old ++ row_text row)
parts_put row b e (Ok done) old first second third parts one two three = rw (three, two, one, parts.text) (simp append_assoc)
parts_put row b e (Err error) old first second third parts one two three = tt
