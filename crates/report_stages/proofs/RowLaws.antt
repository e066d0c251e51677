-- Lemmas on the lines of consecutive blocks in rows, and on the bounds of such blocks.
use Rattle.std.proofs.Common.{◌≡◌, ℕ, zero, suc, ◌+◌, ◌-◌, ◌*◌, ◌%◌, ◌^◌, ◌<◌, ◌≤◌, List, [], ◌∷◌, ◌++◌, length, drop, refl, sym, ap, ◌∙◌, append_assoc, drop-cons, get_or, length-append, arith, zero-add, suc-add, add-one}
use Rattle.std.proofs.Math.Nat.{suc-mul, pow-le-pow_right}
use Rattle.bm_base.specs.declared.zone.Zone.{Zone}
use Rattle.buddy_blocks.specs.declared.block.Block.{Block}
use Rattle.buddy_blocks.specs.declared.block.BlockRow.{BlockRow}
use Rattle.buddy_blocks.specs.Rows.{row_from, blocks_of_row, blocks_of_rows}
use Rattle.report_memory.specs.Lines.{indexed_lines}
use Rattle.report_memory.proofs.PutLaws.{text_end}
use Rattle.report_stages.specs.BlocksText.{AreAlignedBlocks, block_line}
use Rattle.report_stages.proofs.BlockLaws.{AreInBounds}

-- the lines of a list of blocks
abbrev pub lines : List Block → List ℕ
lines bs = indexed_lines block_line 0 bs

-- a block's line doesn't depend on the index
lines_any : (i k : ℕ) (bs : List Block) → indexed_lines block_line i bs ≡ indexed_lines block_line k bs
lines_any i k [] = refl
lines_any i k (b ∷ bs) = ap (λ t. block_line 0 b ++ t) (lines_any (i + 1) (k + 1) bs)

pub lines_first : (b : Block) (bs : List Block) → lines (b ∷ bs) ≡ block_line 0 b ++ lines bs
lines_first b bs = ap (λ t. block_line 0 b ++ t) (lines_any 1 0 bs)

pub lines_append : (bs cs : List Block) → lines (bs ++ cs) ≡ lines bs ++ lines cs
lines_append [] cs = refl
lines_append (b ∷ bs) cs =
    rw (lines_any 1 0 (bs ++ cs), lines_any 1 0 bs, lines_append bs cs) (sym (append_assoc (block_line 0 b) (lines bs) (lines cs)))

-- a row is its first k blocks followed by a row of the other m blocks
pub row_parts : (k m o x n : ℕ) (z : Zone) → row_from o x n z (k + m) ≡ row_from o x n z k ++ row_from o (x + k * 2 ^ o) n z m
unfolding row_from
row_parts zero m o x n z = let here : x + 0 * 2 ^ o ≡ x = omega arith in rw (zero-add, here) refl
row_parts (suc k) m o x n z =
    let there : x + 2 ^ o + k * 2 ^ o ≡ x + suc k * 2 ^ o = omega (arith, suc-mul k (2 ^ o)) in
    rw (suc-add, row_parts k m o (x + 2 ^ o) n z, there) refl

pub some_first : (o x n k : ℕ) (z : Zone) → 0 < k
    → row_from o x n z k ≡ (let b : Block = record { order = o; first = x; node = n; zone = z } in b) ∷ row_from o (x + 2 ^ o) n z (k - 1)
unfolding row_from
some_first o x n zero z some = absurd (omega arith)
some_first o x n (suc k) z some = let less : suc k - 1 ≡ k = omega arith in rw less refl

-- this and the next: a row has the number of blocks that it states; the blocks of the remaining
-- rows are those of the next row and of the rows after it
row_length : (o x n k : ℕ) (z : Zone) → length (row_from o x n z k) ≡ k
unfolding row_from
row_length o x n zero z = refl
row_length o x n (suc k) z = let rest = row_length o (x + 2 ^ o) n k z in omega (arith, rest)

pub rows_left : (rs : List BlockRow) (i : ℕ) (d : BlockRow) → i < length rs
    → length (blocks_of_rows (drop i rs)) ≡ (get_or rs i d).count + length (blocks_of_rows (drop (i + 1) rs))
rows_left rs i d within =
    let r : BlockRow = get_or rs i d in
    let rest : List Block = blocks_of_rows (drop (i + 1) rs) in
    let whole : blocks_of_rows (drop i rs) ≡ blocks_of_row r ++ rest = rw (drop-cons rs i d within, add-one) refl in
    ap (λ (bs : List Block). length bs) whole ∙ length-append (blocks_of_row r) rest
    ∙ ap (λ n. n + length rest) (row_length r.order r.first r.node r.count r.zone)

-- a list of blocks within bounds is aligned and below the limit
pub bounds_placed : (bs : List Block) → AreInBounds bs → AreAlignedBlocks bs
bounds_placed [] all = tt
bounds_placed (b ∷ bs) all = (all.0.order, all.0.first, all.0.aligned, bounds_placed bs all.1)

-- this and the next: if a list is aligned and below the limit, so is its second part, and so is its
-- first
pub placed_after : (bs cs : List Block) → AreAlignedBlocks (bs ++ cs) → AreAlignedBlocks cs
placed_after [] cs all = all
placed_after (b ∷ bs) cs all = placed_after bs cs all.3

pub placed_before : (bs cs : List Block) → AreAlignedBlocks (bs ++ cs) → AreAlignedBlocks bs
placed_before [] cs all = tt
placed_before (b ∷ bs) cs all = (all.0, all.1, all.2, placed_before bs cs all.3)

-- this and the next: if a row is aligned and below the limit, so are its first block and the rest
pub first_placed : (o x n k : ℕ) (z : Zone) → AreAlignedBlocks (row_from o x n z k) → 0 < k → (o ≤ 10) × (x < 2 ^ 40) × (x % 2 ^ o ≡ 0)
first_placed o x n k z all some = let parts = rw (some_first o x n k z some) at all in (parts.0, parts.1, parts.2)

pub rest_placed : (o x n k : ℕ) (z : Zone) → AreAlignedBlocks (row_from o x n z k) → 0 < k
    → AreAlignedBlocks (row_from o (x + 2 ^ o) n z (k - 1))
rest_placed o x n k z all some = (rw (some_first o x n k z some) at all).3

-- this and the next: the lines of a row are the line of its first block and the lines of the rest;
-- a row without blocks has no lines
pub next_line : (o x n k y : ℕ) (z : Zone) → 0 < k → y ≡ x + 2 ^ o
    → lines (row_from o x n z k) ≡ block_line 0 (record { order = o; first = x; node = n; zone = z }) ++ lines (row_from o y n z (k - 1))
next_line o x n k y z some next = rw (some_first o x n k z some, lines_any 1 0 (row_from o (x + 2 ^ o) n z (k - 1)), next) refl

pub no_lines : (o x n k : ℕ) (z : Zone) → k ≡ 0 → lines (row_from o x n z k) ≡ []
unfolding row_from
no_lines o x n k z none = rw none refl

pub none_more : (o x n k : ℕ) (z : Zone) (text whole : List ℕ) → k ≡ 0 → text ++ lines (row_from o x n z k) ≡ whole → text ≡ whole
none_more o x n k z text whole none so_far = text_end text _ whole (no_lines o x n k z none) so_far

-- a row of blocks of the largest order that ends at or below frame 2^40 is aligned and below the
-- limit
pub row_low : (k x n : ℕ) (z : Zone) → x % 1024 ≡ 0 → x + k * 1024 ≤ 2 ^ 40 → AreAlignedBlocks (row_from 10 x n z k)
unfolding row_from
row_low zero x n z aligned low = tt
row_low (suc k) x n z aligned low =
    let sum = suc-mul k 1024 in
    (omega arith, omega (arith, sum, low), aligned, row_low k (x + 2 ^ 10) n z (omega (arith, aligned)) (omega (arith, sum, low)))

-- a row of blocks of the largest order that is below the limit ends at or below frame 2^40
pub row_end : (k x n : ℕ) (z : Zone) → AreAlignedBlocks (row_from 10 x n z k) → 0 < k → x + k * 1024 ≤ 2 ^ 40
unfolding row_from
row_end zero x n z all some = absurd (omega (arith, some))
row_end (suc zero) x n z all some = let low = all.1 in let aligned = all.2 in omega (arith, low, aligned)
row_end (suc (suc k)) x n z all some =
    let rest = row_end (suc k) (x + 2 ^ 10) n z all.3 (omega arith) in
    let sum = suc-mul (suc k) 1024 in
    omega (arith, rest, sum)

-- the row of `count` blocks after the first skipped blocks of a row of the largest order
abbrev pub part : BlockRow → ℕ → ℕ → BlockRow
part row skipped count = record row { first = row.first + skipped * 1024; count = count }

-- a row is its parts of b, m and e blocks, one after another
pub three_parts : (row : BlockRow) (b m e : ℕ) → row.order ≡ 10 → row.count ≡ b + (m + e)
    → blocks_of_row row ≡ blocks_of_row (part row 0 b) ++ (blocks_of_row (part row b m) ++ blocks_of_row (part row (row.count - e) e))
three_parts row b m e great count =
    let x : ℕ = row.first in
    let here : x + 0 * 1024 ≡ x = omega arith in
    let last : x + (row.count - e) * 1024 ≡ x + b * 1024 + m * 1024 = omega (arith, count) in
    ap (λ k. row_from row.order x row.node row.zone k) count
    ∙ rw (great, here, last, row_parts b (m + e) 10 x row.node row.zone, row_parts m e 10 (x + b * 1024) row.node row.zone) refl

-- this and the next: the row at an index of a list is aligned and below the limit, and its lines
-- are the next ones of the text
pub rows_placed : (rs : List BlockRow) (i : ℕ) (d : BlockRow) → AreAlignedBlocks (blocks_of_rows rs) → i < length rs
    → AreAlignedBlocks (blocks_of_row (get_or rs i d))
rows_placed [] i d all within = absurd (omega arith)
rows_placed (r ∷ rs) zero d all within = placed_before (blocks_of_row r) (blocks_of_rows rs) all
rows_placed (r ∷ rs) (suc i) d all within =
    rows_placed rs i d (placed_after (blocks_of_row r) (blocks_of_rows rs) all) (omega arith)

pub row_put : (rs : List BlockRow) (i : ℕ) (d : BlockRow) (before after whole : List ℕ) → i < length rs
    → after ≡ before ++ lines (blocks_of_row (get_or rs i d)) → before ++ lines (blocks_of_rows (drop i rs)) ≡ whole
    → after ++ lines (blocks_of_rows (drop (i + 1) rs)) ≡ whole
row_put rs i d before after whole within put so_far =
    let r : BlockRow = get_or rs i d in
    let rest : List Block = blocks_of_rows (drop (i + 1) rs) in
    let first : drop i rs ≡ r ∷ drop (i + 1) rs = rw add-one (drop-cons rs i d within) in
    rw (put, append_assoc before (lines (blocks_of_row r)) (lines rest), ← lines_append (blocks_of_row r) rest) (rw first at so_far)

-- 1 shifted left by the order, in 64 bits, is the number of frames in a block
pub size_is : (o : ℕ) → o ≤ 10 → (1 * 2 ^ o % 18446744073709551616 ≡ 2 ^ o) × (2 ^ o ≤ 1024)
size_is o small =
    let few : 2 ^ o ≤ 2 ^ 10 = pow-le-pow_right {n = 2} (omega arith) small in (omega (arith, few), omega (arith, few))
