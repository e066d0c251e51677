-- Lemmas on the number of frames in the blocks. There are at most 2^40 blocks of at most 2^10
-- frames, so the number fits in 64 bits. The rows of blocks have the same number of frames.
use Rattle.std.proofs.Common.{◌≡◌, ◌∙◌, ℕ, zero, suc, ◌+◌, ◌*◌, ◌^◌, ◌<◌, ◌≤◌, List, [], ◌∷◌, ◌++◌, get_or, length, drop, drop-cons, refl, add-one, lt_of_not-le, arith}
use Rattle.std.proofs.Math.Nat.{suc-mul}
use Rattle.std.proofs.Math.Pow.{pow_mono}
use Rattle.std.proofs.lemmas.List.Sums.{sum_by-append, sum_by-cons}
use Rattle.bm_base.specs.declared.zone.Zone.{Zone}
use Rattle.buddy_blocks.specs.declared.block.Block.{Block}
use Rattle.buddy_blocks.specs.declared.block.BlockRow.{BlockRow}
use Rattle.buddy_blocks.specs.Frames.{Frames}
use Rattle.buddy_blocks.specs.BlockList.{blocks_of}
use Rattle.buddy_blocks.specs.Rows.{blocks_of_row, blocks_of_rows, row_from}
use Rattle.report_stages.proofs.BlockLaws.{AreInBounds, listed_few, listed_in_bounds}
use Rattle.report_stages.proofs.RowLaws.{rows_left}
use Rattle.debugfs_reports.specs.Summary.{total_frames_of_blocks}

few_in : (bs : List Block) → AreInBounds bs → total_frames_of_blocks bs ≤ 1024 * length bs
few_in [] all = omega arith
few_in (b ∷ bs) all =
    let one : 2 ^ b.order ≤ 2 ^ 10 = pow_mono all.0.order in
    omega (arith, one, few_in bs all.1, sum_by-cons (λ (c : Block). 2 ^ c.order) b bs)

pub listed_frames : (f : Frames) → total_frames_of_blocks (blocks_of f) ≤ 2 ^ 50
listed_frames f = omega (arith, few_in (blocks_of f) (listed_in_bounds f), listed_few f)

-- the number of frames in a row
row_frames : (o x n k : ℕ) (z : Zone) → total_frames_of_blocks (row_from o x n z k) ≡ k * 2 ^ o
unfolding row_from
row_frames o x n zero z = omega arith
row_frames o x n (suc k) z =
    let b : Block = record { order = o; first = x; node = n; zone = z } in
    let rest = row_frames o (x + 2 ^ o) n k z in
    let total = sum_by-cons (λ (c : Block). 2 ^ c.order) b (row_from o (x + 2 ^ o) n z k) in
    omega (arith, rest, total, suc-mul k (2 ^ o))

-- the remaining rows are the row at index i and the rows after it
pub row_left : (rs : List BlockRow) (i : ℕ) (d : BlockRow) → i < length rs
    → (total_frames_of_blocks (blocks_of_rows (drop i rs))
    ≡ (get_or rs i d).count * 2 ^ (get_or rs i d).order + total_frames_of_blocks (blocks_of_rows (drop (i + 1) rs)))
    × (length (blocks_of_rows (drop i rs)) ≡ (get_or rs i d).count + length (blocks_of_rows (drop (i + 1) rs)))
row_left rs i d within =
    let r : BlockRow = get_or rs i d in
    let rest : List Block = blocks_of_rows (drop (i + 1) rs) in
    let whole : blocks_of_rows (drop i rs) ≡ blocks_of_row r ++ rest = rw (drop-cons rs i d within, add-one) refl in
    let one = row_frames r.order r.first r.node r.count r.zone in (
      rw (whole, ← one) (sum_by-append (λ (c : Block). 2 ^ c.order) (blocks_of_row r) rest),
      rows_left rs i d within,
    )

-- the counts so far, and those of the remaining rows, are together the totals
pub record Counted (rs : List BlockRow) (i free blocks : ℕ) : Type 0 where
  pub all_frames : free + total_frames_of_blocks (blocks_of_rows (drop i rs)) ≡ total_frames_of_blocks (blocks_of_rows rs)
  pub all_blocks : blocks + length (blocks_of_rows (drop i rs)) ≡ length (blocks_of_rows rs)

pub row_more : (rs : List BlockRow) (i free blocks frames : ℕ) (d : BlockRow) → i < length rs
    → frames ≡ (get_or rs i d).count * 2 ^ (get_or rs i d).order → Counted rs i free blocks
    → Counted rs (i + 1) (free + frames) (blocks + (get_or rs i d).count)
row_more rs i free blocks frames d within is so_far =
    let left = row_left rs i d within in
    record { all_frames = omega (arith, left.0, is); all_blocks = omega (arith, left.1) }

pub counted_few : (rs : List BlockRow) (i free blocks : ℕ) (f : Frames) → blocks_of_rows rs ≡ blocks_of f → Counted rs i free blocks
    → (free + total_frames_of_blocks (blocks_of_rows (drop i rs)) ≤ 2 ^ 50) × (blocks + length (blocks_of_rows (drop i rs)) ≤ 2 ^ 40)
counted_few rs i free blocks f is so_far =
    (omega (arith, listed_frames f, rw is at so_far.all_frames), omega (arith, listed_few f, rw is at so_far.all_blocks))

-- if a number above 0 times a power of two is below 2^64, the exponent is below 64
pub shift_small : (k o : ℕ) → 0 < k → k * 2 ^ o < 2 ^ 64 → o < 64
shift_small zero o some small = absurd (omega (arith, some))
shift_small (suc k) o some small = lt_of_not-le (λ above.
    let most : 2 ^ 64 ≤ 2 ^ o = pow_mono above in
    omega (arith, most, suc-mul k (2 ^ o), small))
