-- Lemmas on the number of frames in the blocks of a node and a zone, order by order, and on the lines
-- of zones that have memory.
use Rattle.std.proofs.Common.{◌≡◌, ℕ, suc, Bool, true, false, if◌then◌else◌, append-nil, ◌+◌, ◌-◌, ◌*◌, ◌%◌, ◌^◌, ◌<◌, ◌≤◌, ◌==◌, ◌&&◌, cond, List, [], ◌∷◌, length, ◌++◌, codes, refl, arith}
use Rattle.std.specs.Prelude.{nat_lt}
use Rattle.std.specs.List.{count_by, filter, flat_map, range_with_len, sum_by}
use Rattle.std.proofs.Math.Pow.{pow_mono}
use Rattle.std.proofs.lemmas.Bool.Decides.{nat_tests}
use Rattle.std.proofs.lemmas.List.Sums.{sum_by-cons}
use Rattle.bm_base.specs.Text.{padded_decimal}
use Rattle.bm_base.specs.declared.zone.Zone.{Zone}
use Rattle.buddy_blocks.specs.declared.block.Block.{Block}
use Rattle.buddy_blocks.specs.Frames.{Frames}
use Rattle.buddy_blocks.specs.BlockList.{blocks_of, count_blocks, is_block_of, is_same_zone}
use Rattle.zone_spans.specs.declared.span.Span.{Span}
use Rattle.zone_spans.specs.Hull.{is_populated, populated_spans}
use Rattle.report_memory.specs.Lines.{indexed_lines}
use Rattle.report_stages.specs.ZonesText.{block_count_text, buddyinfo_line, buddyinfo_text, frames_in_zone, is_block_in_zone}
use Rattle.report_stages.proofs.BlockLaws.{AreInBounds, listed_few, listed_in_bounds}

-- the number of frames in the blocks of the node and the zone with orders below m
abbrev pub frames_below : ℕ → Zone → ℕ → List Block → ℕ
frames_below node z m [] = 0
frames_below node z m (b ∷ bs) = cond (is_block_in_zone node z b && nat_lt b.order m) (2 ^ b.order) 0 + frames_below node z m bs

pub none_below : (node : ℕ) (z : Zone) (bs : List Block) → frames_below node z 0 bs ≡ 0
none_below node z [] = refl
none_below node z (b ∷ bs) = grind (arith, nat_tests, none_below node z bs)

-- this and the next: counting one more order, for one block and for a list
one_more : (a c : Bool) (o m : ℕ)
    → cond ((a && c) && nat_lt o (m + 1)) (2 ^ o) 0 ≡ cond ((a && c) && nat_lt o m) (2 ^ o) 0 + cond (a && ((o == m) && c)) 1 0 * 2 ^ m
one_more a c o m = grind (arith, nat_tests)

next_order : (node : ℕ) (z : Zone) (m : ℕ) (bs : List Block)
    → frames_below node z (m + 1) bs ≡ frames_below node z m bs + count_by (is_block_of node z m) bs * 2 ^ m
next_order node z m [] = omega arith
next_order node z m (b ∷ bs) =
    let one = one_more (b.node == node) (is_same_zone b.zone z) b.order m in
    let rest = next_order node z m bs in
    let count : count_by (is_block_of node z m) (b ∷ bs) ≡ cond (is_block_of node z m b) 1 0 + count_by (is_block_of node z m) bs =
    sum_by-cons (λ (c : Block). cond (is_block_of node z m c) 1 0) b bs in
    rw count (omega (arith, one, rest))

-- the frames of all blocks are those of the orders below 11
all_below : (node : ℕ) (z : Zone) (bs : List Block) → AreInBounds bs
    → frames_below node z 11 bs ≡ sum_by (λ (b : Block). 2 ^ b.order) (filter (is_block_in_zone node z) bs)
all_below node z [] all = refl
all_below node z (b ∷ bs) all =
    let low = all.0.order in
    let total = sum_by-cons (λ (c : Block). 2 ^ c.order) b (filter (is_block_in_zone node z) bs) in
    grind (arith, nat_tests, low, total, all_below node z bs all.1)

-- a list has at most 1,024 frames for each block
few_below : (node : ℕ) (z : Zone) (m : ℕ) (bs : List Block) → AreInBounds bs → frames_below node z m bs ≤ 1024 * length bs
few_below node z m [] all = omega arith
few_below node z m (b ∷ bs) all =
    let power : 2 ^ b.order ≤ 2 ^ 10 = pow_mono all.0.order in
    grind (arith, power, few_below node z m bs all.1)

-- counting one more order, for the blocks of the free frames
pub next_count : (f : Frames) (node : ℕ) (z : Zone) (m : ℕ)
    → frames_below node z (m + 1) (blocks_of f) ≡ frames_below node z m (blocks_of f) + count_blocks f node z m * 2 ^ m
unfolding count_blocks
next_count f node z m = next_order node z m (blocks_of f)

pub all_counted : (f : Frames) (node : ℕ) (z : Zone) → frames_below node z 11 (blocks_of f) ≡ frames_in_zone node z (blocks_of f)
unfolding frames_in_zone
all_counted f node z = all_below node z (blocks_of f) (listed_in_bounds f)

pub counted_few : (f : Frames) (node : ℕ) (z : Zone) (m : ℕ) → frames_below node z m (blocks_of f) ≤ 2 ^ 50
counted_few f node z m =
    let few = few_below node z m (blocks_of f) (listed_in_bounds f) in
    let length = listed_few f in
    omega (arith, few, length)

-- the sum with one more order fits into 64 bits
pub next_frames : (f : Frames) (node : ℕ) (z : Zone) (m frames count : ℕ) → frames ≡ frames_below node z m (blocks_of f)
    → count ≡ count_blocks f node z m → frames + count * 2 ^ m % 2 ^ 64 ≡ frames_below node z (m + 1) (blocks_of f)
next_frames f node z m frames count so_far is =
    let next = next_count f node z m in
    let few = counted_few f node z (m + 1) in
    rw is (omega (arith, next, few, so_far))

-- the counts from an order on are the count of that order and those of the greater orders
pub next_number : (f : Frames) (node : ℕ) (z : Zone) (order count : ℕ) → order < 11 → count ≡ count_blocks f node z order
    → flat_map (block_count_text (blocks_of f) node z) (range_with_len order (11 - order))
    ≡ (padded_decimal 6 count ++ codes " ")
    ++ flat_map (block_count_text (blocks_of f) node z) (range_with_len (order + 1) (11 - (order + 1)))
unfolding count_blocks
next_number f node z order count less is = let left : 11 - order ≡ suc (11 - (order + 1)) = omega arith in rw (left, is) refl

-- the index isn't printed
same_line : (bs : List Block) (n m : ℕ) (s : Span) → buddyinfo_line bs n s ≡ buddyinfo_line bs m s
unfolding buddyinfo_line
same_line bs n m s = refl

-- if the zone of a span has memory, the text of that span is its line
pub line_of_populated : (f : Frames) (n : ℕ) (s : Span) → 0 < s.present
    → buddyinfo_line (blocks_of f) n s ≡ buddyinfo_text f (s ∷ [])
line_of_populated f n s some =
    let is : is_populated s ≡ true = grind (arith, nat_tests) in
    rw (is, append-nil) (same_line (blocks_of f) n 0 s)

-- the text of one more span, before the texts of the others
one_span : (bs : List Block) (b : Bool) (m : ℕ) (s : Span) (rest : List Span) (texts : List ℕ)
    → texts ≡ indexed_lines (buddyinfo_line bs) (m + 1) rest → texts ≡ indexed_lines (buddyinfo_line bs) m rest
    → indexed_lines (buddyinfo_line bs) 0 (if b then s ∷ [] else []) ++ texts ≡ indexed_lines (buddyinfo_line bs) m (if b then s ∷ rest else rest)
one_span bs true m s rest texts after same = rw (append-nil, after, same_line bs 0 m s) refl
one_span bs false m s rest texts after same = same

-- the texts of the spans, one by one, are the lines of those whose zones have memory
pub lines_of_spans : (f : Frames) (n m : ℕ) (spans : List Span)
    → indexed_lines (λ k s. buddyinfo_text f (s ∷ [])) n spans ≡ indexed_lines (buddyinfo_line (blocks_of f)) m (populated_spans spans)
lines_of_spans f n m [] = refl
lines_of_spans f n m (s ∷ spans) =
    one_span (blocks_of f) (is_populated s) m s (populated_spans spans) _ (lines_of_spans f (n + 1) (m + 1) spans) (lines_of_spans f (n + 1) m spans)
