-- Which blocks have a frame, and how many of them.
use Rattle.std.proofs.Common.{◌≡◌, ℕ, ◌+◌, ◌-◌, ◌%◌, ◌^◌, ◌<◌, Bool, true, false, ◌&&◌, nat_le, nat_lt, cond, count_by, Option, Some, None, List, [], ◌∷◌, refl, sym, ◌∙◌, ap, inl, inr, arith}
use Rattle.std.proofs.lemmas.Bool.{false_from_ne_true}
use Rattle.std.proofs.lemmas.Nat.{pow_pos}
use Rattle.std.proofs.lemmas.List.Sums.{sum_by-cons}
use Rattle.address_runs.specs.Edits.{IsEmptyFrom}
use Rattle.buddy_blocks.specs.declared.block.Block.{Block}
use Rattle.buddy_blocks.specs.declared.run.TheConstants.{MAX_FRAMES}
use Rattle.buddy_blocks.specs.Frames.{Frames, IsBlock, IsInBlock, IsInSet}
use Rattle.buddy_blocks.specs.BlockList.{AscendFrom, ListsBlock, block_around, block_for, block_of, blocks_of, greatest_free_order}
use Rattle.buddy_blocks.proofs.BlockLaws.{block_found, found_block, listed_ascends, listed_complete, listed_sound}
use Rattle.buddy_blocks.proofs.SetLaws.{in_set, set_from, set_until}
use Rattle.buddy_blocks.proofs.PickLaws.{ascend_after}
use Rattle.memblock_frames.proofs.TakeLaws.{both_tests, tests_both}
use Rattle.conservation.specs.Headline.{has_frame, count_blocks_with, block_with_buddy}

-- a frame of an aligned block is in the block's set of frames
pub in_block : (b : Block) (frame : ℕ) → b.first % 2 ^ b.order ≡ 0 → has_frame b frame ≡ true → IsInBlock b frame
in_block b frame aligned inside =
    let ends = tests_both b.first frame (b.first + 2 ^ b.order) inside in
    in_set (2 ^ b.order) b.first frame (omega (arith, ends.0)) (omega (arith, ends.1, aligned))

-- the frames of a set are consecutive, from the first frame on
in_range : (order first frame : ℕ) → IsInSet order first frame
    → (nat_le (first - first % 2 ^ order) frame && nat_lt frame (first - first % 2 ^ order + 2 ^ order)) ≡ true
in_range order first frame same =
    both_tests (first - first % 2 ^ order) frame (first - first % 2 ^ order + 2 ^ order) (set_from (2 ^ order) first frame same)
    (set_until (2 ^ order) first frame (pow_pos order) same)

-- a frame of the set of twice the size is in the block or in its buddy
pub in_buddies : (b : Block) (frame : ℕ) → IsInSet (b.order + 1) b.first frame → has_frame (block_with_buddy b) frame ≡ true
in_buddies b frame same = in_range (b.order + 1) b.first frame same

-- adding a block to a list adds one to the count if the block passes the test, else nothing
counted : (p : Block → Bool) (c : Block) (cs : List Block) (passes : Bool) → p c ≡ passes
    → count_by p (c ∷ cs) ≡ cond passes 1 0 + count_by p cs
counted p c cs passes is = sum_by-cons (λ (d : Block). cond (p d) 1 0) c cs ∙ ap (λ t. cond t 1 0 + count_by p cs) is

-- if no block of a list passes the test, the count is 0
none_counted : (p : Block → Bool) (bs : List Block) → ((b : Block) → ListsBlock bs b → p b ≡ false) → count_by p bs ≡ 0
none_counted p [] fails = refl
none_counted p (c ∷ cs) fails =
    counted p c cs false (fails c (inl refl)) ∙ ap (λ n. 0 + n) (none_counted p cs (λ b listed. fails b (inr listed)))

-- if exactly one block of an ascending list passes the test, the count is 1
one_counted : (p : Block → Bool) (b : Block) (from : ℕ) (bs : List Block) → AscendFrom from bs → ListsBlock bs b → p b ≡ true
    → ((c : Block) → ListsBlock bs c → p c ≡ true → c ≡ b) → count_by p bs ≡ 1
one_counted p b from [] ascend listed holds only = absurd listed
one_counted p b from (c ∷ cs) ascend (inl same) holds only =
    counted p c cs true (ap p same ∙ holds) ∙ ap (λ n. 1 + n) (none_counted p cs (λ d in_rest. false_from_ne_true (p d) (λ passes.
    (let after = ascend_after (c.first + 1) cs d ascend.1 in_rest in
    let first = ap (λ (e : Block). e.first) (only d (inr in_rest) passes ∙ sym same) in
    omega (arith, after, first)))))
one_counted p b from (c ∷ cs) ascend (inr in_rest) holds only =
    let after = ascend_after (c.first + 1) cs b ascend.1 in_rest in
    let fails : p c ≡ false = false_from_ne_true (p c) (λ passes.
    (let first = ap (λ (e : Block). e.first) (only c (inl refl) passes) in omega (arith, after, first))) in
    counted p c cs false fails
    ∙ ap (λ n. 0 + n) (one_counted p b (c.first + 1) cs ascend.1 in_rest holds (λ d listed. only d (inr listed)))

-- a frame of a block is free, with the block's node
pub free_inside : (f : Frames) (b : Block) (frame : ℕ) → ListsBlock (blocks_of f) b → has_frame b frame ≡ true → f frame ≡ Some b.node
free_inside f b frame listed inside =
    let block = listed_sound f b listed in
    (block.good frame (in_block b frame block.aligned inside)).0

-- a frame that isn't free is in no block
pub no_block_with : (f : Frames) (frame : ℕ) → f frame ≡ None → count_blocks_with (blocks_of f) frame ≡ 0
no_block_with f frame none = none_counted (λ b. has_frame b frame) (blocks_of f) (λ b listed.
    false_from_ne_true (has_frame b frame) (λ inside. cc (sym none ∙ free_inside f b frame listed inside)))

-- a free frame is in exactly one block
pub one_block_with : (f : Frames) (frame node : ℕ) → IsEmptyFrom MAX_FRAMES f → f frame ≡ Some node
    → count_blocks_with (blocks_of f) frame ≡ 1
one_block_with f frame node none free =
    let b : Block = block_around (greatest_free_order f frame node 10) frame node in
    let made : block_of f frame ≡ Some b = ap (block_for f frame) free in
    let found = block_found f frame b made in
    let aligned = found.0.aligned in
    let first : b.first - b.first % 2 ^ b.order ≡ b.first = omega (arith, aligned) in
    let inside : has_frame b frame ≡ true = rw first at (in_range b.order b.first frame found.1) in
    one_counted (λ c. has_frame c frame) b 0 (blocks_of f) (listed_ascends f) (listed_complete f b none found.0) inside
    (λ c listed within.
    (let block : IsBlock f c = listed_sound f c listed in
    let same : block_of f frame ≡ Some c = found_block f frame c block (in_block c frame block.aligned within) in
    cc (sym same ∙ made)))

-- a frame in a block is free
some_free : (f : Frames) (frame : ℕ) (o : Option ℕ) → f frame ≡ o → 0 < count_blocks_with (blocks_of f) frame
    → (node : ℕ) × (f frame ≡ Some node)
some_free f frame None is some = (let none = no_block_with f frame is in absurd (omega (arith, some, none)))
some_free f frame (Some node) is some = (node, is)

pub free_with_block : (f : Frames) (frame : ℕ) → 0 < count_blocks_with (blocks_of f) frame → (node : ℕ) × (f frame ≡ Some node)
free_with_block f frame some = some_free f frame (f frame) refl some
