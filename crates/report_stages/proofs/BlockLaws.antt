-- Lemmas on the bounds of the listed blocks: their orders, their first frames, and their number.
use Rattle.std.proofs.Common.{◌≡◌, ℕ, zero, suc, ◌+◌, ◌%◌, ◌^◌, ◌<◌, ◌≤◌, ◌==◌, Option, Some, None, List, [], ◌∷◌, length, arith}
use Rattle.std.proofs.lemmas.Bool.{cond_both}
use Rattle.buddy_blocks.specs.declared.block.Block.{Block}
use Rattle.buddy_blocks.specs.declared.run.TheConstants.{MAX_FRAMES}
use Rattle.buddy_blocks.specs.Frames.{Frames}
use Rattle.buddy_blocks.specs.BlockList.{block_for, block_of, blocks_from, blocks_of, prepend_block_at, greatest_free_order}
use Rattle.buddy_blocks.proofs.GoodLaws.{up_small}
use Rattle.buddy_blocks.proofs.SetLaws.{base_whole}
use Rattle.buddy_blocks.proofs.ListLaws.{from-few}

-- the order is at most 10; the first frame is below 2^40, and a multiple of the number of frames
pub record InBounds (b : Block) : Type 0 where
  pub order : b.order ≤ 10
  pub first : b.first < 2 ^ 40
  pub aligned : b.first % 2 ^ b.order ≡ 0

abbrev pub AreInBounds : List Block → Type 0
AreInBounds [] = Unit {0}
AreInBounds (b ∷ bs) = InBounds b × AreInBounds bs

abbrev MayBeInBounds : Option Block → Type 0
MayBeInBounds None = Unit {0}
MayBeInBounds (Some b) = InBounds b

-- adding a block, if there is one, keeps the list within its bounds
led_in_bounds : (x : ℕ) (o : Option Block) (bs : List Block) → MayBeInBounds o → AreInBounds bs → AreInBounds (prepend_block_at x o bs)
led_in_bounds x None bs one rest = rest
led_in_bounds x (Some b) bs one rest = cond_both (b.first == x) (b ∷ bs) bs AreInBounds (λ here. (one, rest)) (λ other. rest)

found_in_bounds : (f : Frames) (x : ℕ) (n : Option ℕ) → x < 2 ^ 40 → MayBeInBounds (block_for f x n)
found_in_bounds f x None low = tt
found_in_bounds f x (Some n) low =
    record { order = up_small f x n 10; first = omega arith; aligned = base_whole (2 ^ greatest_free_order f x n 10) x }

from_in_bounds : (f : Frames) (x n : ℕ) → x + n ≤ 2 ^ 40 → AreInBounds (blocks_from f x n)
unfolding blocks_from
from_in_bounds f x zero low = tt
from_in_bounds f x (suc n) low =
    let rest = from_in_bounds f (x + 1) n (omega arith) in
    led_in_bounds x (block_of f x) (blocks_from f (x + 1) n) (found_in_bounds f x (f x) (omega arith)) rest

pub listed_in_bounds : (f : Frames) → AreInBounds (blocks_of f)
unfolding blocks_of
listed_in_bounds f = from_in_bounds f 0 MAX_FRAMES (omega arith)

pub listed_few : (f : Frames) → length (blocks_of f) ≤ 2 ^ 40
unfolding blocks_of
listed_few f = from-few f 0 MAX_FRAMES
