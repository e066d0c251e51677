-- Lemmas on the list of the blocks that begin in a range of frames.
use Rattle.std.proofs.Common.{◌≡◌, ℕ, zero, suc, ◌+◌, ◌-◌, ◌%◌, ◌^◌, ◌<◌, ◌≤◌, ◌==◌, false, Option, Some, None, List, [], ◌∷◌, ◌++◌, length, refl, ◌∙◌, ap, subst, inl, inr, arith}
use Rattle.std.proofs.lemmas.Bool.{cases_Bool, cond_both, eq-eqb, ne_eqb}
use Rattle.std.proofs.lemmas.Nat.{pow_pos}
use Rattle.bm_base.specs.Zones.{zone_of}
use Rattle.buddy_blocks.specs.declared.block.Block.{Block}
use Rattle.buddy_blocks.specs.Frames.{Frames, IsInSet, AreFree}
use Rattle.buddy_blocks.specs.BlockList.{block_around, block_for, block_of, prepend_block_at, blocks_from, greatest_free_order}
use Rattle.buddy_blocks.proofs.SetLaws.{base_whole, in_set, multiple, apart}
use Rattle.buddy_blocks.proofs.GoodLaws.{free-around, up_free, up_most}

led_append : (x : ℕ) (o : Option Block) (bs cs : List Block) → prepend_block_at x o (bs ++ cs) ≡ prepend_block_at x o bs ++ cs
led_append x None bs cs = refl
led_append x (Some b) bs cs =
    elim (cases_Bool (b.first == x)) as (λ _. prepend_block_at x (Some b) (bs ++ cs) ≡ prepend_block_at x (Some b) bs ++ cs) [
      | inl here ↦ rw here refl
      | inr other ↦ rw other refl
    ]

-- the list for two ranges, one after the other
pub from-append : (f : Frames) (x m n : ℕ) → blocks_from f x (m + n) ≡ blocks_from f x m ++ blocks_from f (x + m) n
unfolding blocks_from
from-append f x zero n =
    let none : 0 + n ≡ n = omega arith in
    let here : x ≡ x + 0 = omega arith in
    ap (λ k. blocks_from f x k) none ∙ ap (λ y. blocks_from f y n) here
from-append f x (suc m) n =
    let more : suc m + n ≡ suc (m + n) = omega arith in
    let there : x + 1 + m ≡ x + suc m = omega arith in
    let rest : blocks_from f (x + 1) (m + n) ≡ blocks_from f (x + 1) m ++ blocks_from f (x + suc m) n =
    from-append f (x + 1) m n ∙ ap (λ y. blocks_from f (x + 1) m ++ blocks_from f y n) there in
    ap (λ k. blocks_from f x k) more ∙ ap (λ (bs : List Block). prepend_block_at x (block_of f x) bs) rest
    ∙ led_append x (block_of f x) (blocks_from f (x + 1) m) (blocks_from f (x + suc m) n)

-- no block begins at the frame
abbrev pub IsNotFirst : Frames → ℕ → Type 0
IsNotFirst f x = (bs : List Block) → prepend_block_at x (block_of f x) bs ≡ bs

pub from-none : (f : Frames) (x n : ℕ) → ((y : ℕ) → x ≤ y → y < x + n → IsNotFirst f y) → blocks_from f x n ≡ []
unfolding blocks_from
from-none f x zero none = refl
from-none f x (suc n) none =
    none x (omega arith) (omega arith) (blocks_from f (x + 1) n)
    ∙ from-none f (x + 1) n (λ y above below. none y (omega arith) (omega arith))

-- no block begins at a frame that isn't free
pub not_first-bare : (f : Frames) (x : ℕ) → f x ≡ None → IsNotFirst f x
not_first-bare f x bare bs = ap (λ o. prepend_block_at x (block_for f x o) bs) bare

-- no block begins at a frame of a block other than its first
pub not_first-inner : (f : Frames) (o x y n : ℕ) → o ≤ 10 → x % 2 ^ o ≡ 0 → AreFree f o x n → x < y → y < x + 2 ^ o → IsNotFirst f y
not_first-inner f o x y n small whole free above below bs =
    let same : IsInSet o x y = in_set (2 ^ o) x y (omega (arith, whole)) (omega (arith, whole)) in
    let is : f y ≡ Some n = free y same in
    let p : ℕ = greatest_free_order f y n 10 in
    let most : o ≤ p = up_most f y n 10 o small (free-around f o x y n same free) in
    let base : (y - y % 2 ^ p) % 2 ^ o ≡ 0 = multiple o p (y - y % 2 ^ p) most (base_whole (2 ^ p) y) in
    let other : ((y - y % 2 ^ p) == y) ≡ false = ne_eqb (y - y % 2 ^ p) y (λ here.
    omega (arith, apart (2 ^ o) x y whole (rw here at base) above)) in
    ap (λ v. prepend_block_at y (block_for f y v) bs) is ∙ rw other refl

-- the frames of a block list that block
pub from-block : (f : Frames) (o x n : ℕ) → o ≤ 10 → f x ≡ Some n → greatest_free_order f x n 10 ≡ o → x % 2 ^ o ≡ 0
    → blocks_from f x (2 ^ o) ≡ record { order = o; first = x; node = n; zone = zone_of x } ∷ []
unfolding blocks_from
from-block f o x n small is found whole =
    let some : 0 < 2 ^ o = pow_pos o in
    let free : AreFree f o x n = subst (λ (p : ℕ). AreFree f p x n) found (up_free f x n 10 is) in
    let size : 2 ^ o ≡ suc (2 ^ o - 1) = omega arith in
    let rest : blocks_from f (x + 1) (2 ^ o - 1) ≡ [] =
    from-none f (x + 1) (2 ^ o - 1) (λ y above below. not_first-inner f o x y n small whole free (omega arith) (omega arith)) in
    let base : x - x % 2 ^ o ≡ x = omega (arith, whole) in
    let block : block_of f x ≡ Some (record { order = o; first = x; node = n; zone = zone_of x }) =
    ap (λ v. block_for f x v) is ∙ ap (λ p. Some (block_around p x n)) found
    ∙ ap (λ b. let made : Block = record { order = o; first = b; node = n; zone = zone_of b } in Some made) base in
    ap (λ k. blocks_from f x k) size ∙ ap (λ (bs : List Block). prepend_block_at x (block_of f x) bs) rest
    ∙ ap (λ v. prepend_block_at x v []) block ∙ rw (eq-eqb x x refl) refl

-- there are at most as many blocks as frames
led_length : (x : ℕ) (o : Option Block) (bs : List Block) → length (prepend_block_at x o bs) ≤ suc (length bs)
led_length x None bs = omega arith
led_length x (Some b) bs =
    cond_both (b.first == x) (b ∷ bs) bs (λ (cs : List Block). length cs ≤ suc (length bs)) (λ here. omega arith) (λ other. omega arith)

pub from-few : (f : Frames) (x n : ℕ) → length (blocks_from f x n) ≤ n
unfolding blocks_from
from-few f x zero = omega arith
from-few f x (suc n) = omega (arith, led_length x (block_of f x) (blocks_from f (x + 1) n), from-few f (x + 1) n)
