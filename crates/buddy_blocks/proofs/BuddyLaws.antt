-- Lemmas on the blocks after a set of frames was removed from one block: that block's buddies
-- replace it, and the other blocks stay.
use Rattle.std.proofs.Common.{◌≡◌, ◌≢◌, ◌⊎◌, ◌↔◌, ℕ, zero, suc, ◌+◌, ◌-◌, ◌/◌, ◌^◌, ◌<◌, ◌≤◌, true, false, Option, Some, None, refl, sym, ◌∙◌, ap, subst, inl, inr, ⊎_elim, arith}
use Rattle.std.proofs.lemmas.Bool.Decides.{nat_tests}
use Rattle.std.proofs.lemmas.Bool.{cases_eq, false_from_ne_true}
use Rattle.std.proofs.lemmas.Nat.{pow_pos}
use Rattle.std.proofs.lemmas.Option.{same_Some}
use Rattle.std.proofs.Math.Nat.{mul-mod_left, div-div-eq-div-mul, pow-suc, mul-div_left}
use Rattle.bm_base.specs.Range.{covers}
use Rattle.buddy_blocks.specs.declared.block.Block.{Block}
use Rattle.buddy_blocks.specs.Frames.{Frames, IsInSet, IsBlock, IsInBlock}
use Rattle.buddy_blocks.specs.BlockList.{set_around, block_of}
use Rattle.buddy_blocks.specs.Buddies.{without_set, with_set, RemovesFrameSet, other_half, buddy_first, buddy_of, IsBuddy}
use Rattle.buddy_blocks.proofs.SetLaws.{in_set, set_from, set_until, wider}
use Rattle.buddy_blocks.proofs.BlockLaws.{found_block, block_found, none_found}

-- the frames of a set are those that its range covers
pub set_covers : (o x y : ℕ) → IsInSet o x y → covers (set_around o x) y ≡ true
set_covers o x y same = grind (arith, nat_tests, set_from (2 ^ o) x y same, set_until (2 ^ o) x y (pow_pos o) same)

pub covers_set : (o x y : ℕ) → (IsInSet o x y → ⊥) → covers (set_around o x) y ≡ false
covers_set o x y other = false_from_ne_true (covers (set_around o x) y) (λ on.
    other (in_set (2 ^ o) x y (grind (arith, nat_tests)) (grind (arith, nat_tests))))

pub in_set_or_not : (o x y : ℕ) → IsInSet o x y ⊎ (IsInSet o x y → ⊥)
in_set_or_not o x y = cases_eq (y / 2 ^ o) (x / 2 ^ o)

-- `without_set` removes the set, and `with_set` adds it back
pub without_is : (order x : ℕ) (f : Frames) → RemovesFrameSet f (without_set order x f) order x
without_is order x f = record {
  gone = λ y same. rw (set_covers order x y same) refl;
  kept = λ y other. rw (covers_set order x y other) refl;
}

pub with_is : (order x node : ℕ) (g : Frames) → ((y : ℕ) → IsInSet order x y → g y ≡ None)
    → RemovesFrameSet (with_set order x node g) g order x
with_is order x node g held = record {
  gone = held;
  kept = λ y other. sym (rw (covers_set order x y other) refl);
}

-- a frame that is still free was free before
pub was_there : (f g : Frames) (order x y n : ℕ) → RemovesFrameSet f g order x → g y ≡ Some n → f y ≡ Some n
was_there f g order x y n without is =
    elim (in_set_or_not order x y) as (λ _. f y ≡ Some n) [
      | inl in_it ↦ absurd (cc (sym (without.gone y in_it) ∙ is))
      | inr other ↦ sym (without.kept y other) ∙ is
    ]

not_in_block : (f : Frames) (b c : Block) (y : ℕ) → IsBlock f b → IsBlock f c → c ≢ b → IsInBlock c y → IsInBlock b y → ⊥
not_in_block f b c y one two other inner outer =
    other (same_Some c b (sym (found_block f y c two inner) ∙ found_block f y b one outer))

-- the other blocks are still blocks
pub others_stay : (f g : Frames) (low x : ℕ) (b c : Block) → RemovesFrameSet f g low x → IsBlock f b → IsInBlock b x → low ≤ b.order
    → IsBlock f c → c ≢ b → IsBlock g c
others_stay f g low x b c without block inner order was other = record {
  small = was.small;
  aligned = was.aligned;
  good = λ y same. (
    without.kept y (λ in_it. not_in_block f b c y block was other same (wider low b.order y x order in_it ∙ inner)) ∙ (was.good y same).0,
    (was.good y same).1,
  );
  whole = λ less good. was.whole less (λ y same. (was_there f g low x y c.node without (good y same).0, (good y same).1));
}

pub found_or_none : (o : Option Block) → (o ≡ None) ⊎ ((b : Block) × (o ≡ Some b))
found_or_none None = inl refl
found_or_none (Some b) = inr (b, refl)

pub block_or_none : (f : Frames) (x : ℕ) → (f x ≡ None) ⊎ ((d : Block) × IsBlock f d × IsInBlock d x)
block_or_none f x = elim (found_or_none (block_of f x)) as (λ _. (f x ≡ None) ⊎ ((d : Block) × IsBlock f d × IsInBlock d x)) [
  | inl none ↦ inl (none_found f x none)
  | inr some ↦ let it = block_found f x some.0 some.1 in inr (some.0, it.0, it.1)
]

-- the blocks that begin outside the block were blocks before
pub others_were : (f g : Frames) (low x : ℕ) (b c : Block) → RemovesFrameSet f g low x → IsBlock f b → IsInBlock b x → low ≤ b.order
    → IsBlock g c → (IsInBlock b c.first → ⊥) → IsBlock f c
others_were f g low x b c without block inner order is outside =
    let here : f c.first ≡ Some c.node = was_there f g low x c.first c.node without (is.good c.first refl).0 in
    elim (block_or_none f c.first) as (λ _. IsBlock f c) [
      | inl none ↦ absurd (cc (sym here ∙ none))
      | inr some ↦
          let d : Block = some.0 in
          let stays = others_stay f g low x b d without block inner order some.1 (λ same. outside (rw same at some.2)) in
          let same : d ≡ c = same_Some d c (sym (found_block g c.first d stays some.2) ∙ found_block g c.first c is refl) in
          rw same at some.1
    ]

-- an even number and the odd one after it have the same half
half_of_other : (q : ℕ) → other_half q / 2 ≡ q / 2
half_of_other q = grind (arith, nat_tests)

other_differs : (q : ℕ) → other_half q ≢ q
other_differs q same = grind (arith, nat_tests)

other_is : (p q : ℕ) → p / 2 ≡ q / 2 → p ≢ q → p ≡ other_half q
other_is p q same other = grind (arith, nat_tests)

-- a set of the next order consists of two of this order
pub next_set : (o y : ℕ) → y / 2 ^ (o + 1) ≡ y / 2 ^ o / 2
next_set o y =
    let next : o + 1 ≡ suc o = omega arith in
    ap (λ p. y / 2 ^ p) next ∙ ap (λ s. y / s) (pow-suc 2 o) ∙ sym (div-div-eq-div-mul y (2 ^ o) 2)

-- the buddy is next to the set of x, in the set of the next order
pub buddy_is : (o x : ℕ) → buddy_first o x / 2 ^ o ≡ other_half (x / 2 ^ o)
buddy_is o x = mul-div_left (other_half (x / 2 ^ o)) (pow_pos o)

pub buddy_beside : (o x y : ℕ) → IsInSet o (buddy_first o x) y → IsInSet (o + 1) x y × (IsInSet o x y → ⊥)
buddy_beside o x y same =
    let at : y / 2 ^ o ≡ other_half (x / 2 ^ o) = same ∙ buddy_is o x in (
      next_set o y ∙ ap (λ q. q / 2) at ∙ half_of_other (x / 2 ^ o) ∙ sym (next_set o x),
      λ here. other_differs (x / 2 ^ o) (sym at ∙ here),
    )

pub beside_buddy : (o x y : ℕ) → IsInSet (o + 1) x y → (IsInSet o x y → ⊥) → IsInSet o (buddy_first o x) y
beside_buddy o x y wide other =
    other_is (y / 2 ^ o) (x / 2 ^ o) (sym (next_set o y) ∙ wide ∙ next_set o x) other ∙ sym (buddy_is o x)

-- each buddy of an order below the block's lies in the block
pub buddy_in_block : (b : Block) (o x y : ℕ) → o < b.order → IsInBlock b x → IsInSet o (buddy_first o x) y → IsInBlock b y
buddy_in_block b o x y below inner same = wider (o + 1) b.order y x (omega (arith, below)) (buddy_beside o x y same).0 ∙ inner

-- each of these buddies is a block of what is left
pub left_is_block : (f g : Frames) (low o x : ℕ) (b : Block) → RemovesFrameSet f g low x → IsBlock f b → IsInBlock b x → low ≤ o
    → o < b.order
    → IsBlock g (buddy_of b o x)
left_is_block f g low o x b without block inner from below = record {
  small = omega (arith, block.small, below);
  aligned = mul-mod_left (other_half (x / 2 ^ o)) (2 ^ o);
  good = λ y same.
      let beside = buddy_beside o x y same in
      let was = block.good y (buddy_in_block b o x y below inner same) in
      (without.kept y (λ in_it. beside.1 (wider low o y x from in_it)) ∙ was.0, was.1);
  whole = λ less good.
      let wide : IsInSet (o + 1) (buddy_first o x) x = sym (buddy_beside o x (buddy_first o x) refl).0 in
      cc (sym (good x wide).0 ∙ without.gone x refl);
}

-- the order at which the sets around x and y become different
record Parts (low until x y : ℕ) : Type 0 where
  pub order : ℕ
  pub from : low ≤ order
  pub below : order < until
  pub apart : IsInSet order x y → ⊥
  pub together : IsInSet (order + 1) x y

parting : (d low x y : ℕ) → IsInSet (low + d) x y → (IsInSet low x y → ⊥) → Parts low (low + d) x y
parting zero low x y same other = absurd (other (let none : low + 0 ≡ low = omega arith in subst (λ (p : ℕ). IsInSet p x y) none same))
parting (suc d) low x y same other =
    elim (in_set_or_not (low + 1) x y) as (λ _. Parts low (low + suc d) x y) [
      | inl here ↦ record { order = low; from = omega arith; below = omega arith; apart = other; together = here }
      | inr not_yet ↦
          let sum : low + suc d ≡ low + 1 + d = omega arith in
          let rest : Parts (low + 1) (low + 1 + d) x y = parting d (low + 1) x y (rw sum at same) not_yet in
          record {
            order = rest.order;
            from = omega (arith, rest.from);
            below = omega (arith, rest.below, sum);
            apart = rest.apart;
            together = rest.together;
          }
    ]

-- no other block is left of the block
pub rest_is_left : (f g : Frames) (low x : ℕ) (b c : Block) → RemovesFrameSet f g low x → IsBlock f b → IsInBlock b x → low ≤ b.order
    → IsBlock g c → IsInBlock b c.first → IsBuddy b low b.order x c
rest_is_left f g low x b c without block inner order is within =
    let free : g c.first ≡ Some c.node = (is.good c.first refl).0 in
    let other : IsInSet low x c.first → ⊥ = λ in_it. cc (sym (without.gone c.first in_it) ∙ free) in
    let sum : low + (b.order - low) ≡ b.order = omega (arith, order) in
    let together : IsInSet (low + (b.order - low)) x c.first = rw sum (within ∙ sym inner) in
    let parts = parting (b.order - low) low x c.first together other in
    let o : ℕ = parts.order in
    let below : o < b.order = omega (arith, parts.below, sum) in
    let buddy = left_is_block f g low o x b without block inner parts.from below in
    let one = found_block g c.first (buddy_of b o x) buddy (beside_buddy o x c.first parts.together parts.apart) in
    let both : c ≡ buddy_of b o x = same_Some c (buddy_of b o x) (sym (found_block g c.first c is refl) ∙ one) in
    record { order = o; from = parts.from; below = below; is = both }

-- a buddy begins inside the block, and isn't the block
pub buddy_inside : (b : Block) (low until x : ℕ) (c : Block) → until ≤ b.order → IsInBlock b x → IsBuddy b low until x c
    → IsInBlock b c.first
buddy_inside b low until x c most inner it =
    rw it.is (buddy_in_block b it.order x (buddy_first it.order x) (omega (arith, it.below, most)) inner refl)

-- two blocks that begin at the same frame are the same
pub one_at : (f : Frames) (b c : Block) → IsBlock f b → IsBlock f c → b.first ≡ c.first → b ≡ c
one_at f b c one two same =
    same_Some b c (sym (found_block f b.first b one refl) ∙ found_block f b.first c two (ap (λ x. x / 2 ^ c.order) same))

-- the blocks after the removal are the buddies and the other blocks, and no others
pub blocks_left : (f g : Frames) (low x : ℕ) (b c : Block) → RemovesFrameSet f g low x → IsBlock f b → IsInBlock b x → low ≤ b.order
    → IsBlock g c ↔ ((IsBlock f c × (IsInBlock b c.first → ⊥)) ⊎ IsBuddy b low b.order x c)
blocks_left f g low x b c without block inner order = (
  λ is. elim (in_set_or_not b.order b.first c.first) as (λ _. (IsBlock f c × (IsInBlock b c.first → ⊥)) ⊎ IsBuddy b low b.order x c) [
    | inl within ↦ inr (rest_is_left f g low x b c without block inner order is within)
    | inr outside ↦ inl (others_were f g low x b c without block inner order is outside, outside)
  ],
  λ both. ⊎_elim
      (λ (was : IsBlock f c × (IsInBlock b c.first → ⊥)).
      others_stay f g low x b c without block inner order was.0
      (λ same. was.1 (subst (λ (d : Block). IsInBlock b d.first) (sym same) refl)))
      (λ (it : IsBuddy b low b.order x c).
      subst (λ (d : Block). IsBlock g d) (sym it.is) (left_is_block f g low it.order x b without block inner it.from it.below))
      both,
)
