-- Lemmas: the functions that list blocks give the sets of frames that are blocks.
use Rattle.std.proofs.Common.{◌≡◌, ◌⊎◌, ℕ, zero, suc, ◌+◌, ◌-◌, ◌*◌, ◌/◌, ◌%◌, ◌^◌, ◌<◌, ◌≤◌, ◌==◌, Option, Some, None, List, [], ◌∷◌, refl, sym, ◌∙◌, ap, subst, inl, inr, ⊎_elim, lt_of_not-le, arith}
use Rattle.std.proofs.lemmas.Bool.{cases_lt, cond_both, eqb-true, eq-eqb}
use Rattle.std.proofs.lemmas.Nat.{pow_pos}
use Rattle.bm_base.specs.Zones.{zone_of}
use Rattle.address_runs.specs.Edits.{IsEmptyFrom}
use Rattle.buddy_blocks.specs.declared.block.Block.{Block}
use Rattle.buddy_blocks.specs.declared.run.TheConstants.{MAX_FRAMES}
use Rattle.buddy_blocks.specs.Frames.{Frames, AreFree, IsFreeInOneZone, IsBlock, IsInBlock}
use Rattle.buddy_blocks.specs.BlockList.{greatest_free_order, block_around, block_for, block_of, prepend_block_at, blocks_from, blocks_of, ListsBlock, AscendFrom}
use Rattle.buddy_blocks.proofs.SetLaws.{base_is, base_whole, in_set, wider, one_zone}
use Rattle.buddy_blocks.proofs.GoodLaws.{up_small, up_free, up_most, up_is}

-- the first frame of a set is in it
at_base : (o x : ℕ) → (x - x % 2 ^ o) / 2 ^ o ≡ x / 2 ^ o
at_base o x = let some = pow_pos o in in_set (2 ^ o) x (x - x % 2 ^ o) (omega arith) (omega (arith, some))

-- the set of the order that is found is a block
found_is_block : (f : Frames) (x n : ℕ) → f x ≡ Some n → IsBlock f (block_around (greatest_free_order f x n 10) x n)
found_is_block f x n is =
    let o : ℕ = greatest_free_order f x n 10 in
    let a : ℕ = x - x % 2 ^ o in
    let base : a / 2 ^ o ≡ x / 2 ^ o = at_base o x in
    let small : o ≤ 10 = up_small f x n 10 in
    record {
      small = small;
      aligned = base_whole (2 ^ o) x;
      good = λ y same. (up_free f x n 10 is y (same ∙ base), one_zone o a y small same);
      whole = λ less good.
          let wide : a / 2 ^ (o + 1) ≡ x / 2 ^ (o + 1) = wider o (o + 1) a x (omega arith) base in
          let free : AreFree f (o + 1) x n = λ y same. (good y (same ∙ sym wide)).0 in
          absurd (omega (arith, up_most f x n 10 (o + 1) (omega (arith, less)) free));
    }

block_from_for : (f : Frames) (x : ℕ) (v : Option ℕ) (b : Block) → f x ≡ v → block_for f x v ≡ Some b → IsBlock f b × IsInBlock b x
block_from_for f x None b is made = cc
block_from_for f x (Some n) b is made =
    let o : ℕ = greatest_free_order f x n 10 in
    let equal : block_around o x n ≡ b = cc made in
    (subst (λ (c : Block). IsBlock f c) equal (found_is_block f x n is), subst (λ (c : Block). IsInBlock c x) equal (sym (at_base o x)))

pub block_found : (f : Frames) (x : ℕ) (b : Block) → block_of f x ≡ Some b → IsBlock f b × IsInBlock b x
block_found f x b made = block_from_for f x (f x) b refl made

-- each block is found at each of its frames
pub found_block : (f : Frames) (x : ℕ) (b : Block) → IsBlock f b → IsInBlock b x → block_of f x ≡ Some b
found_block f x b block same =
    let o : ℕ = b.order in
    let n : ℕ = b.node in
    let a : ℕ = b.first in
    let is : f x ≡ Some n = (block.good x same).0 in
    let zone_is : zone_of a ≡ b.zone = (block.good a refl).1 in
    let free : AreFree f o x n = λ y other. (block.good y (other ∙ same)).0 in
    let order : greatest_free_order f x n 10 ≡ o =
    up_is f x n 10 o is block.small free
    (λ less more.
    let wide : x / 2 ^ (o + 1) ≡ a / 2 ^ (o + 1) = wider o (o + 1) x a (omega arith) same in
    let next : suc o ≡ o + 1 = omega arith in
    let more_free : AreFree f (o + 1) x n = subst (λ (p : ℕ). AreFree f p x n) next more in
    let good : IsFreeInOneZone f (o + 1) a n b.zone = λ y other.
    (more_free y (other ∙ sym wide), one_zone (o + 1) a y (omega (arith, less)) other ∙ zone_is) in
    block.whole less good) in
    let first : x - x % 2 ^ o ≡ a =
    let products : x / 2 ^ o * 2 ^ o ≡ a / 2 ^ o * 2 ^ o = ap (λ q. q * 2 ^ o) same in
    omega (arith, block.aligned, products, base_is (2 ^ o) x, base_is (2 ^ o) a) in
    ap (block_for f x) is ∙ ap (λ p. Some (block_around p x n)) order
    ∙ ap (λ y. let c : Block = record { order = o; first = y; node = n; zone = zone_of y } in Some c) first
    ∙ ap (λ z. let c : Block = record { order = o; first = a; node = n; zone = z } in Some c) zone_is

none_for : (f : Frames) (x : ℕ) (v : Option ℕ) → block_for f x v ≡ None → v ≡ None
none_for f x None made = refl
none_for f x (Some n) made = cc

pub none_found : (f : Frames) (x : ℕ) → block_of f x ≡ None → f x ≡ None
none_found f x made = none_for f x (f x) made

-- the members of the list
led_lists : (x : ℕ) (o : Option Block) (bs : List Block) (b : Block) → ListsBlock (prepend_block_at x o bs) b
    → (o ≡ Some b) ⊎ ListsBlock bs b
led_lists x None bs b has = inr has
led_lists x (Some c) bs b has =
    cond_both (c.first == x) (c ∷ bs) bs (λ (cs : List Block). ListsBlock cs b → (Some c ≡ Some b) ⊎ ListsBlock bs b)
    (λ here. ⊎_elim (λ (same : c ≡ b). inl (ap (λ (d : Block). Some d) same)) (λ (rest : ListsBlock bs b). inr rest))
    (λ away rest. inr rest) has

lists_led : (x : ℕ) (o : Option Block) (bs : List Block) (b : Block) → ListsBlock bs b → ListsBlock (prepend_block_at x o bs) b
lists_led x None bs b has = has
lists_led x (Some c) bs b has =
    cond_both (c.first == x) (c ∷ bs) bs (λ (cs : List Block). ListsBlock cs b) (λ here. inr has) (λ away. has)

lists_first : (x : ℕ) (b : Block) (bs : List Block) → b.first ≡ x → ListsBlock (prepend_block_at x (Some b) bs) b
lists_first x b bs same =
    let first : ListsBlock (b ∷ bs) b = inl refl in
    rw (eq-eqb b.first x same) first

from_sound : (f : Frames) (b : Block) (x n : ℕ) → ListsBlock (blocks_from f x n) b → IsBlock f b
unfolding blocks_from
from_sound f b x zero has = absurd has
from_sound f b x (suc n) has =
    ⊎_elim (λ (made : block_of f x ≡ Some b). (block_found f x b made).0)
    (λ (rest : ListsBlock (blocks_from f (x + 1) n) b). from_sound f b (x + 1) n rest)
    (led_lists x (block_of f x) (blocks_from f (x + 1) n) b has)

pub listed_sound : (f : Frames) (b : Block) → ListsBlock (blocks_of f) b → IsBlock f b
unfolding blocks_of
listed_sound f b has = from_sound f b 0 MAX_FRAMES has

from_complete : (f : Frames) (b : Block) (x n : ℕ) → block_of f b.first ≡ Some b → x ≤ b.first → b.first < x + n
    → ListsBlock (blocks_from f x n) b
unfolding blocks_from
from_complete f b x zero made above below = absurd (omega arith)
from_complete f b x (suc n) made above below =
    elim (cases_lt x b.first) as (λ _. ListsBlock (prepend_block_at x (block_of f x) (blocks_from f (x + 1) n)) b) [
      | inl lt ↦
          lists_led x (block_of f x) (blocks_from f (x + 1) n) b (from_complete f b (x + 1) n made (omega arith) (omega arith))
      | inr ge ↦
          let here : b.first ≡ x = omega arith in
          let at : block_of f x ≡ Some b = ap (block_of f) (sym here) ∙ made in
          subst (λ (o : Option Block). ListsBlock (prepend_block_at x o (blocks_from f (x + 1) n)) b) (sym at)
          (lists_first x b (blocks_from f (x + 1) n) here)
    ]

pub listed_complete : (f : Frames) (b : Block) → IsEmptyFrom MAX_FRAMES f → IsBlock f b → ListsBlock (blocks_of f) b
unfolding blocks_of
listed_complete f b none block =
    let most : ℕ = MAX_FRAMES in
    let free : f b.first ≡ Some b.node = (block.good b.first refl).0 in
    let low : b.first < most = lt_of_not-le (λ ge. cc (sym free ∙ none b.first ge)) in
    from_complete f b 0 most (found_block f b.first b block refl) (omega arith) (omega (arith, low))

ascend_sooner : (x y : ℕ) (bs : List Block) → x ≤ y → AscendFrom y bs → AscendFrom x bs
ascend_sooner x y [] order ascend = tt
ascend_sooner x y (b ∷ bs) order ascend = (omega (arith, ascend.0), ascend.1)

led_ascends : (x : ℕ) (o : Option Block) (bs : List Block) → AscendFrom (x + 1) bs → AscendFrom x (prepend_block_at x o bs)
led_ascends x None bs ascend = ascend_sooner x (x + 1) bs (omega arith) ascend
led_ascends x (Some c) bs ascend =
    cond_both (c.first == x) (c ∷ bs) bs (AscendFrom x)
    (λ here.
    let at : c.first ≡ x = eqb-true c.first x here in
    (omega arith, ascend_sooner (c.first + 1) (x + 1) bs (omega arith) ascend))
    (λ away. ascend_sooner x (x + 1) bs (omega arith) ascend)

from_ascends : (f : Frames) (x n : ℕ) → AscendFrom x (blocks_from f x n)
unfolding blocks_from
from_ascends f x zero = tt
from_ascends f x (suc n) = led_ascends x (block_of f x) (blocks_from f (x + 1) n) (from_ascends f (x + 1) n)

pub listed_ascends : (f : Frames) → AscendFrom 0 (blocks_of f)
unfolding blocks_of
listed_ascends f = from_ascends f 0 MAX_FRAMES
