-- Lemmas: the function that picks a block gives the block of the definition in words, and None if
-- no block serves.
use Rattle.std.proofs.Common.{◌≡◌, ◌⊎◌, ℕ, zero, suc, ◌+◌, ◌-◌, ◌<◌, ◌≤◌, ◌==◌, Bool, true, ◌&&◌, Some, None, List, [], ◌∷◌, refl, sym, ◌∙◌, ap, inl, inr, ⊎_elim, arith}
use Rattle.std.proofs.lemmas.Bool.{and_parts, cases_lt, cases_Bool, eqb-true, eq-eqb}
use Rattle.std.proofs.lemmas.Option.{same_Some}
use Rattle.std.specs.List.{find}
use Rattle.bm_base.specs.declared.zone.Zone.{Zone}
use Rattle.address_runs.specs.Edits.{IsEmptyFrom}
use Rattle.buddy_blocks.specs.declared.block.Block.{Block}
use Rattle.buddy_blocks.specs.declared.run.TheConstants.{MAX_FRAMES}
use Rattle.buddy_blocks.specs.Frames.{Frames}
use Rattle.buddy_blocks.specs.BlockList.{blocks_of, is_same_zone, is_block_of, ListsBlock, AscendFrom}
use Rattle.buddy_blocks.specs.PickedBlock.{CanServe, IsPicked, NoneServes, picked_block_from, picked_block}
use Rattle.buddy_blocks.proofs.BlockLaws.{listed_sound, listed_complete, listed_ascends}
use Rattle.buddy_blocks.proofs.BuddyLaws.{found_or_none, one_at}
use Rattle.buddy_blocks.proofs.CountLaws.{zone_is, zone_self}

-- the test of a block is true only of blocks with this node, order and zone
pub is_of_tells : (n : ℕ) (z : Zone) (order : ℕ) (b : Block) → is_block_of n z order b ≡ true
    → (b.node ≡ n) × (b.order ≡ order) × (b.zone ≡ z)
is_of_tells n z order b h =
    let one = and_parts (b.node == n) ((b.order == order) && is_same_zone b.zone z) h in
    let two = and_parts (b.order == order) (is_same_zone b.zone z) one.1 in
    (eqb-true b.node n one.0, eqb-true b.order order two.0, zone_is b.zone z two.1)

pub is_of_told : (n : ℕ) (z : Zone) (order : ℕ) (b : Block) → b.node ≡ n → b.order ≡ order → b.zone ≡ z → is_block_of n z order b ≡ true
is_of_told n z order b node_is order_is zone_is =
    let zones : is_same_zone b.zone z ≡ true = ap (λ a. is_same_zone a z) zone_is ∙ zone_self z in
    rw (eq-eqb b.node n node_is, eq-eqb b.order order order_is, zones) refl

-- what a search finds in an ascending list
record IsFound (p : Block → Bool) (bs : List Block) (b : Block) : Type 0 where
  pub has : ListsBlock bs b
  pub passes : p b ≡ true
  pub first : (c : Block) → ListsBlock bs c → p c ≡ true → b.first ≤ c.first

pub ascend_after : (x : ℕ) (bs : List Block) (c : Block) → AscendFrom x bs → ListsBlock bs c → x ≤ c.first
ascend_after x [] c ascend has = absurd has
ascend_after x (b ∷ bs) c ascend (inl same) = omega (arith, ap (λ (d : Block). d.first) same, ascend.0)
ascend_after x (b ∷ bs) c ascend (inr rest) = omega (arith, ascend_after (b.first + 1) bs c ascend.1 rest, ascend.0)

found_in : (p : Block → Bool) (x : ℕ) (bs : List Block) (b : Block) → AscendFrom x bs → find p bs ≡ Some b → IsFound p bs b
found_in p x [] b ascend is = cc
found_in p x (c ∷ cs) b ascend is =
    elim (cases_Bool (p c)) as (λ _. IsFound p (c ∷ cs) b) [
      | inl on ↦
          let here : c ≡ b = same_Some c b (rw on at is) in
          record {
            has = inl here;
            passes = ap p (sym here) ∙ on;
            first = λ d has passes. ⊎_elim
                (λ (same : c ≡ d). omega (arith, ap (λ (e : Block). e.first) (sym here ∙ same)))
                (λ (rest : ListsBlock cs d).
                omega (arith, ascend_after (c.first + 1) cs d ascend.1 rest, ap (λ (e : Block). e.first) here))
                has;
          }
      | inr off ↦
          let rest : IsFound p cs b = found_in p (c.first + 1) cs b ascend.1 (rw off at is) in
          record {
            has = inr rest.has;
            passes = rest.passes;
            first = λ d has passes. ⊎_elim
                (λ (same : c ≡ d). absurd (cc (sym (ap p same ∙ passes) ∙ off)))
                (λ (inner : ListsBlock cs d). rest.first d inner passes)
                has;
          }
    ]

none_in : (p : Block → Bool) (bs : List Block) (c : Block) → find p bs ≡ None → ListsBlock bs c → p c ≡ true → ⊥
none_in p [] c is has passes = has
none_in p (b ∷ bs) c is has passes =
    elim (cases_Bool (p b)) as (λ _. ⊥) [
      | inl on ↦ let found : Some b ≡ None = rw on at is in cc
      | inr off ↦ ⊎_elim
          (λ (same : b ≡ c). cc (sym (ap p same ∙ passes) ∙ off))
          (λ (inner : ListsBlock bs c). none_in p bs c (rw off at is) inner passes)
          has
    ]

-- if nothing is found, none of these orders has a block that serves
none_up : (f : Frames) (n : ℕ) (z : Zone) (order k : ℕ) (c : Block) → picked_block_from f n z order k ≡ None → ListsBlock (blocks_of f) c
    → c.node ≡ n → c.zone ≡ z → order ≤ c.order → c.order < order + k → ⊥
none_up f n z order zero c is has node_is zone_is from until = absurd (omega arith)
none_up f n z order (suc k) c is has node_is zone_is from until =
    elim (found_or_none (find (is_block_of n z order) (blocks_of f))) as (λ _. ⊥) [
      | inr found ↦ let some : Some found.0 ≡ None = rw found.1 at is in cc
      | inl none ↦
          let rest : picked_block_from f n z (order + 1) k ≡ None = rw none at is in
          elim (cases_lt order c.order) as (λ _. ⊥) [
            | inl lt ↦ none_up f n z (order + 1) k c rest has node_is zone_is (omega arith) (omega arith)
            | inr le ↦
                none_in (is_block_of n z order) (blocks_of f) c none has (is_of_told n z order c node_is (omega (arith, from, le)) zone_is)
          ]
    ]

-- what a search through the orders finds: a block of the least order that has one
record IsFoundUp (f : Frames) (n : ℕ) (z : Zone) (order k : ℕ) (b : Block) : Type 0 where
  pub has : ListsBlock (blocks_of f) b
  pub serves : CanServe n z order b
  pub below : b.order < order + k
  pub least : (c : Block) → ListsBlock (blocks_of f) c → CanServe n z order c
      → (b.order < c.order) ⊎ ((b.order ≡ c.order) × (b.first ≤ c.first))

found_up : (f : Frames) (n : ℕ) (z : Zone) (order k : ℕ) (b : Block) → picked_block_from f n z order k ≡ Some b → IsFoundUp f n z order k b
found_up f n z order zero b is = cc
found_up f n z order (suc k) b is =
    elim (found_or_none (find (is_block_of n z order) (blocks_of f))) as (λ _. IsFoundUp f n z order (suc k) b) [
      | inr found ↦
          let here : find (is_block_of n z order) (blocks_of f) ≡ Some b = found.1 ∙ rw found.1 at is in
          let it = found_in (is_block_of n z order) 0 (blocks_of f) b (listed_ascends f) here in
          let told = is_of_tells n z order b it.passes in
          let order_is = told.1 in
          record {
            has = it.has;
            serves = record { node = told.0; zone = told.2; enough = omega (arith, order_is) };
            below = omega (arith, order_is);
            least = λ c has serves. elim (cases_lt order c.order) as (λ _. (b.order < c.order)
                ⊎ ((b.order ≡ c.order) × (b.first ≤ c.first))) [
                  | inl lt ↦ inl (omega (arith, lt, order_is))
                  | inr le ↦
                      let at : c.order ≡ order = omega (arith, le, serves.enough) in
                      inr (order_is ∙ sym at, it.first c has (is_of_told n z order c serves.node at serves.zone))
                ];
          }
      | inl none ↦
          let rest : IsFoundUp f n z (order + 1) k b = found_up f n z (order + 1) k b (rw none at is) in
          record {
            has = rest.has;
            serves = record { node = rest.serves.node; zone = rest.serves.zone; enough = omega (arith, rest.serves.enough) };
            below = omega (arith, rest.below);
            least = λ c has serves. elim (cases_lt order c.order) as (λ _. (b.order < c.order)
                ⊎ ((b.order ≡ c.order) × (b.first ≤ c.first))) [
                  | inl lt ↦ rest.least c has (record { node = serves.node; zone = serves.zone; enough = omega (arith, lt) })
                  | inr le ↦
                      absurd (none_in (is_block_of n z order) (blocks_of f) c none has
                      (is_of_told n z order c serves.node (omega (arith, le, serves.enough)) serves.zone))
                ];
          }
    ]

-- what the function gives is the block of the definition
pub picked_tells : (f : Frames) (n : ℕ) (z : Zone) (order : ℕ) (b : Block) → IsEmptyFrom MAX_FRAMES f → picked_block f n z order ≡ Some b
    → IsPicked f n z order b
unfolding picked_block
picked_tells f n z order b low is =
    let it = found_up f n z order (11 - order) b is in
    record {
      block = listed_sound f b it.has;
      serves = it.serves;
      least = λ c block serves. it.least c (listed_complete f c low block) serves;
    }

pub none_tells : (f : Frames) (n : ℕ) (z : Zone) (order : ℕ) → IsEmptyFrom MAX_FRAMES f → picked_block f n z order ≡ None
    → NoneServes f n z order
unfolding picked_block
none_tells f n z order low is b block serves =
    none_up f n z order (11 - order) b is (listed_complete f b low block) serves.node serves.zone serves.enough
    (omega (arith, block.small, serves.enough))

-- two blocks that both are least, by order and first frame, begin at the same frame
both_least : (o p x y : ℕ) → (o < p) ⊎ ((o ≡ p) × (x ≤ y)) → (p < o) ⊎ ((p ≡ o) × (y ≤ x)) → x ≡ y
both_least o p x y one other = grind arith

-- the block of the definition is what the function gives: there is at most one
pub picked_is : (f : Frames) (n : ℕ) (z : Zone) (order : ℕ) (b : Block) → IsEmptyFrom MAX_FRAMES f → IsPicked f n z order b
    → picked_block f n z order ≡ Some b
picked_is f n z order b low is =
    elim (found_or_none (picked_block f n z order)) as (λ _. picked_block f n z order ≡ Some b) [
      | inl none ↦ absurd (none_tells f n z order low none b is.block is.serves)
      | inr some ↦
          let it = picked_tells f n z order some.0 low some.1 in
          let same_first : some.0.first ≡ b.first =
          both_least some.0.order b.order some.0.first b.first (it.least b is.block is.serves) (is.least some.0 it.block it.serves) in
          some.1 ∙ ap (λ (d : Block). Some d) (one_at f some.0 b it.block is.block same_first)
    ]

pub picked_none : (f : Frames) (n : ℕ) (z : Zone) (order : ℕ) → IsEmptyFrom MAX_FRAMES f → NoneServes f n z order
    → picked_block f n z order ≡ None
picked_none f n z order low none =
    elim (found_or_none (picked_block f n z order)) as (λ _. picked_block f n z order ≡ None) [
      | inl is ↦ is
      | inr some ↦ let it = picked_tells f n z order some.0 low some.1 in absurd (none some.0 it.block it.serves)
    ]
