-- Lemmas on the free sets around a frame, and the largest of them.
use Rattle.std.proofs.Common.{◌≡◌, ℕ, zero, suc, ◌^◌, ◌<◌, ◌≤◌, true, Option, Some, None, refl, sym, ◌∙◌, ap, inl, inr, arith}
use Rattle.std.proofs.lemmas.Bool.{cases_lt, cond_both, eqb-true, eq-eqb}
use Rattle.std.proofs.lemmas.Nat.{pow_pos}
use Rattle.std.proofs.Math.Nat.{div-one}
use Rattle.bm_base.proofs.EachLaws.{each_in-all, each_in-each}
use Rattle.buddy_blocks.specs.Frames.{Frames, IsInSet, AreFree}
use Rattle.buddy_blocks.specs.BlockList.{is_node, set_around, are_free, greatest_free_order}
use Rattle.buddy_blocks.proofs.SetLaws.{in_set, set_from, set_until, wider}

-- the test of a node is true only of that node
node_is : (o : Option ℕ) (n : ℕ) → is_node o n ≡ true → o ≡ Some n
node_is None n h = cc
node_is (Some m) n h = ap (λ k. Some k) (eqb-true m n h)

is_the_node : (o : Option ℕ) (n : ℕ) → o ≡ Some n → is_node o n ≡ true
is_the_node o n is = ap (λ v. is_node v n) is ∙ eq-eqb n n refl

-- a free set is free around each of its frames, and so is each smaller set in it
pub free-narrow : (f : Frames) (o p x n : ℕ) → o ≤ p → AreFree f p x n → AreFree f o x n
free-narrow f o p x n order free y same = free y (wider o p y x order same)

pub free-around : (f : Frames) (o x y n : ℕ) → IsInSet o x y → AreFree f o x n → AreFree f o y n
free-around f o x y n same free z other = free z (other ∙ same)

-- the test of a set is true only if it is free
pub test_free : (f : Frames) (o x n : ℕ) → are_free f o x n ≡ true → AreFree f o x n
unfolding are_free
test_free f o x n holds y same =
    node_is (f y) n
    (each_in-each (set_around o x) (λ z. is_node (f z) n) holds y (set_from (2 ^ o) x y same) (set_until (2 ^ o) x y (pow_pos o) same))

pub free_test : (f : Frames) (o x n : ℕ) → AreFree f o x n → are_free f o x n ≡ true
unfolding are_free
free_test f o x n free =
    each_in-all (set_around o x) (λ z. is_node (f z) n)
    (λ y above below. is_the_node (f y) n (free y (in_set (2 ^ o) x y above below)))

pub up_small : (f : Frames) (x n m : ℕ) → greatest_free_order f x n m ≤ m
unfolding greatest_free_order
up_small f x n zero = omega arith
up_small f x n (suc m) =
    cond_both (are_free f (suc m) x n) (suc m) (greatest_free_order f x n m) (λ o. o ≤ suc m)
    (λ holds. omega arith) (λ fails. omega (arith, up_small f x n m))

-- the set of the order that is found is free
pub up_free : (f : Frames) (x n m : ℕ) → f x ≡ Some n → AreFree f (greatest_free_order f x n m) x n
unfolding greatest_free_order
up_free f x n zero is = λ y same. let here : y ≡ x = sym (div-one y) ∙ same ∙ div-one x in ap f here ∙ is
up_free f x n (suc m) is =
    cond_both (are_free f (suc m) x n) (suc m) (greatest_free_order f x n m) (λ o. AreFree f o x n)
    (λ holds. test_free f (suc m) x n holds) (λ fails. up_free f x n m is)

-- no larger set is free
pub up_most : (f : Frames) (x n m o : ℕ) → o ≤ m → AreFree f o x n → o ≤ greatest_free_order f x n m
unfolding greatest_free_order
up_most f x n zero o few free = few
up_most f x n (suc m) o few free =
    cond_both (are_free f (suc m) x n) (suc m) (greatest_free_order f x n m) (λ p. o ≤ p) (λ holds. few) (λ fails.
    elim (cases_lt m o) as (λ _. o ≤ greatest_free_order f x n m) [
      | inl lt ↦
          let last : o ≡ suc m = omega arith in
          absurd (cc (sym (free_test f (suc m) x n (rw last at free)) ∙ fails))
      | inr ge ↦ up_most f x n m o ge free
    ])

-- a free set is found if the set of the next order isn't free
pub up_is : (f : Frames) (x n m o : ℕ) → f x ≡ Some n → o ≤ m → AreFree f o x n → (o < m → AreFree f (suc o) x n → ⊥)
    → greatest_free_order f x n m ≡ o
up_is f x n m o is few free whole =
    elim (cases_lt o (greatest_free_order f x n m)) as (λ _. greatest_free_order f x n m ≡ o) [
      | inl lt ↦
          let less : o < m = omega (arith, lt, up_small f x n m) in
          absurd (whole less (free-narrow f (suc o) (greatest_free_order f x n m) x n lt (up_free f x n m is)))
      | inr ge ↦ omega (arith, up_most f x n m o few free, ge)
    ]
