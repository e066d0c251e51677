-- Of ascending sections, each root comes once, in ascending order, with its lowest section.
use Rattle.std.proofs.Common.{◌≡◌, ℕ, zero, suc, ◌+◌, ◌/◌, ◌<◌, ◌≤◌, ◌==◌, true, false, Option, Some, None, List, [], ◌∷◌, length, get_or, refl, inl, inr, arith}
use Rattle.std.proofs.lemmas.Bool.{cases_Bool}
use Rattle.std.proofs.lemmas.Bool.Decides.{nat_tests}
use Rattle.std.specs.Prelude.{find}
use Rattle.memblock_grow.specs.declared.stop.Section.{Section}
use Rattle.sparse_sections.specs.Present.{AreSectionsInOrder}
use Rattle.sparse_sections.specs.Roots.{root_of, is_last_root, first_of_each_root}

-- the first section of a root that isn't the last placed one is the first of all sections of that
-- root
first_after : (last : Option ℕ) (ss : List Section) (root : ℕ) → is_last_root last root ≡ false
    → find (λ s. root_of s == root) (first_of_each_root last ss) ≡ find (λ s. root_of s == root) ss
first_after last [] root other = refl
first_after last (s ∷ ss) root other = elim (cases_Bool (is_last_root last (root_of s))) [
  | inl placed ↦ rw (placed, not_last last (root_of s) root placed other) (first_after last ss root other)
  | inr next ↦ rw next (elim (cases_Bool (root_of s == root)) [
    | inl here ↦ rw here refl
    | inr not_here ↦ rw not_here (first_after (Some (root_of s)) ss root not_here)
  ])
] where
  not_last : (o : Option ℕ) (a b : ℕ) → is_last_root o a ≡ true → is_last_root o b ≡ false → (a == b) ≡ false
  not_last None a b is isnt = cc
  not_last (Some l) a b is isnt = grind (arith, nat_tests, is, isnt)

pub first_of_root : (ss : List Section) (root : ℕ)
    → find (λ s. root_of s == root) (first_of_each_root None ss) ≡ find (λ s. root_of s == root) ss
first_of_root ss root = first_after None ss root refl

-- numbers of sections, or of roots, that ascend from n on
abbrev AscendFrom : (Section → ℕ) → ℕ → List Section → Type 0
AscendFrom f n [] = Unit {0}
AscendFrom f n (s ∷ ss) = (n ≤ f s) × AscendFrom f (f s + 1) ss

from_all : (n : ℕ) (ss : List Section)
    → ((i j : ℕ) (d : Section) → i < j → j < length ss → (get_or ss i d).number < (get_or ss j d).number)
    → ((j : ℕ) (d : Section) → j < length ss → n ≤ (get_or ss j d).number) → AscendFrom (λ s. s.number) n ss
from_all n [] ascend above = tt
from_all n (s ∷ ss) ascend above = (
  above 0 s (omega arith),
  from_all (s.number + 1) ss (λ i j d order within. ascend (suc i) (suc j) d (omega arith) (omega arith))
      (λ j d within. let less = ascend 0 (suc j) d (omega arith) (omega arith) in omega (arith, less)),
)

from_each : (f : Section → ℕ) (n : ℕ) (ss : List Section) → AscendFrom f n ss → (j : ℕ) (d : Section) → j < length ss
    → n ≤ f (get_or ss j d)
from_each f n [] from j d within = absurd (omega arith)
from_each f n (s ∷ ss) from zero d within = from.0
from_each f n (s ∷ ss) from (suc j) d within = omega (arith, from_each f (f s + 1) ss from.1 j d (omega arith))

ascend_each : (f : Section → ℕ) (n : ℕ) (ss : List Section) → AscendFrom f n ss → (i j : ℕ) (d : Section) → i < j → j < length ss
    → f (get_or ss i d) < f (get_or ss j d)
ascend_each f n (s ∷ ss) from zero (suc j) d order within = omega (arith, from_each f (f s + 1) ss from.1 j d (omega arith))
ascend_each f n (s ∷ ss) from (suc i) (suc j) d order within = ascend_each f (f s + 1) ss from.1 i j d (omega arith) (omega arith)
ascend_each f n ss from i j d order within = absurd (omega arith)

roots_after : (last n : ℕ) (ss : List Section) → AscendFrom (λ s. s.number) n ss → last ≤ n / 256
    → AscendFrom root_of (last + 1) (first_of_each_root (Some last) ss)
roots_after last n [] from reached = tt
roots_after last n (s ∷ ss) from reached =
    elim (cases_Bool (last == root_of s)) [
      | inl placed ↦ rw placed (roots_after last (s.number + 1) ss from.1 (grind (arith, nat_tests, placed)))
      | inr next ↦ rw next (grind (arith, nat_tests, next, from.0), roots_after (root_of s) (s.number + 1) ss from.1 (omega arith))
    ]

firsts_from : (n : ℕ) (ss : List Section) → AscendFrom (λ s. s.number) n ss → AscendFrom root_of 0 (first_of_each_root None ss)
firsts_from n [] from = tt
firsts_from n (s ∷ ss) from = (omega arith, roots_after (root_of s) (s.number + 1) ss from.1 (omega arith))

pub roots_in_order : (ss : List Section) → AreSectionsInOrder ss → (i j : ℕ) (d : Section) → i < j → j < length (first_of_each_root None ss)
    → root_of (get_or (first_of_each_root None ss) i d) < root_of (get_or (first_of_each_root None ss) j d)
roots_in_order ss are i j d order within =
    ascend_each root_of 0 (first_of_each_root None ss) (firsts_from 0 ss (from_all 0 ss are.ascend (λ k e in_list. omega arith)))
    i j d order within
