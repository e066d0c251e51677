-- The reported pair of kept blocks is the least that clashes.
use Rattle.std.proofs.Common.{◌≡◌, ℕ, ◌+◌, ◌<◌, ◌≤◌, ◌==◌, ◌⊎◌, Bool, true, false, ◌&&◌, nat_lt, Option, Some, None, List, [], ◌∷◌, refl, sym, ◌∙◌, ap, inl, inr, arith}
use Rattle.std.proofs.lemmas.Bool.{cases_Bool, and_parts, and_from, eqb-true, eq-eqb, ltb-true, lt-ltb, false_from_ne_true, true≢false}
use Rattle.std.proofs.lemmas.Option.{none-some, same_Some, some_pair_parts}
use Rattle.std.specs.Prelude.{find}
use Rattle.address_runs.specs.Runs.{range_of_run}
use Rattle.srat_reader.specs.declared.table.SratBlock.{SratBlock}
use Rattle.srat_nodes.specs.declared.kept.KeptBlock.{KeptBlock}
use Rattle.srat_nodes.specs.Kept.{meets_memory, block_in_frames, keep_blocks_from, keep_blocks, nodes_overlap, numbers_overlap, first_overlap}
use Rattle.srat_nodes.proofs.InListLaws.{IsIn, any_member, member_any}
use Rattle.srat_nodes.proofs.NodesLaws.{find_none, first_none_parts}

-- the kept blocks are in ascending order of their numbers, which are at least n
abbrev Numbered : ℕ → List KeptBlock → Type 0
Numbered n [] = Unit {0}
Numbered n (k ∷ ks) = (n ≤ k.number) × Numbered (k.number + 1) ks

from_lower : (n : ℕ) (ks : List KeptBlock) → Numbered (n + 1) ks → Numbered n ks
from_lower n [] numbered = tt
from_lower n (k ∷ ks) numbered = (omega (arith, numbered.0), numbered.1)

kept_numbered : (memory : ℕ → Bool) (domains : List ℕ) (n : ℕ) (bs : List SratBlock) → Numbered n (keep_blocks_from memory domains n bs)
kept_numbered memory domains n [] = tt
kept_numbered memory domains n (b ∷ bs) = elim (cases_Bool (meets_memory memory (range_of_run (block_in_frames domains b)))) as
    (λ _. Numbered n (keep_blocks_from memory domains n (b ∷ bs))) [
      | inl some ↦ rw some (omega arith, kept_numbered memory domains (n + 1) bs)
      | inr none ↦ rw none (from_lower n (keep_blocks_from memory domains (n + 1) bs) (kept_numbered memory domains (n + 1) bs))
    ]

number_from : (n : ℕ) (ks : List KeptBlock) (k : KeptBlock) → Numbered n ks → IsIn k ks → n ≤ k.number
number_from n [] k numbered member = absurd member
number_from n (j ∷ js) k numbered (inl here) = omega (arith, ap (λ (i : KeptBlock). i.number) here, numbered.0)
number_from n (j ∷ js) k numbered (inr later) = omega (arith, number_from (j.number + 1) js k numbered.1 later, numbered.0)

-- the first kept block that passes the test; those with lower numbers don't pass
record IsFirst (p : KeptBlock → Bool) (ks : List KeptBlock) (k : KeptBlock) : Type 0 where
  member : IsIn k ks
  passes : p k ≡ true
  least : (j : KeptBlock) → IsIn j ks → p j ≡ true → k.number ≤ j.number

find_first : (p : KeptBlock → Bool) (n : ℕ) (ks : List KeptBlock) (k : KeptBlock) → Numbered n ks → find p ks ≡ Some k → IsFirst p ks k
find_first p n [] k numbered found = absurd (none-some k found)
find_first p n (c ∷ cs) k numbered found = elim (cases_Bool (p c)) as (λ _. IsFirst p (c ∷ cs) k) [
  | inl here ↦
      let same : c ≡ k = same_Some c k (rw here at found) in
      let number : c.number ≡ k.number = ap (λ (i : KeptBlock). i.number) same in
      record {
        member = inl (sym same);
        passes = ap p (sym same) ∙ here;
        least = λ j member passes. elim member as (λ _. k.number ≤ j.number) [
          | inl first ↦ let is : j.number ≡ c.number = ap (λ (i : KeptBlock). i.number) first in omega (arith, is, number)
          | inr later ↦ let high = number_from (c.number + 1) cs j numbered.1 later in omega (arith, high, number)
        ];
      }
  | inr not_here ↦
      let rest = find_first p (c.number + 1) cs k numbered.1 (rw not_here at found) in
      record {
        member = inr rest.member;
        passes = rest.passes;
        least = λ j member passes. elim member as (λ _. k.number ≤ j.number) [
          | inl first ↦ absurd (true≢false (sym passes ∙ ap p first ∙ not_here))
          | inr later ↦ rest.least j later passes
        ];
      }
]

-- the kept blocks with these numbers have different nodes and share an address
record Overlap (ks : List KeptBlock) (i j : ℕ) : Type 0 where
  one : KeptBlock
  other : KeptBlock
  in_one : IsIn one ks
  in_other : IsIn other ks
  first : one.number ≡ i
  second : other.number ≡ j
  order : i < j
  clashes : nodes_overlap one other ≡ true

overlap_from : (ks : List KeptBlock) (i j : ℕ) → numbers_overlap ks i j ≡ true → Overlap ks i j
overlap_from ks i j test =
    let parts = and_parts (nat_lt i j) _ test in
    let a = any_member _ ks parts.1 in
    let of_a = and_parts (a.one.number == i) _ a.passes in
    let b = any_member _ ks of_a.1 in
    let of_b = and_parts (b.one.number == j) _ b.passes in
    record {
      one = a.one;
      other = b.one;
      in_one = a.member;
      in_other = b.member;
      first = eqb-true _ _ of_a.0;
      second = eqb-true _ _ of_b.0;
      order = ltb-true _ _ parts.0;
      clashes = of_b.1;
    }

overlap_test : (ks : List KeptBlock) (i j : ℕ) → Overlap ks i j → numbers_overlap ks i j ≡ true
overlap_test ks i j o =
    let in_other = member_any (λ (b : KeptBlock). (b.number == j) && nodes_overlap o.one b) ks o.other o.in_other
    (and_from _ _ (eq-eqb _ _ o.second) o.clashes) in
    and_from _ _ (lt-ltb _ _ o.order) (member_any _ ks o.one o.in_one (and_from _ _ (eq-eqb _ _ o.first) in_other))

-- a pair of kept blocks either has the first block as its lower one, or doesn't have it
record WithFirst (c : KeptBlock) (cs : List KeptBlock) (i j : ℕ) : Type 0 where
  other : KeptBlock
  in_other : IsIn other cs
  first : c.number ≡ i
  second : other.number ≡ j
  clashes : nodes_overlap c other ≡ true

with_first : (n : ℕ) (c : KeptBlock) (cs : List KeptBlock) (i j : ℕ) → Numbered n (c ∷ cs) → Overlap (c ∷ cs) i j
    → WithFirst c cs i j ⊎ Overlap cs i j
with_first n c cs i j numbered o =
    let number : (a b : KeptBlock) → a ≡ b → a.number ≡ b.number = λ a b same. ap (λ (k : KeptBlock). k.number) same in
    let after : (k : KeptBlock) → IsIn k cs → c.number + 1 ≤ k.number = λ k member. number_from (c.number + 1) cs k numbered.1 member in
    elim o.in_one as (λ _. WithFirst c cs i j ⊎ Overlap cs i j) [
      | inl here ↦ elim o.in_other as (λ _. WithFirst c cs i j ⊎ Overlap cs i j) [
        | inl too ↦ absurd (omega (arith, o.first, o.second, o.order, number o.one c here, number o.other c too))
        | inr later ↦ inl (record {
          other = o.other;
          in_other = later;
          first = sym (number o.one c here) ∙ o.first;
          second = o.second;
          clashes = ap (λ (k : KeptBlock). nodes_overlap k o.other) (sym here) ∙ o.clashes;
        })
      ]
      | inr later ↦ elim o.in_other as (λ _. WithFirst c cs i j ⊎ Overlap cs i j) [
        | inl here ↦ absurd (omega (arith, o.first, o.second, o.order, after o.one later, number o.other c here))
        | inr too ↦ inr (record {
          one = o.one;
          other = o.other;
          in_one = later;
          in_other = too;
          first = o.first;
          second = o.second;
          order = o.order;
          clashes = o.clashes;
        })
      ]
    ]

-- this pair clashes, and is the least that does
record IsLeastClash (ks : List KeptBlock) (i j : ℕ) : Type 0 where
  pair : Overlap ks i j
  least : (k l : ℕ) → Overlap ks k l → (i < k) ⊎ ((i ≡ k) × (j ≤ l))

told : (n : ℕ) (ks : List KeptBlock) (i j : ℕ) → Numbered n ks → first_overlap ks ≡ Some (i, j) → IsLeastClash ks i j
told n [] i j numbered is = absurd (none-some (i, j) is)
told n (c ∷ cs) i j numbered is = by (find (nodes_overlap c) cs) refl (told (c.number + 1) cs i j numbered.1) is where
  by : (o : Option KeptBlock) → find (nodes_overlap c) cs ≡ o → (first_overlap cs ≡ Some (i, j) → IsLeastClash cs i j)
      → first_overlap (c ∷ cs) ≡ Some (i, j) → IsLeastClash (c ∷ cs) i j
  by (Some d) at rest told_at =
      let same = some_pair_parts c.number i d.number j (rw at at told_at) in
      let first : c.number ≡ i = same.0 in
      let second : d.number ≡ j = same.1 in
      let found = find_first (nodes_overlap c) (c.number + 1) cs d numbered.1 at in
      record {
        pair = record {
          one = c;
          other = d;
          in_one = inl refl;
          in_other = inr found.member;
          first = first;
          second = second;
          order = let high = number_from (c.number + 1) cs d numbered.1 found.member in omega (arith, first, second, high);
          clashes = found.passes;
        };
        least = λ k l o. elim (with_first n c cs k l numbered o) as (λ _. (i < k) ⊎ ((i ≡ k) × (j ≤ l))) [
          | inl w ↦ inr (sym first ∙ w.first, omega (arith, second, w.second, found.least w.other w.in_other w.clashes))
          | inr later ↦
              let high = number_from (c.number + 1) cs later.one numbered.1 later.in_one in
              inl (omega (arith, first, later.first, high))
        ];
      }
  by None at rest told_at =
      let later = rest (rw at at told_at) in
      record {
        pair = record {
          one = later.pair.one;
          other = later.pair.other;
          in_one = inr later.pair.in_one;
          in_other = inr later.pair.in_other;
          first = later.pair.first;
          second = later.pair.second;
          order = later.pair.order;
          clashes = later.pair.clashes;
        };
        least = λ k l o. elim (with_first n c cs k l numbered o) as (λ _. (i < k) ⊎ ((i ≡ k) × (j ≤ l))) [
          | inl w ↦ absurd (true≢false (sym w.clashes ∙ find_none (nodes_overlap c) cs w.other at w.in_other))
          | inr o_later ↦ later.least k l o_later
        ];
      }

-- if no pair is reported, no pair clashes
no_overlap : (n : ℕ) (ks : List KeptBlock) (i j : ℕ) → Numbered n ks → first_overlap ks ≡ None → Overlap ks i j → ⊥
no_overlap n [] i j numbered none o = absurd o.in_one
no_overlap n (c ∷ cs) i j numbered none o =
    let parts = first_none_parts c cs none in
    elim (with_first n c cs i j numbered o) as (λ _. ⊥) [
      | inl w ↦ true≢false (sym w.clashes ∙ find_none (nodes_overlap c) cs w.other parts.0 w.in_other)
      | inr later ↦ no_overlap (c.number + 1) cs i j numbered.1 parts.1 later
    ]

-- the lemmas above, for the kept blocks of a table
module _ (memory : ℕ → Bool) (domains : List ℕ) (blocks : List SratBlock) where
  abbrev ks : List KeptBlock
  ks = keep_blocks memory domains blocks

  pub pair_overlaps : (i j : ℕ) → first_overlap ks ≡ Some (i, j) → numbers_overlap ks i j ≡ true
  pair_overlaps i j is = overlap_test ks i j (told 0 ks i j (kept_numbered memory domains 0 blocks) is).pair

  pub pair_least : (i j k l : ℕ) → first_overlap ks ≡ Some (i, j) → numbers_overlap ks k l ≡ true → (i < k) ⊎ ((i ≡ k) × (j ≤ l))
  pair_least i j k l is test = (told 0 ks i j (kept_numbered memory domains 0 blocks) is).least k l (overlap_from ks k l test)

  pub none_overlap : (k l : ℕ) → first_overlap ks ≡ None → numbers_overlap ks k l ≡ false
  none_overlap k l none = false_from_ne_true (numbers_overlap ks k l) (λ test.
      no_overlap 0 ks k l (kept_numbered memory domains 0 blocks) none (overlap_from ks k l test))
