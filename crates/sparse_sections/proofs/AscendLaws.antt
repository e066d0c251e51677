-- The sections with memory are in ascending order, and their nodes are those of memory.
use Rattle.std.proofs.Common.{◌≡◌, ℕ, zero, suc, ◌+◌, ◌-◌, ◌^◌, ◌<◌, ◌≤◌, Option, Some, None, List, [], ◌∷◌, ◌++◌, length, get_or, inl, inr, arith, length-append}
use Rattle.std.specs.List.{All}
use Rattle.std.proofs.lemmas.Bool.{cases_lt}
use Rattle.std.proofs.lemmas.List.{append-nil, get_or_append_left, get_or_push}
use Rattle.std.proofs.lemmas.List.Elements.{All-append, All-cons, All-nil}
use Rattle.memblock_model.specs.Labels.{LabelView, Labels}
use Rattle.memblock_grow.specs.declared.stop.Section.{Section}
use Rattle.stage_steps.specs.Nodes.{IsMemoryWithNodes}
use Rattle.sparse_sections.specs.Present.{section_label, section_if_on_node, section_with_label, sections_below, present, AreSectionsInOrder}
use Rattle.sparse_sections.proofs.LowestLaws.{present-lowest}

-- ascending sections, all with a number below n
pub record Ascend (n : ℕ) (ss : List Section) : Type 0 where
  pub ascend : (i j : ℕ) (d : Section) → i < j → j < length ss → (get_or ss i d).number < (get_or ss j d).number
  pub below : All (λ s. s.number < n) ss
  pub few : length ss ≤ n

ascend-later : (n : ℕ) (ss : List Section) → Ascend n ss → Ascend (suc n) ss
ascend-later n ss so_far = record {
  ascend = so_far.ascend;
  below = λ k d in_list. omega (arith, so_far.below k d in_list);
  few = omega (arith, so_far.few);
}

ascend-push : (n node : ℕ) (ss : List Section) → Ascend n ss → Ascend (suc n) (ss ++ record { number = n; node = node } ∷ [])
ascend-push n node ss so_far =
    let s : Section = record { number = n; node = node } in
    let long = length-append ss (s ∷ []) in
    let before = λ (k : ℕ) (d : Section) (in_list : k < length ss). get_or_append_left ss (s ∷ []) d k in_list in
    record {
      ascend = λ i j d order in_list.
          elim (cases_lt j (length ss)) [
            | inl lt ↦ rw (before i d (omega arith), before j d lt) (so_far.ascend i j d order lt)
            | inr ge ↦ rw (before i d (omega arith), get_or_push ss s d j (omega arith)) (so_far.below i d (omega arith))
          ];
      below = All-append (λ t. t.number < suc n) ss (s ∷ []) (ascend-later n ss so_far).below
          (All-cons (λ t. t.number < suc n) s [] (omega arith) (All-nil (λ t. t.number < suc n)));
      few = omega (arith, so_far.few);
    }

ascend-of : (n : ℕ) (ss : List Section) (o : Option ℕ) → Ascend n ss → Ascend (suc n) (ss ++ section_if_on_node n o)
ascend-of n ss None so_far = rw append-nil (ascend-later n ss so_far)
ascend-of n ss (Some node) so_far = ascend-push n node ss so_far

ascend-for : (n : ℕ) (ss : List Section) (o : Option LabelView) → Ascend n ss → Ascend (suc n) (ss ++ section_with_label n o)
ascend-for n ss None so_far = rw append-nil (ascend-later n ss so_far)
ascend-for n ss (Some label) so_far = ascend-of n ss label.node so_far

sections-ascend : (f : Labels) (n : ℕ) → Ascend n (sections_below f n)
unfolding sections_below
sections-ascend f zero = record {
  ascend = λ i j d order in_list. absurd (omega arith);
  below = λ k d in_list. absurd (omega arith);
  few = omega arith;
}
sections-ascend f (suc n) = ascend-for n (sections_below f n) (section_label f n) (sections-ascend f n)

pub present-ascends : (f : Labels) → AreSectionsInOrder (present f)
unfolding present
present-ascends f =
    let all = sections-ascend f (2 ^ 25) in record { ascend = all.ascend; below = all.below; few = all.few }

-- the nodes of sections with memory are nodes of memory
pub present-has : (limit : ℕ) (f : Labels) → IsMemoryWithNodes limit f → All (λ s. s.node < 1024) (present f)
present-has limit f noded k d in_list =
    let low = present-lowest limit f noded k d in_list in
    let told = noded.nodes low.byte low.label low.told in
    let same : told.0 ≡ (get_or (present f) k d).node = cc (told.1, low.node) in
    omega (arith, same, told.2)
