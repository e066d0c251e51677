-- Each number is below those after it.
use Rattle.std.proofs.Common.{◌<◌, List, [], ◌∷◌, AllPairs, arith}
use Rattle.std.specs.List.{AllByRecursion}
use Rattle.std.proofs.lemmas.List.Elements.{All-from_recursion}
use Rattle.std.proofs.lemmas.List.Kept.{AllPairs-cons}
use Rattle.memblock_grow.specs.declared.stop.Section.{Section}
use Rattle.memblock_cases.proofs.of_section_maps.four_sections.Goals as goal

before_all : (s : Section) (ss : List Section) → AllByRecursion (λ t. s.number < t.number) ss → AllPairs (λ s t. s.number < t.number) ss
    → AllPairs (λ s t. s.number < t.number) (s ∷ ss)
before_all s ss less ascend =
    AllPairs-cons (λ s t. s.number < t.number) s ss (All-from_recursion (λ t. s.number < t.number) ss less) ascend

none : AllPairs {X = Section} (λ s t. s.number < t.number) []
none i j d order within = absurd (omega arith)

four : (a b c d : Section) → a.number < b.number → b.number < c.number → c.number < d.number
    → AllPairs (λ s t. s.number < t.number) (a ∷ (b ∷ (c ∷ (d ∷ []))))
four a b c d one two three =
    before_all a (b ∷ (c ∷ (d ∷ []))) (one, (omega (arith, one, two), (omega (arith, one, two, three), tt)))
    (before_all b (c ∷ (d ∷ [])) (two, (omega (arith, two, three), tt)) (before_all c (d ∷ []) (three, tt) (before_all d [] tt none)))

pub returns : goal.returns
returns c = four _ _ _ _ (omega arith) (omega arith) (omega arith)
