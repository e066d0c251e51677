-- The groups of a list are its maximal stretches of one node.
use Rattle.std.proofs.Common.{◌≡◌, ◌≢◌, ◌==◌, ◌∙◌, zero, suc, ◌+◌, ◌<◌, List, [], ◌∷◌, length, refl, sym, ap, inl, inr, arith}
use Rattle.std.specs.Prelude.{All}
use Rattle.std.specs.List.{AllAdjacentBelow}
use Rattle.std.proofs.lemmas.Bool.{cases_Bool, eqb-true, eqb-false}
use Rattle.std.proofs.lemmas.List.Elements.{All-cons, All-head, All-nil, All-tail}
use Rattle.memblock_grow.specs.declared.stop.Section.{Section}
use Rattle.section_maps.specs.Maps.{SectionGroup, groups_of, prepend_section, sections_in}
use Rattle.section_maps.specs.Stretches.{AreMaximalStretches, HasOneNode}

abbrev Differ : SectionGroup → SectionGroup → Type 0
Differ g h = g.first.node ≢ h.first.node

abbrev AllDiffer : List SectionGroup → Type 0
AllDiffer groups = AllAdjacentBelow Differ groups (length groups)

-- neighbouring groups still differ after one more group is added as the first, if its node isn't
-- that of the next
differ-cons : (g h : SectionGroup) (hs : List SectionGroup) → Differ g h → AllDiffer (h ∷ hs) → AllDiffer (g ∷ (h ∷ hs))
differ-cons g h hs other rest zero d below = other
differ-cons g h hs other rest (suc k) d below = let next : suc k + 1 ≡ suc (k + 1) = omega arith in rw next (rest k d (omega arith))

-- neighbouring groups still differ if the first group is replaced by one of its node
differ-first : (g h : SectionGroup) (hs : List SectionGroup) → g.first.node ≡ h.first.node → AllDiffer (h ∷ hs) → AllDiffer (g ∷ hs)
differ-first g h hs same all zero d below = λ is. all zero d below (sym same ∙ is)
differ-first g h hs same all (suc k) d below =
    let next : suc k + 1 ≡ suc (k + 1) = omega arith in rw next (rw next at (all (suc k) d below))

-- a group has at least its first section
none-empty : (groups : List SectionGroup) → All (λ g. 0 < length (sections_in g)) groups
none-empty groups k d below = omega arith

one-alone : (s : Section) → HasOneNode (record { first = s; others = [] })
one-alone s = All-cons (λ t. t.node ≡ s.node) s [] refl (All-nil (λ t. t.node ≡ s.node))

-- the groups of a list are its maximal stretches after one more section is added as the first
leads : (s : Section) (ss : List Section) (groups : List SectionGroup) → AreMaximalStretches ss groups
    → AreMaximalStretches (s ∷ ss) (prepend_section s groups)
leads s ss [] are = record {
  joined = ap (λ rest. s ∷ rest) are.joined;
  some = none-empty (prepend_section s []);
  one_node = All-cons HasOneNode (record { first = s; others = [] }) [] (one-alone s) (All-nil HasOneNode);
  apart = λ k d below. absurd (omega (arith, below));
}
leads s ss (g ∷ gs) are = elim (cases_Bool (s.node == g.first.node)) as (λ _. AreMaximalStretches (s ∷ ss) (prepend_section s (g ∷ gs))) [
  | inl same ↦
      let is : s.node ≡ g.first.node = eqb-true s.node g.first.node same in
      let longer : SectionGroup = record { first = s; others = sections_in g } in
      let own = All-cons (λ t. t.node ≡ s.node) s (sections_in g) refl (rw is (All-head HasOneNode g gs are.one_node)) in
      rw same (record {
        joined = ap (λ rest. s ∷ rest) are.joined;
        some = none-empty (longer ∷ gs);
        one_node = All-cons HasOneNode longer gs own (All-tail HasOneNode g gs are.one_node);
        apart = differ-first longer g gs is are.apart;
      })
  | inr other ↦
      let alone : SectionGroup = record { first = s; others = [] } in
      rw other (record {
        joined = ap (λ rest. s ∷ rest) are.joined;
        some = none-empty (alone ∷ (g ∷ gs));
        one_node = All-cons HasOneNode alone (g ∷ gs) (one-alone s) are.one_node;
        apart = differ-cons alone g gs (eqb-false s.node g.first.node other) are.apart;
      })
]

pub maximal : (sections : List Section) → AreMaximalStretches sections (groups_of sections)
maximal [] =
    record { joined = refl; some = none-empty []; one_node = All-nil HasOneNode; apart = λ k d below. absurd (omega (arith, below)) }
maximal (s ∷ ss) = leads s ss (groups_of ss) (maximal ss)
