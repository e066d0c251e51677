-- Worked examples: sections in groups, the addresses within a group, and requests.
use Rattle.std.proofs.Common.{◌≡◌, ℕ, true, false, Some, None, List, [], ◌∷◌, refl, arith}
use Rattle.std.proofs.lemmas.List.Elements.{All-head, All-tail}
use Rattle.memblock_grow.specs.declared.stop.Section.{Section}
use Rattle.section_maps.specs.Maps.{SectionGroup, groups_of, usage_request, map_request, consecutive_places}
use Rattle.section_maps.specs.Stretches.{AreMaximalStretches, HasOneNode}
use Rattle.section_maps.proofs.StretchLaws.{maximal}

abbrev section : ℕ → ℕ → Section
section number node = record { number = number; node = node }

abbrev group : Section → List Section → SectionGroup
group first others = record { first = first; others = others }

-- consecutive sections of one node in the list are a group, even if numbers between them are
-- missing; a node that comes again begins another group
grouped : (groups_of [] ≡ []) × (groups_of (section 0 1 ∷ []) ≡ group (section 0 1) [] ∷ [])
    × (groups_of (section 0 0 ∷ section 1 0 ∷ section 32 0 ∷ section 33 1 ∷ section 34 0 ∷ [])
    ≡ group (section 0 0) (section 1 0 ∷ section 32 0 ∷ []) ∷ group (section 33 1) [] ∷ group (section 34 0) [] ∷ [])
grouped = (refl, refl, refl)

-- two sections of node 0 and one of node 1 are two stretches; with any other cut they aren't
abbrev three : List Section
three = section 0 0 ∷ section 1 0 ∷ section 2 1 ∷ []

stretches : AreMaximalStretches three (group (section 0 0) (section 1 0 ∷ []) ∷ group (section 2 1) [] ∷ [])
stretches = maximal three

too_short : AreMaximalStretches three (group (section 0 0) [] ∷ group (section 1 0) [] ∷ group (section 2 1) [] ∷ []) → ⊥
too_short are = are.apart 0 (group (section 0 0) []) (omega arith) refl

two_nodes : HasOneNode (group (section 1 0) (section 2 1 ∷ [])) → ⊥
two_nodes one =
    let node : 1 ≡ 0 = All-head (λ s. s.node ≡ 0) (section 2 1) [] (All-tail (λ s. s.node ≡ 0) (section 1 0) (section 2 1 ∷ []) one) in
    omega (arith, node)

-- 40 bytes of usage data and a map of 2 MiB each, one after another
spread_over : consecutive_places 0x1000 0x4000000 (section 4 1 ∷ section 5 1 ∷ section 9 1 ∷ [])
    ≡ record { section = 4; node = 1; map = 0x4000000; usage = 0x1000 } ∷ record { section = 5; node = 1; map = 0x4200000; usage = 0x1028 }
    ∷ record { section = 9; node = 1; map = 0x4400000; usage = 0x1050 }
    ∷ []
spread_over = refl

-- 40 bytes of usage data each; the maps of a group must be on the node itself, and that of one
-- section may be elsewhere
request_examples : (usage_request 3 1 ≡ record { size = 120; align = 64; min = 0; max = None; node = Some 1; exact = false })
    × (map_request 3 1 true
    ≡ record { size = 0x600000; align = 0x200000; min = 0x1000000; max = None; node = Some 1; exact = true })
    × (map_request 1 1 false
    ≡ record { size = 0x200000; align = 0x200000; min = 0x1000000; max = None; node = Some 1; exact = false })
request_examples = (refl, refl, refl)
