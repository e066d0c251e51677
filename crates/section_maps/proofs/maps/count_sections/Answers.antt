-- Each number is at least the index, and the last one is below 2^32.
use Rattle.std.proofs.Common.{ℕ, zero, suc, ◌-◌, ◌<◌, ◌≤◌, AllPairs, List, length, get_or, arith}
use Rattle.memblock_grow.specs.declared.stop.Section.{Section}
use Rattle.section_maps.proofs.MapLaws.{no_section}
use Rattle.section_maps.proofs.maps.count_sections.Goals as goal

at_index : (ss : List Section) → AllPairs (λ s t. s.number < t.number) ss → (i : ℕ) (d : Section) → i < length ss
    → i ≤ (get_or ss i d).number
at_index ss ascend zero d within = omega arith
at_index ss ascend (suc i) d within =
    omega (arith, at_index ss ascend i d (omega arith), ascend i (suc i) d (omega arith) within)

pub returns-clause-few : goal.returns-clause-few
returns-clause-few c =
    let ss = c.args.sections.now in
    let last = at_index ss c.requires.ascend (length ss - 1) no_section (omega arith) in
    omega (arith, last)
