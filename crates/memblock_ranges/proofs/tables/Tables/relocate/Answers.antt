use Rattle.memblock_model.specs.declared.owner.Which.TheVariants as which
use Rattle.memblock_ranges.proofs.PairLaws.{move_memory, move_reserved}
use Rattle.memblock_ranges.proofs.tables.Tables.relocate.Goals as goal

pub invariant_of-self : goal.invariant_of-self
invariant_of-self c =
    let apart = rw (← c.self.view_is, c.in-Memory.is) at c.requires.apart in
    (move_memory _ _ _ _ _ _ c.self.invariant c.relocate.ensures (λ meet. apart (which.Reserved, meet))).0

pub invariant_of-self-in-Reserved : goal.invariant_of-self-in-Reserved
invariant_of-self-in-Reserved c =
    let apart = rw (← c.self.view_is, c.in-Reserved.is) at c.requires.apart in
    (move_reserved _ _ _ _ _ _ c.self.invariant c.relocate-in-Reserved.ensures (λ meet. apart (which.Memory, meet))).0

pub returns-in-Memory-clause-other : goal.returns-in-Memory-clause-other
returns-in-Memory-clause-other c =
    let apart = rw (← c.self.view_is, c.in-Memory.is) at c.requires.apart in
    rw (← c.self.view_is, c.in-Memory.is)
    (move_memory _ _ _ _ _ _ c.self.invariant c.relocate.ensures (λ meet. apart (which.Reserved, meet))).1

pub returns-in-Reserved-clause-other : goal.returns-in-Reserved-clause-other
returns-in-Reserved-clause-other c =
    let apart = rw (← c.self.view_is, c.in-Reserved.is) at c.requires.apart in
    rw (← c.self.view_is, c.in-Reserved.is)
    (move_reserved _ _ _ _ _ _ c.self.invariant c.relocate-in-Reserved.ensures (λ meet. apart (which.Memory, meet))).1
