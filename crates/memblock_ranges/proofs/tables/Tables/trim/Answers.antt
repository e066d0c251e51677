use Rattle.memblock_ranges.proofs.PairLaws.{memory_edited}
use Rattle.memblock_ranges.proofs.tables.Tables.trim.Goals as goal

pub invariant_of-self : goal.invariant_of-self
invariant_of-self c =
    (memory_edited _ _ _ _ _ _ c.self.invariant c.trim.new.table.table c.trim.ensures.keeps.2
    (c.trim.ensures.records, c.trim.ensures.list)).0

pub returns : goal.returns
returns c =
    let e = (memory_edited _ _ _ _ _ _ c.self.invariant c.trim.new.table.table c.trim.ensures.keeps.2
    (c.trim.ensures.records, c.trim.ensures.list)).1 in
    rw (← c.self.view_is) (record { memory = e.table; reserved = e.other; elsewhere = e.elsewhere; ready = e.ready })
