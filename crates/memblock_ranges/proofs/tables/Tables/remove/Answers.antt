use Rattle.std.proofs.Common.{None, Option, ap, arith}
use Rattle.std.proofs.lemmas.Grind.{common_steps}
use Rattle.memblock_model.specs.Labels.{LabelView}
use Rattle.address_runs.specs.Runs.{value_at}
use Rattle.address_runs.specs.Edits.{uncover_range}
use Rattle.memblock_model.specs.Tables.{records_for}
use Rattle.memblock_ranges.specs.Tables.{records_of_head, AreTables}
use Rattle.memblock_ranges.proofs.EditLaws.{edited, no_edit}
use Rattle.memblock_ranges.proofs.PairLaws.{EditsTable, memory_edited, reserved_edited, with_records, plain_uncovered}
use Rattle.memblock_ranges.proofs.tables.Tables.remove.Goals as goal
use Rattle.memblock_ranges.proofs.tables.Tables.remove.Goals.{After-edit_without_cover}

pub returns-then-range-eq0-clause-table : goal.returns-then-range-eq0-clause-table
returns-then-range-eq0-clause-table c =
    rw (← c.self.view_is, c.in-Memory.is) (ap (with_records c.self.inside.store c.self.inside.heads.memory)
    (no_edit (λ (carried : Option LabelView). None) c.args.range _ c.self.invariant.memory_records (grind (arith, common_steps))))

pub returns-then-range-eq0-2-clause-table : goal.returns-then-range-eq0-2-clause-table
returns-then-range-eq0-2-clause-table c =
    rw (← c.self.view_is, c.in-Reserved.is) (ap (with_records c.self.inside.store c.self.inside.heads.reserved)
    (no_edit (λ (carried : Option LabelView). None) c.args.range _ c.self.invariant.reserved_records (grind (arith, common_steps))))

-- the memory table after the edit
edit : (c : After-edit_without_cover)
    → AreTables c.edit_without_cover.new.table.store.now c.edit_without_cover.new.table.head.now c.self.inside.heads.reserved
    × EditsTable c.self.inside.store c.edit_without_cover.new.table.store.now c.self.inside.heads.memory
    c.edit_without_cover.new.table.head.now
    c.self.inside.heads.reserved
    (records_for (uncover_range c.args.range (value_at (records_of_head c.self.inside.store c.self.inside.heads.memory))))
edit c =
    memory_edited _ _ _ _ _ _ c.self.invariant c.edit_without_cover.new.table.table c.edit_without_cover.ensures.keeps.2
    (edited (λ (carried : Option LabelView). None) c.args.range _ _ c.self.invariant.memory_records
    (grind (arith, common_steps)) c.edit_without_cover.ensures.list)

pub invariant_of-self-in-Memory : goal.invariant_of-self-in-Memory
invariant_of-self-in-Memory c = (edit c).0

pub returns-else-range-eq0-clause-table : goal.returns-else-range-eq0-clause-table
returns-else-range-eq0-clause-table c = rw (← c.self.view_is, c.in-Memory.is) (edit c).1.table

pub returns-else-range-eq0-clause-other : goal.returns-else-range-eq0-clause-other
returns-else-range-eq0-clause-other c =
    rw (← c.self.view_is, c.in-Memory.is)
    (memory_edited _ _ _ _ _ _ c.self.invariant c.edit_without_cover.new.table.table c.edit_without_cover.ensures.keeps.2
    (edited (λ (carried : Option LabelView). None) c.args.range _ _ c.self.invariant.memory_records
    (grind (arith, common_steps)) c.edit_without_cover.ensures.list)).1.other

pub returns-else-range-eq0-clause-elsewhere : goal.returns-else-range-eq0-clause-elsewhere
returns-else-range-eq0-clause-elsewhere c = rw (← c.self.view_is, c.in-Memory.is) (edit c).1.elsewhere

pub returns-else-range-eq0-clause-ready : goal.returns-else-range-eq0-clause-ready
returns-else-range-eq0-clause-ready c = rw (← c.self.view_is) (edit c).1.ready

pub invariant_of-self-in-Reserved : goal.invariant_of-self-in-Reserved
invariant_of-self-in-Reserved c =
    (reserved_edited _ _ _ _ _ _ c.self.invariant c.edit_without_cover-in-Reserved.new.table.table
    c.edit_without_cover-in-Reserved.ensures.keeps.2
    (edited (λ (carried : Option LabelView). None) c.args.range _ _ c.self.invariant.reserved_records
    (grind (arith, common_steps)) c.edit_without_cover-in-Reserved.ensures.list)
    (plain_uncovered c.args.range _ c.self.invariant.reserved_records c.self.invariant.plain (grind (arith, common_steps)))).0

pub returns-else-range-eq0-2 : goal.returns-else-range-eq0-2
returns-else-range-eq0-2 c =
    let e = (reserved_edited _ _ _ _ _ _ c.self.invariant c.edit_without_cover-in-Reserved.new.table.table
    c.edit_without_cover-in-Reserved.ensures.keeps.2
    (edited (λ (carried : Option LabelView). None) c.args.range _ _ c.self.invariant.reserved_records
    (grind (arith, common_steps)) c.edit_without_cover-in-Reserved.ensures.list)
    (plain_uncovered c.args.range _ c.self.invariant.reserved_records c.self.invariant.plain (grind (arith, common_steps)))).1 in
    rw (← c.self.view_is, c.in-Reserved.is) (record { table = e.table; other = e.other; elsewhere = e.elsewhere; ready = e.ready })
