use Rattle.std.proofs.Common.{◌≡◌, ◌∙◌, Some, Option, sym, ap, arith}
use Rattle.std.specs.Prelude.{unwrap_or}
use Rattle.address_runs.specs.Runs.{value_at}
use Rattle.address_runs.specs.Edits.{cover_range}
use Rattle.memblock_model.specs.Labels.{LabelView, plain_label}
use Rattle.memblock_model.specs.Same.{same_label}
use Rattle.memblock_model.specs.Tables.{records_for}
use Rattle.memblock_model.proofs.SameLaws.{same_label_decides_equality}
use Rattle.memblock_ranges.specs.Encoding.{label_of}
use Rattle.memblock_ranges.specs.Tables.{records_of_head, AreTables, ArePlainRecords}
use Rattle.memblock_ranges.proofs.EditLaws.{cover_room, edited}
use Rattle.memblock_ranges.proofs.PairLaws.{EditsTable, memory_edited, reserved_edited, plain_covered}
use Rattle.memblock_ranges.proofs.tables.Tables.insert.Goals as goal
use Rattle.memblock_ranges.proofs.tables.Tables.insert.Goals.{After-edit_range, In-Reserved}

-- no record of the reserved table gets a node
plain : (c : In-Reserved) → ArePlainRecords (records_for (cover_range c.args.range c.label_of.result
    (value_at (records_of_head c.self.inside.store c.self.inside.heads.reserved))))
plain c =
    let none = rw c.in-Reserved.is at c.requires.node in
    let label : c.label_of.result ≡ plain_label = c.label_of.ensures ∙ ap (label_of 0) none in
    rw label
    (plain_covered c.args.range _ c.self.invariant.reserved_records c.self.invariant.plain (omega (arith, c.range_end_fits.ensures)))

pub edit_range-requires-clause-room : goal.edit_range-requires-clause-room
edit_range-requires-clause-room c = (
  same_label,
  same_label_decides_equality,
  cover_room _ c.args.range c.label_of.result c.self.inside.heads.memory.room c.self.invariant.memory_records
      (omega (arith, c.range_end_fits.ensures)) (rw (← c.self.view_is, c.in-Memory.is) at c.requires.room),
)

pub edit_range-requires-in-Reserved-clause-room : goal.edit_range-requires-in-Reserved-clause-room
edit_range-requires-in-Reserved-clause-room c = (
  same_label,
  same_label_decides_equality,
  cover_room _ c.args.range c.label_of.result c.self.inside.heads.reserved.room
      c.self.invariant.reserved_records (omega (arith, c.range_end_fits.ensures))
      (rw (← c.self.view_is, c.in-Reserved.is) at c.requires.room),
)

-- the memory table after the edit
edit : (c : After-edit_range) → AreTables c.edit_range.new.table.store.now c.edit_range.new.table.head.now c.self.inside.heads.reserved
    × EditsTable c.self.inside.store c.edit_range.new.table.store.now c.self.inside.heads.memory c.edit_range.new.table.head.now
    c.self.inside.heads.reserved
    (records_for (cover_range c.args.range c.label_of.result (value_at (records_of_head c.self.inside.store c.self.inside.heads.memory))))
edit c =
    memory_edited _ _ _ _ _ _ c.self.invariant c.edit_range.new.table.table c.edit_range.ensures.keeps.2
    (edited (λ (carried : Option LabelView). Some (unwrap_or carried c.label_of.result)) c.args.range _ _ c.self.invariant.memory_records
    (omega (arith, c.range_end_fits.ensures)) c.edit_range.ensures.list)

pub invariant_of-self : goal.invariant_of-self
invariant_of-self c = (edit c).0

pub returns-in-Memory-clause-table : goal.returns-in-Memory-clause-table
returns-in-Memory-clause-table c =
    rw (← c.self.view_is, c.in-Memory.is, sym c.label_of.ensures) (memory_edited _ _ _ _ _ _ c.self.invariant c.edit_range.new.table.table
    c.edit_range.ensures.keeps.2 (edited (λ (carried : Option LabelView). Some (unwrap_or carried c.label_of.result)) c.args.range _ _
    c.self.invariant.memory_records (omega (arith, c.range_end_fits.ensures)) c.edit_range.ensures.list)).1.table

pub returns-in-Memory-clause-other : goal.returns-in-Memory-clause-other
returns-in-Memory-clause-other c = rw (← c.self.view_is, c.in-Memory.is) (edit c).1.other

pub returns-in-Memory-clause-elsewhere : goal.returns-in-Memory-clause-elsewhere
returns-in-Memory-clause-elsewhere c = rw (← c.self.view_is, c.in-Memory.is) (edit c).1.elsewhere

pub returns-in-Memory-clause-ready : goal.returns-in-Memory-clause-ready
returns-in-Memory-clause-ready c = rw (← c.self.view_is) (edit c).1.ready

pub invariant_of-self-in-Reserved : goal.invariant_of-self-in-Reserved
invariant_of-self-in-Reserved c =
    (reserved_edited _ _ _ _ _ _ c.self.invariant c.edit_range-in-Reserved.new.table.table c.edit_range-in-Reserved.ensures.keeps.2
    (edited (λ (carried : Option LabelView). Some (unwrap_or carried c.label_of.result)) c.args.range _ _ c.self.invariant.reserved_records
    (omega (arith, c.range_end_fits.ensures)) c.edit_range-in-Reserved.ensures.list)
    (plain (goal.at.invariant_of-self-in-Reserved c).In-Reserved)).0

pub returns-in-Reserved : goal.returns-in-Reserved
returns-in-Reserved c =
    let e = (reserved_edited _ _ _ _ _ _ c.self.invariant c.edit_range-in-Reserved.new.table.table c.edit_range-in-Reserved.ensures.keeps.2
    (edited (λ (carried : Option LabelView). Some (unwrap_or carried c.label_of.result)) c.args.range _ _ c.self.invariant.reserved_records
    (omega (arith, c.range_end_fits.ensures)) c.edit_range-in-Reserved.ensures.list)
    (plain (goal.at.returns-in-Reserved c).In-Reserved)).1 in
    rw (← c.self.view_is, c.in-Reserved.is, sym c.label_of.ensures)
    (record { table = e.table; other = e.other; elsewhere = e.elsewhere; ready = e.ready })
