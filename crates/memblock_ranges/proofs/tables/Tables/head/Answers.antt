use Rattle.memblock_ranges.proofs.TableSpelling.{stands}
use Rattle.memblock_ranges.proofs.tables.Tables.head.Goals as goal

pub returns-in-Memory-clause-table : goal.returns-in-Memory-clause-table
returns-in-Memory-clause-table c =
    rw (← c.self.view_is, c.in-Memory.is) (stands _ _ c.self.invariant.memory c.self.invariant.memory_records)

pub returns-in-Reserved-clause-table : goal.returns-in-Reserved-clause-table
returns-in-Reserved-clause-table c =
    rw (← c.self.view_is, c.in-Reserved.is) (stands _ _ c.self.invariant.reserved c.self.invariant.reserved_records)
