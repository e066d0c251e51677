use Rattle.memblock_ranges.proofs.TableSpelling.{stands}
use Rattle.memblock_ranges.proofs.tables.Tables.into_parts.Goals as goal

pub returns-clause-memory : goal.returns-clause-memory
returns-clause-memory c = rw (← c.self.view_is) (stands _ _ c.self.invariant.memory c.self.invariant.memory_records)

pub returns-clause-reserved : goal.returns-clause-reserved
returns-clause-reserved c = rw (← c.self.view_is) (stands _ _ c.self.invariant.reserved c.self.invariant.reserved_records)
