use Rattle.growth_model.proofs.MemoryItemLaws.{memory_of-decided, limit_of-decided}
use Rattle.growth_model.proofs.memory_laws.memory_depends_on_memory_items.Goals as goal

pub returns : goal.returns
returns c = record { memory = memory_of-decided; limit = limit_of-decided }
