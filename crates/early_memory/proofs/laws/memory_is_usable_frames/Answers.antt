use Rattle.early_memory.proofs.MemoryLaws.{first_memory, first_limit}
use Rattle.early_memory.proofs.laws.memory_is_usable_frames.Goals as goal

pub returns : goal.returns
returns c = record { memory = first_memory; limit = first_limit }
