use Rattle.growth_model.proofs.CarriedLaws.{carried-memory}
use Rattle.growth_model.proofs.memory_laws.requested_items_make_memory.Goals as goal

pub returns : goal.returns
returns c = carried-memory
