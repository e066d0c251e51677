use Rattle.growth_model.proofs.RoomLaws.{reserved-doubles, memory-doubles}
use Rattle.growth_model.proofs.laws.growth_doubles_room.Goals as goal

pub returns-clause-reserved : goal.returns-clause-reserved
returns-clause-reserved c = reserved-doubles

pub returns-clause-memory : goal.returns-clause-memory
returns-clause-memory c = memory-doubles
