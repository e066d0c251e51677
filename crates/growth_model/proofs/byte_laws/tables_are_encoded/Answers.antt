-- The two tables have no byte in common, so each shows its own encoding.
use Rattle.growth_model.proofs.StandLaws.{list-stands}
use Rattle.growth_model.proofs.byte_laws.tables_are_encoded.Goals as goal

pub returns-clause-list : goal.returns-clause-list
returns-clause-list c = list-stands
