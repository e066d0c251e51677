-- The bytes of two parts of the items, one after the other.
use Rattle.growth_model.proofs.BytesLaws.{after-after, after-byte}
use Rattle.growth_model.proofs.byte_laws.byte_effects_compose.Goals as goal

pub returns-clause-after : goal.returns-clause-after
returns-clause-after c = after-after

pub returns-clause-byte : goal.returns-clause-byte
returns-clause-byte c = after-byte
