use Rattle.memblock_model.specs.declared.owner.Owner.TheVariants as owner
use Rattle.growth_model.proofs.FirstLaws.{first-claimed}
use Rattle.growth_model.proofs.laws.first_claim_places_tables.Goals as goal

pub returns-clause-alone : goal.returns-clause-alone
returns-clause-alone c = λ kernel small. first-claimed kernel owner.Kernel small
