-- A fill at the present number of items is applied last.
use Rattle.growth_model.proofs.FillLaws.{fill-newest}
use Rattle.growth_model.proofs.byte_laws.newest_fill_decides.Goals as goal

pub returns : goal.returns
returns c = fill-newest
