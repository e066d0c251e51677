use Rattle.growth_model.specs.Growth.{free_range}
use Rattle.growth_model.specs.Tables.{TablesAreClaimed}
use Rattle.growth_model.proofs.CutLaws.{cuts-ends}
use Rattle.growth_model.proofs.PlacedReservedLaws.{free_range-cuts}
use Rattle.growth_model.proofs.SoundLaws.{claim-stands}
use Rattle.growth_model.proofs.laws.claims_keep_table_places.Goals as goal

pub returns-clause-claimed : goal.returns-clause-claimed
returns-clause-claimed c = λ kernel result old new range who image small stands may ends.
    claim-stands kernel result old new range who image small stands may ends

pub returns-clause-freed : goal.returns-clause-freed
returns-clause-freed c = λ kernel result old new range placed away ends.
    cuts-ends (TablesAreClaimed kernel) result old new (free_range range old) (free_range-cuts kernel old range away placed) ends
