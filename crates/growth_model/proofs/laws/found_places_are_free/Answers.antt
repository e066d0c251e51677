use Rattle.growth_model.proofs.FoundLaws.{found-unclaimed, found-away, beside-new, place-unclaimed, place-within}
use Rattle.growth_model.proofs.LimitLaws.{memory-below}
use Rattle.growth_model.proofs.laws.found_places_are_free.Goals as goal

pub returns-clause-unclaimed : goal.returns-clause-unclaimed
returns-clause-unclaimed c = λ items query place found. found-unclaimed items query place found

pub returns-clause-away : goal.returns-clause-away
returns-clause-away c = λ kernel items query place placed found. found-away kernel items query place placed found

pub returns-clause-allocated : goal.returns-clause-allocated
returns-clause-allocated c = λ items request place found. place-unclaimed request items place found

pub returns-clause-within : goal.returns-clause-within
returns-clause-within c = λ items request place found. place-within request items place found

pub returns-clause-aligned : goal.returns-clause-aligned
returns-clause-aligned c = λ avoid room items place found. (beside-new items avoid room place found).aligned

pub returns-clause-beside : goal.returns-clause-beside
returns-clause-beside c = λ avoid room items place found. (beside-new items avoid room place found).clear

pub returns-clause-below : goal.returns-clause-below
returns-clause-below c = λ avoid room items place found. (beside-new items avoid room place found).within

pub returns-clause-memory : goal.returns-clause-memory
returns-clause-memory c = λ result old new place ends at. memory-below result old new place ends at
