use Rattle.growth_model.proofs.RoomLaws.{enough-claimed, enough-freed, enough-added, enough-labelled, free-claimed}
use Rattle.growth_model.proofs.laws.two_growths_are_enough.Goals as goal

pub returns-clause-claimed : goal.returns-clause-claimed
returns-clause-claimed c = λ range. enough-claimed range range

pub returns-clause-freed : goal.returns-clause-freed
returns-clause-freed c = enough-freed

pub returns-clause-added : goal.returns-clause-added
returns-clause-added c = enough-added

pub returns-clause-labelled : goal.returns-clause-labelled
returns-clause-labelled c = enough-labelled

pub returns-clause-free : goal.returns-clause-free
returns-clause-free c = free-claimed
