use Rattle.srat_nodes.proofs.GivenLaws.{given-runs, given-small, given-covers, given-frames}
use Rattle.srat_nodes.proofs.laws.runs_cover_memory.Goals as goal

pub returns-clause-runs : goal.returns-clause-runs
returns-clause-runs c = λ memory off table. given-runs memory off table

pub returns-clause-nodes : goal.returns-clause-nodes
returns-clause-nodes c = λ memory off table. given-small memory off table

pub returns-clause-cover : goal.returns-clause-cover
returns-clause-cover c = λ memory off table x used is near. given-covers memory off table x used is near

pub returns-clause-frames : goal.returns-clause-frames
returns-clause-frames c = λ memory off table whole x near. given-frames memory off table whole x near
