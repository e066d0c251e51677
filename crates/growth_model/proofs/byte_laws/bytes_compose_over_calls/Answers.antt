-- Each clause is one lemma about plain bytes.
use Rattle.growth_model.proofs.FollowLaws.{follows-then, follows-spelled}
use Rattle.growth_model.proofs.FillLaws.{holds-call, holds-fill}
use Rattle.growth_model.proofs.byte_laws.bytes_compose_over_calls.Goals as goal

pub returns-clause-then : goal.returns-clause-then
returns-clause-then c = follows-then

pub returns-clause-spelled : goal.returns-clause-spelled
returns-clause-spelled c = follows-spelled

pub returns-clause-call : goal.returns-clause-call
returns-clause-call c = holds-call

pub returns-clause-fill : goal.returns-clause-fill
returns-clause-fill c = holds-fill
