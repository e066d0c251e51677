use Rattle.buddy_blocks.proofs.SetLaws.{one_zone}
use Rattle.buddy_blocks.proofs.laws.sets_lie_in_one_zone.Goals as goal

pub returns : goal.returns
returns c = λ order x y small same. one_zone order x y small same
