use Rattle.buddy_blocks.proofs.PickLaws.{picked_is, picked_tells, picked_none, none_tells}
use Rattle.buddy_blocks.proofs.laws.picked_block_is_least.Goals as goal

pub returns-clause-picked : goal.returns-clause-picked
returns-clause-picked c = λ f n z order b low. (picked_tells f n z order b low, picked_is f n z order b low)

pub returns-clause-none : goal.returns-clause-none
returns-clause-none c = λ f n z order low. (none_tells f n z order low, picked_none f n z order low)
