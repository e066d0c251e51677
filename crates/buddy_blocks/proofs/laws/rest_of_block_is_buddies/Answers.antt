use Rattle.buddy_blocks.proofs.BuddyLaws.{without_is, blocks_left}
use Rattle.buddy_blocks.proofs.laws.rest_of_block_is_buddies.Goals as goal

pub returns-clause-left : goal.returns-clause-left
returns-clause-left c = λ f order x. without_is order x f

pub returns-clause-blocks : goal.returns-clause-blocks
returns-clause-blocks c = blocks_left
