use Rattle.buddy_blocks.proofs.BlockLaws.{block_found, found_block, listed_sound, listed_complete, listed_ascends}
use Rattle.buddy_blocks.proofs.laws.listed_blocks_are_blocks.Goals as goal

pub returns-clause-block : goal.returns-clause-block
returns-clause-block c = block_found

pub returns-clause-one : goal.returns-clause-one
returns-clause-one c = found_block

pub returns-clause-sound : goal.returns-clause-sound
returns-clause-sound c = listed_sound

pub returns-clause-complete : goal.returns-clause-complete
returns-clause-complete c = listed_complete

pub returns-clause-ascending : goal.returns-clause-ascending
returns-clause-ascending c = listed_ascends
