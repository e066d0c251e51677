use Rattle.free_areas.proofs.OrderLaws.{inserted}
use Rattle.free_areas.proofs.index.insert_block.Goals as goal

pub returns : goal.returns
returns c = λ b. inserted c.args.blocks.now c.insert.new.self c.args.block b c.in_ok-insert.ensures.updates
