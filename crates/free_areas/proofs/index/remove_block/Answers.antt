use Rattle.free_areas.proofs.OrderLaws.{removed}
use Rattle.free_areas.proofs.index.remove_block.Goals as goal

pub returns : goal.returns
returns c = λ b. removed c.args.blocks.now c.remove.new.self c.args.block.now b c.remove.ensures.updates
