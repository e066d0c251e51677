use Rattle.std.proofs.Common.{List, sym, subst}
use Rattle.std.proofs.lemmas.Result.{on_ok_weaker}
use Rattle.buddy_blocks.specs.declared.block.Block.{Block}
use Rattle.free_areas.specs.Areas.{IndexesFreeBlocks}
use Rattle.free_areas.proofs.AreaLaws.{join_areas}
use Rattle.free_areas.proofs.areas.Areas.merge_block.Goals as goal

pub returns : goal.returns
returns c =
    on_ok_weaker c.insert_block.result
    (λ put f g areas without block inner order. join_areas f g c.args.order c.args.frame c.args.block.now _ _ _
    (subst (λ (bs : List Block). IndexesFreeBlocks g bs) (sym c.self.view_is) areas) without block inner order c.remove_buddies.ensures put)
    c.insert_block.ensures
