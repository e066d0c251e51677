use Rattle.std.proofs.Common.{List, sym, subst}
use Rattle.std.proofs.lemmas.Result.{on_ok_weaker}
use Rattle.buddy_blocks.specs.declared.block.Block.{Block}
use Rattle.free_areas.specs.Areas.{IndexesFreeBlocks}
use Rattle.free_areas.proofs.AreaLaws.{split_areas}
use Rattle.free_areas.proofs.areas.Areas.split_block.Goals as goal

pub returns : goal.returns
returns c =
    let e = c.in_ok-remove_and_add_next.ensures in
    on_ok_weaker c.insert_buddies.result
    (λ buddies f g areas without block inner order next. split_areas f g c.args.order c.args.frame c.args.block.now c.args.after _ _ _
    (subst (λ (bs : List Block). IndexesFreeBlocks f bs) (sym c.self.view_is) areas) without block inner order next e.sound e.kept e.after
    buddies)
    c.insert_buddies.ensures
