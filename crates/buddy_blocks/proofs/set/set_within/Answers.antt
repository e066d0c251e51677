use Rattle.std.proofs.Common.{arith}
use Rattle.std.proofs.lemmas.Bool.{false≢true}
use Rattle.buddy_blocks.proofs.RunLaws.{step_down}
use Rattle.buddy_blocks.proofs.set.set_within.Goals as goal

pub loop-order-preserved : goal.loop-order-preserved
loop-order-preserved c =
    let down = step_down c.args.first c.args.end c.args.frame c.loop-order.order c.loop-order.size c.loop-order.invariant.size
    c.requires.above c.requires.below (λ fits. absurd (false≢true (c.loop-order-test.ensures.1 fits))) c.loop-order.invariant.greatest in
    record { small = let less = c.loop-order.invariant.small in omega (arith, less); size = down.1; greatest = down.2 }
