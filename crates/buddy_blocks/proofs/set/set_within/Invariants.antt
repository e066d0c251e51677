use Rattle.std.proofs.Common.{◌≡◌, ◌≤◌, ◌^◌}
use Rattle.buddy_blocks.specs.Sets.{IsGreatestFittingOrder}
use Rattle.buddy_blocks.proofs.set.set_within.Given as goal

abbrev pub invariant-loop-order : goal.invariant-loop-order
invariant-loop-order l =
    record { small : l.order ≤ 10; size : l.size ≡ 2 ^ l.order; greatest : IsGreatestFittingOrder l.first l.end l.frame l.order }

abbrev pub decreases-loop-order : goal.decreases-loop-order
decreases-loop-order l = l.order
