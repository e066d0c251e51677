use Rattle.std.proofs.Common.{◌≡◌, ◌⊎◌, ◌≤◌}
use Rattle.free_areas.specs.Areas.{AddsBuddies}
use Rattle.free_areas.proofs.index.insert_buddies.Given as goal

abbrev pub invariant-loop-at : goal.invariant-loop-at
invariant-loop-at l = record {
  from : l.order ≤ l.at;
  until : (l.at ≤ l.block.order) ⊎ (l.at ≡ l.order);
  done : AddsBuddies l.block l.order l.at l.frame l.fn.blocks.keys l.blocks.keys;
}
