use Rattle.std.proofs.Common.{◌≡◌, ℕ, ◌<◌, ◌≤◌, false, Some}
use Rattle.memblock_find.specs.Places.{is_allowed_label}
use Rattle.memblock_find.specs.Walk.{nth_record}
use Rattle.memblock_find.proofs.node.count_to_last_allowed.Given as goal

-- the records from `left` on aren't allowed
abbrev pub invariant-loop-left : goal.invariant-loop-left
invariant-loop-left l = record {
  within : l.left ≤ l.count;
  passed : (i : ℕ) → l.left ≤ i → i < l.count → is_allowed_label l.mirror l.node (Some (nth_record l.records i).value) ≡ false;
}

abbrev pub decreases-loop-left : goal.decreases-loop-left
decreases-loop-left l = l.left
