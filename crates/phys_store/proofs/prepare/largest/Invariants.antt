use Rattle.std.proofs.Common.{◌<◌, ◌≤◌}
use Rattle.phys_store.proofs.prepare.largest.Given as goal

-- the largest so far is one of those looked at so far
abbrev pub invariant-loop-i : goal.invariant-loop-i
invariant-loop-i l = record {
  least : l.first ≤ l.best;
  below : l.best < l.i;
}
