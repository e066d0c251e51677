use Rattle.std.proofs.Common.{◌≡◌, ◌≤◌, ◌<◌, ℕ, None}
use Rattle.buddy_handover.specs.BuddyView.{node_of_free_frame}
use Rattle.memblock_cases.proofs.of_buddy_handover.free.Given as goal

abbrev pub invariant-loop-frame : goal.invariant-loop-frame
invariant-loop-frame l = (x : ℕ) → l.first ≤ x → x < l.frame → node_of_free_frame l.buddy x ≡ None
