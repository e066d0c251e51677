use Rattle.std.proofs.Common.{◌≡◌, ◌≤◌, length}
use Rattle.memblock_model.specs.Items.{memory_of}
use Rattle.boot_journal.proofs.ByteLaws.{marks_after_all}
use Rattle.boot_journal.proofs.tags.tag_at.Given as goal

-- if all bytes of the frame have the marks `whole`, the items that remain give the byte the same
-- marks as all items do
abbrev pub invariant-loop-i : goal.invariant-loop-i
invariant-loop-i l = record { few : length l.rest ≤ length l.items; label : marks_after_all l.whole l.rest l.x ≡ memory_of l.items l.x }

abbrev pub decreases-loop-i : goal.decreases-loop-i
decreases-loop-i l = length l.rest
