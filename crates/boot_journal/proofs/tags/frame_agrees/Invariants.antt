use Rattle.std.proofs.Common.{drop}
use Rattle.boot_journal.specs.Bytes.{ItemsAgree}
use Rattle.boot_journal.proofs.tags.frame_agrees.Given as goal

-- if the ends of the items that remain agree with the frame's first byte, the ends of all items do
abbrev pub invariant-loop-item : goal.invariant-loop-item
invariant-loop-item l = ItemsAgree l.whole l.items l.first (drop l.item-index l.items) → ItemsAgree l.whole l.items l.first l.items
