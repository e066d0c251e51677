use Rattle.std.proofs.Common.{◌≡◌, ◌+◌, drop, None}
use Rattle.boot_audit.specs.Walk.{first_mergeable_from}
use Rattle.boot_audit.proofs.merges.first_mergeable.Given as goal

abbrev pub invariant-loop-index : goal.invariant-loop-index
invariant-loop-index l = first_mergeable_from l.last l.from (l.index + 1) (drop l.index l.blocks) ≡ first_mergeable_from None 0 1 l.blocks
