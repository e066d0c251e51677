-- The sections so far follow those that were in the list.
use Rattle.std.proofs.Common.{◌≡◌, ◌-◌, ◌++◌}
use Rattle.sparse_sections.specs.Present.{sections_from}
use Rattle.sparse_sections.proofs.sections.push_sections.Given as goal

abbrev pub invariant-loop-number : goal.invariant-loop-number
invariant-loop-number l = l.sections.items ≡ l.fn.sections.items ++ sections_from l.first (l.number - l.first) l.node
