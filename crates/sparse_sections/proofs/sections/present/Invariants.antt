-- The sections below `next` are in the list, and the records so far have no byte from there on.
use Rattle.std.proofs.Common.{◌≡◌, ◌≤◌, ◌^◌, drop}
use Rattle.address_runs.specs.Runs.{value_at}
use Rattle.sparse_sections.specs.Present.{sections_below}
use Rattle.sparse_sections.proofs.PresentLaws.{IsLeft}
use Rattle.sparse_sections.proofs.sections.present.Given as goal

abbrev pub invariant-loop-i : goal.invariant-loop-i
invariant-loop-i l = record {
  put : l.sections.items ≡ sections_below (value_at l.tables.memory.records) l.next;
  left : IsLeft (value_at l.tables.memory.records) l.next (drop l.i l.tables.memory.records);
  reach : l.next ≤ 2 ^ 25;
}
