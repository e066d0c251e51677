use Rattle.std.proofs.Common.{◌≡◌, ◌-◌}
use Rattle.e820_table.specs.Entries.{far_entry_from, first_far_entry}
use Rattle.e820_table.proofs.entries.first_far_entry.Given as goal

abbrev pub invariant-loop-index : goal.invariant-loop-index
invariant-loop-index l = far_entry_from l.start l.index (l.count - l.index) l.bytes ≡ first_far_entry l.start l.count l.bytes
