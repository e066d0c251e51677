use Rattle.std.proofs.Common.{◌≡◌}
use Rattle.e820_table.specs.Entries.{first_entries}
use Rattle.e820_table.proofs.extension.read_ext_entries.Given as goal

abbrev pub invariant-loop-index : goal.invariant-loop-index
invariant-loop-index l = l.entries.items ≡ first_entries 16 l.index l.bytes
