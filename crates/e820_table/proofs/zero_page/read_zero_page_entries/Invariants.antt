use Rattle.std.proofs.Common.{◌≡◌, length}
use Rattle.e820_table.specs.Entries.{first_entries}
use Rattle.e820_table.proofs.zero_page.read_zero_page_entries.Given as goal

abbrev pub invariant-loop-index : goal.invariant-loop-index
invariant-loop-index l = record {
  read : l.entries.items ≡ first_entries 0x2D0 l.index l.bytes;
  count : length l.entries.items ≡ l.index;
}
