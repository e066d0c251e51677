use Rattle.std.proofs.Common.{◌≡◌, ◌+◌, ◌*◌, ◌-◌, ◌<◌, ◌≤◌, ◌++◌, [], length}
use Rattle.e820_model.specs.Claims.{EntriesFit}
use Rattle.e820_table.specs.Made.{generated_entries_from, generated_entries}
use Rattle.e820_table.proofs.generator.made.Given as goal

abbrev pub invariant-loop-index : goal.invariant-loop-index
invariant-loop-index l = record {
  entries : (l.page.items ++ l.ext.items) ++ generated_entries_from (l.n - l.index) l.index l.base l.number ≡ generated_entries l.n;
  fits : length l.page.items ≤ 128;
  so_many : length l.page.items ≤ l.index;
  alone : length l.page.items < 128 → l.ext.items ≡ [];
  low : l.base ≤ 0x8100000 + 65536 * l.index;
  page_space : EntriesFit l.page.items;
  extension_space : EntriesFit l.ext.items;
}
