use Rattle.std.proofs.Common.{◌≡◌, None, rules}
use Rattle.e820_table.specs.Entries.{first_far_entry}
use Rattle.e820_table.proofs.EntryLaws.{space_of_none}
use Rattle.e820_table.proofs.zero_page.read_zero_page.Goals as goal

pub returns-clause-space : goal.returns-clause-space
returns-clause-space c =
    let none : first_far_entry 0x2D0 c.from-count.result c.args.bytes.now ≡ None = search rules in
    rw c.read_zero_page_entries.ensures (space_of_none 0x2D0 c.from-count.result c.args.bytes.now none)
