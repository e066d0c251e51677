use Rattle.std.proofs.Common.{◌≡◌, ◌<◌, None, refl, rules, arith}
use Rattle.e820_table.specs.Entries.{first_far_entry}
use Rattle.e820_table.proofs.EntryLaws.{space_of_none, count_first}
use Rattle.e820_table.proofs.extension.read_ext.Goals as goal

pub returns-in_err-read_ext_entries-clause-some : goal.returns-in_err-read_ext_entries-clause-some
returns-in_err-read_ext_entries-clause-some c =
    let count = c.in_ok-count.count in
    let some : 0 < count = c.in_err-read_ext_entries.ensures.some refl in
    grind (arith, count_first)

pub returns-clause-space : goal.returns-clause-space
returns-clause-space c =
    let count = c.in_ok-count.count in
    let none : first_far_entry 16 count c.args.bytes.now ≡ None = search rules in
    rw c.in_ok-read_ext_entries.ensures.entries (space_of_none 16 count c.args.bytes.now none)
