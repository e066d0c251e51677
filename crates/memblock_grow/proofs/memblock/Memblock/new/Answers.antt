-- Both tables are empty, and all bytes are 0.
use Rattle.std.proofs.Common.{sym, ◌∙◌, ap}
use Rattle.boot_journal.specs.JournalView.{JournalView}
use Rattle.memblock_grow.proofs.MemblockLaws.{whole-new, bytes-new}
use Rattle.memblock_grow.proofs.memblock.Memblock.new.Goals as goal

pub invariant_of-result : goal.invariant_of-result
invariant_of-result c =
    whole-new c.args.kernel c.new-journal.result.items c.in_ok-tables.tables c.requires (ap (λ (j : JournalView). j.items)
    c.new-journal.ensures)
    c.in_ok-tables.ensures.memory c.in_ok-tables.ensures.reserved c.in_ok-tables.ensures.bytes

pub returns-clause-bytes : goal.returns-clause-bytes
returns-clause-bytes c = λ x. c.in_ok-tables.ensures.bytes x ∙ sym (bytes-new c.args.kernel x)
