-- Memblock tests for a common address, the definition compares the ends.
use Rattle.std.proofs.Common.{sym}
use Rattle.early_script.proofs.OwnedLaws.{is_over_table-is}
use Rattle.early_script.proofs.steps.is_over_table.Goals as goal

pub returns-clause-value : goal.returns-clause-value
returns-clause-value c = sym
    (is_over_table-is c.args.mb.now.kernel c.args.mb.now.journal.items c.args.range c.touches_table.result c.touches_table.ensures.touches)
