-- Digits that `parse` refuses aren't a number from 2 to 3000.
use Rattle.std.proofs.Common.{rules}
use Rattle.program_args.proofs.EntryLaws.{not_parsed}
use Rattle.program_args.proofs.entries.entry_count_in.Goals as goal

pub returns-in_default-clause-value : goal.returns-in_default-clause-value
returns-in_default-clause-value c = not_parsed c.args.text.now c.in_default.ensures.value.0 (search rules)
