use Rattle.memblock_ranges.proofs.StepLaws.{edited-items, untouched-items, items-within}
use Rattle.memblock_ranges.proofs.laws.edited_tables_match_items.Goals as goal

pub returns-clause-edited : goal.returns-clause-edited
returns-clause-edited c = edited-items

pub returns-clause-untouched : goal.returns-clause-untouched
returns-clause-untouched c = untouched-items

pub returns-clause-within : goal.returns-clause-within
returns-clause-within c = items-within
