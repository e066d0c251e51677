use Rattle.memblock_ranges.proofs.CountLaws.{length-covered, length-uncovered, length-relabelled, length-trimmed}
use Rattle.memblock_ranges.proofs.laws.edits_add_few_records.Goals as goal

pub returns-clause-covered : goal.returns-clause-covered
returns-clause-covered c = length-covered

pub returns-clause-uncovered : goal.returns-clause-uncovered
returns-clause-uncovered c = length-uncovered

pub returns-clause-relabelled : goal.returns-clause-relabelled
returns-clause-relabelled c = length-relabelled

pub returns-clause-trimmed : goal.returns-clause-trimmed
returns-clause-trimmed c = length-trimmed
