-- Follows from the walk of `clap` over words that follow the grammar of `bootmem61`.
use Rattle.program_args.proofs.MatchedLaws.{accepted_as_given61}
use Rattle.program_args.proofs.reader.spelled_args61_are_read.Goals as goal

pub returns : goal.returns
returns c = accepted_as_given61
