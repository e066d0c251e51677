-- Follows from the walk of `clap` over words that follow the grammar.
use Rattle.program_args.proofs.MatchedLaws.{accepted_as_given}
use Rattle.program_args.proofs.reader.spelled_args_are_read.Goals as goal

pub returns : goal.returns
returns c = accepted_as_given
