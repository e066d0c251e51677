-- The command is the defined one, and so is what its words ask for.
use Rattle.std.proofs.Common.{◌∙◌, ap, subst}
use Rattle.clap.specs.Words.{App, is_simple, is_simple_and_free}
use Rattle.bm_base.specs.Answers.{Answers}
use Rattle.program_args.specs.Answers.{or_refused}
use Rattle.program_args.specs.Args.{args_of, bootmem61_args, bytes_of_words}
use Rattle.program_args.specs.ReportNames.{reports_of_bootmem61}
use Rattle.program_args.specs.View.{program_args_view}
use Rattle.program_args.specs.declared.reader.ArgsError.TheVariants as errors
use Rattle.program_args.proofs.GrammarLaws.{simple61, simple_and_free61}
use Rattle.program_args.proofs.reader.read_args61.Goals as goal

pub args_of-requires-clause-simple : goal.args_of-requires-clause-simple
args_of-requires-clause-simple c = ap is_simple c.in_ok-command.ensures ∙ simple61

pub args_of-requires-clause-free : goal.args_of-requires-clause-free
args_of-requires-clause-free c = ap is_simple_and_free c.in_ok-command.ensures ∙ simple_and_free61

pub returns : goal.returns
returns c =
    let words = bytes_of_words c.args.words.now in
    subst (λ (app : App). Answers errors.Memory program_args_view c.args_of.result
    (or_refused (args_of bootmem61_args app reports_of_bootmem61 words))) c.in_ok-command.ensures c.args_of.ensures
