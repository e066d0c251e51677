-- `bootmem` reads a part of what its words ask for. Its command is the defined one.
use Rattle.std.proofs.Common.{◌∙◌, [], ap, subst}
use Rattle.clap.specs.Words.{App, is_simple, is_simple_and_free}
use Rattle.bm_base.specs.Answers.{Answers}
use Rattle.program_args.specs.Answers.{or_refused}
use Rattle.program_args.specs.Args.{args_of, bootmem61_args, bootmem_args, bytes_of_words, read_args}
use Rattle.program_args.specs.Grammar.{bootmem_command}
use Rattle.program_args.specs.View.{program_args_view}
use Rattle.program_args.specs.declared.reader.ArgsError.TheVariants as errors
use Rattle.program_args.proofs.GrammarLaws.{simple, simple_and_free}
use Rattle.program_args.proofs.ProgramLaws.{answers_read, read_of_words}
use Rattle.program_args.proofs.reader.read_args.Goals as goal

pub args_of-requires-clause-simple : goal.args_of-requires-clause-simple
args_of-requires-clause-simple c = ap is_simple c.in_ok-command.ensures ∙ simple

pub args_of-requires-clause-free : goal.args_of-requires-clause-free
args_of-requires-clause-free c = ap is_simple_and_free c.in_ok-command.ensures ∙ simple_and_free

pub returns : goal.returns
returns c =
    let words = bytes_of_words c.args.words.now in
    let answers = subst (λ (app : App). Answers errors.Memory program_args_view c.args_of.result
    (or_refused (args_of bootmem61_args app [] words)))
    c.in_ok-command.ensures c.args_of.ensures in
    answers_read program_args_view bootmem_args c.args_of.result (args_of bootmem61_args bootmem_command [] words) (read_args words)
    (read_of_words bootmem_args bootmem_command [] words) answers
