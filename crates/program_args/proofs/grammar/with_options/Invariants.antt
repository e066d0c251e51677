-- The command so far with the remaining options added is the command with all of them.
use Rattle.std.proofs.Common.{◌≡◌, fold, length}
use Rattle.clap.specs.Words.{app_of}
use Rattle.program_args.specs.Grammar.{with_option}
use Rattle.program_args.proofs.grammar.with_options.Given as goal

abbrev pub invariant-loop-rest : goal.invariant-loop-rest
invariant-loop-rest l =
    fold (λ app option. with_option app (option.0.now, option.1)) (app_of l.made) l.rest
    ≡ fold (λ app option. with_option app (option.0.now, option.1)) (app_of l.fn.command) l.options

abbrev pub decreases-loop-rest : goal.decreases-loop-rest
decreases-loop-rest l = length l.rest
