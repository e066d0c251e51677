-- Each call builds the part of the command that the definition adds in the same step.
use Rattle.std.proofs.Common.{◌≡◌, ◌∙◌, ap, codes, fold}
use Rattle.std.proofs.lemmas.Result.{IfOk-weaker}
use Rattle.clap.specs.Words.{app_of}
use Rattle.program_args.specs.Grammar.{bare_app, options, bootmem_command, with_option, with_positional}
use Rattle.program_args.proofs.grammar.bootmem_command.Goals as goal

pub returns : goal.returns
unfolding bootmem_command
returns c =
    let bare_is = ap (λ app. fold with_option app options) c.bare_app.ensures in
    let base : app_of c.in_ok-command.command ≡ fold with_option (bare_app (codes "bootmem")) options = c.in_ok-command.ensures ∙ bare_is in
    IfOk-weaker c.with_positional.result _ _ (λ made is. is ∙ ap (λ app. with_positional app (codes "ZEROPAGE")) base)
    c.with_positional.ensures
