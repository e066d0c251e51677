-- Each step is that of the definition, and follows the one before it.
use Rattle.std.proofs.Common.{◌≡◌, ◌∙◌, ap, codes, fold}
use Rattle.std.proofs.lemmas.Result.{IfOk-weaker}
use Rattle.clap.specs.Words.{app_of}
use Rattle.clap.specs.declared.builder.action.ArgAction.TheVariants.{Set}
use Rattle.program_args.specs.Grammar.{bare_app, options, bootmem61_command, with_option, with_positional}
use Rattle.program_args.proofs.grammar.bootmem61_command.Goals as goal

pub returns : goal.returns
unfolding bootmem61_command
returns c =
    let bare_is = ap (λ app. fold with_option app options) c.bare_app.ensures in
    let base : app_of c.in_ok-command.command ≡ fold with_option (bare_app (codes "bootmem61")) options = c.in_ok-command.ensures
    ∙ bare_is in
    let claims : app_of c.in_ok-with_claims.with_claims
    ≡ with_option (fold with_option (bare_app (codes "bootmem61")) options) (codes "claims", Set) =
    c.in_ok-with_claims.ensures ∙ ap (λ app. with_option app (codes "claims", Set)) base in
    IfOk-weaker c.with_positional.result _ _ (λ made is. is ∙ ap (λ app. with_positional app (codes "ZEROPAGE")) claims)
    c.with_positional.ensures
