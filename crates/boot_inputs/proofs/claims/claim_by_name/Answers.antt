-- A line of a script whose name isn't `sections`.
use Rattle.std.proofs.Common.{rules}
use Rattle.text_words.specs.Words.{words_in}
use Rattle.text_words.specs.declared.separators.Separators.TheVariants as separators
use Rattle.boot_inputs.proofs.ClaimsLaws.{act_runs, bounds_of_act}
use Rattle.boot_inputs.proofs.claims.claim_by_name.Goals as goal

pub returns-clause-bounds : goal.returns-clause-bounds
returns-clause-bounds c = bounds_of_act c.by_name.result c.by_name.ensures.limits

pub returns-clause-run : goal.returns-clause-run
returns-clause-run c =
    act_runs c.args.name.now (words_in separators.Script c.args.rest.now) c.by_name.result (search rules) c.by_name.ensures.value
