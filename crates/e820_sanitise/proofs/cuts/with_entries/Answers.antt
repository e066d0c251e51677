use Rattle.std.proofs.Common.{◌≡◌, ap, ◌∙◌, ◌++◌, arith}
use Rattle.std.specs.List.{flat_map}
use Rattle.std.proofs.lemmas.Grind.{common_steps}
use Rattle.e820_model.specs.Map.{claims_of}
use Rattle.e820_sanitise.specs.Cuts.{claim_of_entry}
use Rattle.e820_sanitise.proofs.CutLaws.{entries_same}
use Rattle.e820_sanitise.proofs.cuts.with_entries.Goals as goal

pub returns-clause-same : goal.returns-clause-same
returns-clause-same c =
    let whole : c.loop-entry.all.items ≡ c.args.claims.now ++ flat_map claim_of_entry c.args.entries.now =
    grind (arith, common_steps) in
    ap claims_of whole ∙ entries_same c.args.claims.now c.args.entries.now
