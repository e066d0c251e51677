use Rattle.std.proofs.Common.{◌≡◌, ◌-◌, ◌<◌, [], ◌∷◌, ◌++◌, arith}
use Rattle.std.proofs.lemmas.Grind.{common_steps}
use Rattle.address_runs.specs.Runs.{RunOf}
use Rattle.e820_model.specs.Map.{AreValidClaims}
use Rattle.e820_model.proofs.ClaimLaws.{are_append}
use Rattle.e820_sanitise.proofs.cuts.push_between.Goals as goal

pub returns-in_ok-push-clause-claims : goal.returns-in_ok-push-clause-claims
returns-in_ok-push-clause-claims c = λ some claims.
    let run : RunOf _ = record { base = c.args.from; size = c.args.until - c.args.from; value = c.args.kind } in
    let order : c.args.from < c.args.until = grind (arith, common_steps) in
    let grown : c.push.new.self.items ≡ c.args.claims.now.items ++ run ∷ [] = grind (arith, common_steps) in
    let one : AreValidClaims (run ∷ []) = (omega arith, omega arith, some, omega arith, tt) in
    rw grown (are_append c.args.claims.now.items (run ∷ []) claims one)
