-- The lines so far are those of the claims so far.
use Rattle.std.proofs.Common.{◌≡◌, map, take}
use Rattle.boot_inputs.proofs.claims.lines_of_claims.Given as goal

abbrev pub invariant-loop-claim : goal.invariant-loop-claim
invariant-loop-claim l = l.lines.items ≡ map (λ claim. claim.line) (take l.claim-index l.claims)
