use Rattle.std.proofs.Common.{◌≡◌, drop, ◌++◌}
use Rattle.e820_sanitise.specs.Cuts.{cut_out}
use Rattle.e820_sanitise.proofs.cuts.cut_each_claim.Given as goal

abbrev pub invariant-loop-claim : goal.invariant-loop-claim
invariant-loop-claim l = l.left.items ++ cut_out l.range l.meant l.instead (drop l.claim-index l.claims)
    ≡ cut_out l.range l.meant l.instead l.claims
