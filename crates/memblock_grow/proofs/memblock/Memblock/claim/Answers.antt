-- Wherever the claim ends, the invariant of the memblock holds.
use Rattle.std.proofs.Common.{sym, arith}
use Rattle.growth_model.proofs.SoundLaws.{claim-stands}
use Rattle.memblock_grow.proofs.GoingLaws.{claim-away}
use Rattle.memblock_grow.proofs.WholeLaws.{whole-on}
use Rattle.memblock_grow.proofs.memblock.Memblock.claim.Goals as goal

pub invariant_of-self : goal.invariant_of-self
invariant_of-self c =
    whole-on c.self.invariant c.claim.ensures.kept c.claim.ensures.bytes
    (claim-stands _ _ _ _ c.args.range c.args.owner c.self.invariant.image (omega arith) c.self.invariant.placed
    (rw (sym c.self.view_is) at c.requires.may) c.claim.ensures.ends)

pub returns-clause-away : goal.returns-clause-away
returns-clause-away c =
    rw (sym c.self.view_is) (λ begun away. claim-away c.claim.result _ c.args.range _ _ c.args.owner (c.self.invariant.placed begun) away
    c.claim.ensures.ends)
