-- Wherever the free ends, the invariant of the memblock holds.
use Rattle.std.proofs.Common.{sym}
use Rattle.growth_model.proofs.SoundLaws.{free-stands}
use Rattle.memblock_grow.proofs.WholeLaws.{whole-on}
use Rattle.memblock_grow.proofs.memblock.Memblock.free.Goals as goal

pub invariant_of-self : goal.invariant_of-self
invariant_of-self c =
    whole-on c.self.invariant c.free.ensures.kept c.free.ensures.bytes
    (free-stands _ _ _ _ c.args.range c.self.invariant.placed (rw (sym c.self.view_is) at c.requires.begun)
    (rw (sym c.self.view_is) at c.requires.away) c.free.ensures.ends)
