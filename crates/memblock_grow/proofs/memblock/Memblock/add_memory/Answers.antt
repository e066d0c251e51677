-- Wherever the call ends, the invariant of the memblock holds.
use Rattle.std.proofs.Common.{sym}
use Rattle.growth_model.proofs.SoundLaws.{add-stands}
use Rattle.memblock_grow.proofs.WholeLaws.{whole-on}
use Rattle.memblock_grow.proofs.memblock.Memblock.add_memory.Goals as goal

pub invariant_of-self : goal.invariant_of-self
invariant_of-self c =
    whole-on c.self.invariant c.add_memory.ensures.kept c.add_memory.ensures.bytes
    (add-stands _ _ _ _ c.args.range c.self.invariant.placed (rw (sym c.self.view_is) at c.requires.begun) c.add_memory.ensures.ends)
