-- Wherever the call ends, the invariant of the memblock holds.
use Rattle.std.proofs.Common.{sym}
use Rattle.growth_model.proofs.SoundLaws.{node-stands}
use Rattle.memblock_grow.proofs.WholeLaws.{whole-on}
use Rattle.memblock_grow.proofs.memblock.Memblock.set_node.Goals as goal

pub invariant_of-self : goal.invariant_of-self
invariant_of-self c =
    whole-on c.self.invariant c.set_node.ensures.kept c.set_node.ensures.bytes
    (node-stands _ _ _ _ c.args.range c.args.node c.self.invariant.placed (rw (sym c.self.view_is) at c.requires.begun)
    c.set_node.ensures.ends)
