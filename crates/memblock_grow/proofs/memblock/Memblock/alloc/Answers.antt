-- Wherever the allocation ends, the invariant of the memblock holds.
use Rattle.std.proofs.Common.{refl, sym}
use Rattle.growth_model.proofs.SoundLaws.{alloc-stands}
use Rattle.memblock_grow.proofs.WholeLaws.{whole-on}
use Rattle.memblock_grow.proofs.memblock.Memblock.alloc.Goals as goal

pub invariant_of-self : goal.invariant_of-self
invariant_of-self c =
    whole-on c.self.invariant c.allocate.ensures.kept c.allocate.ensures.bytes
    (alloc-stands _ _ _ _ c.args.request.now c.args.owner c.self.invariant.placed (rw (sym c.self.view_is) at c.requires.begun) _ refl
    c.allocate.ensures.ends)
