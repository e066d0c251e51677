use Rattle.std.proofs.Common.{◌^◌, subst, sym}
use Rattle.address_runs.specs.Edits.{IsEmptyFrom}
use Rattle.memblock_model.specs.declared.owner.Which.TheVariants as which
use Rattle.memblock_model.specs.Items.{memory_of}
use Rattle.memblock_grow.specs.MemblockView.{MemblockView}
use Rattle.memblock_grow.proofs.GoingLaws.{goes-none}
use Rattle.memblock_grow.proofs.memblock.Memblock.tables.Goals as goal

pub returns-clause-within : goal.returns-clause-within
returns-clause-within c =
    subst (λ (v : MemblockView). IsEmptyFrom (2 ^ 64) (memory_of v.journal.items)) c.self.view_is (c.self.invariant.kept.ends which.Memory)

pub returns-clause-still : goal.returns-clause-still
returns-clause-still c =
    rw (sym c.self.view_is) (goes-none _ c.self.invariant.kept.memory c.self.invariant.kept.reserved c.self.invariant.spelled)
