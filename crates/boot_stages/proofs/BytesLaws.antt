-- Each byte is still that of the items and the fills after a call.
use Rattle.std.proofs.Common.{◌≡◌, List, sym, subst}
use Rattle.bm_base.specs.Range.{RangeView}
use Rattle.phys_store.specs.Bytes.{byte_of}
use Rattle.growth_model.specs.Bytes.{Fill, Follows, AreBytesFromHistory}
use Rattle.growth_model.proofs.FillLaws.{holds-call}
use Rattle.memblock_grow.specs.MemblockView.{MemblockView}
use Rattle.memblock_grow.specs.Continues.{ContinuesMemblock}
use Rattle.boot_stages.specs.Boots.{HasBytesOfHistory}

pub holds-on : (fills : List Fill) (old new : MemblockView) → new.kernel ≡ old.kernel
    → Follows old.kernel old.journal.items new.journal.items (byte_of old.tables.store) (byte_of new.tables.store)
    → HasBytesOfHistory fills old → HasBytesOfHistory fills new
holds-on fills old new kernel follows holds =
    let At : RangeView → Type 0 = λ k. AreBytesFromHistory k new.journal.items fills (byte_of new.tables.store) in
    subst At (sym kernel)
    (holds-call old.kernel old.journal.items new.journal.items fills (byte_of old.tables.store) (byte_of new.tables.store) holds follows)

-- the bytes still have the values that the items and the fills give them, in any memblock that
-- continues `old`
pub holds-after : (fills : List Fill) (old new : MemblockView) → ContinuesMemblock old new → HasBytesOfHistory fills old
    → HasBytesOfHistory fills new
holds-after fills old new goes holds = holds-on fills old new goes.kernel goes.bytes holds
