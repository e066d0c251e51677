-- What every call of a memblock keeps, and the result of a call that appends one item to the
-- journal.
use Rattle.std.specs.Prelude.{◌≡◌, ◌-◌, [], ◌∷◌, ◌++◌, Result, Ok, Err}
use Rattle.phys_store.specs.Bytes.{byte_of}
use Rattle.memblock_model.specs.declared.item.Item.{Item}
use Rattle.growth_model.specs.Bytes.{Follows}
use Rattle.memblock_grow.specs.MemblockView.{MemblockView}
use Rattle.memblock_grow.specs.Invariant.{StayPrepared}

-- what a call keeps: `old` is the memblock before it, `new` after it. The kernel's image hasn't
-- moved, each byte has changed only as the items that were appended to the journal say, and each
-- address that the store had prepared for writing is still prepared.
pub record ContinuesMemblock (old new : MemblockView) : Type 0 where
  pub kernel : new.kernel ≡ old.kernel
  pub bytes : Follows old.kernel old.journal.items new.journal.items (byte_of old.tables.store) (byte_of new.tables.store)
  pub ready : StayPrepared old.tables.store new.tables.store

-- the result of a call that appends one item to the journal. After Ok, the item is the last of the
-- journal, which has room for one item fewer. After an error, the journal had no room, this program
-- is out of memory, and nothing changed.
abbrev pub AppendsItem : {T E : Type 0} → Result T E → Item → MemblockView → MemblockView → Type 0
AppendsItem (Ok x) i old new = (new.journal.items ≡ old.journal.items ++ i ∷ []) × (new.journal.spare ≡ old.journal.spare - 1)
AppendsItem (Err e) i old new = (new ≡ old) × (old.journal.spare ≡ 0)
