-- What contracts see of a journal.
use Rattle.std.specs.Prelude.{ℕ, List}
use Rattle.memblock_model.specs.declared.item.Item.{Item}

-- the journal's items, oldest first, and the number of items that can be appended without
-- allocating
pub record JournalView : Type 0 where
  pub items : List Item
  pub spare : ℕ
