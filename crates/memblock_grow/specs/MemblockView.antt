-- What contracts see of a memblock.
use Rattle.bm_base.specs.Range.{RangeView}
use Rattle.boot_journal.specs.JournalView.{JournalView}
use Rattle.memblock_ranges.specs.Tables.{TablesView}

-- the range of the kernel's image, the journal of what happened to memory, and both tables with
-- the bytes in which they lie
pub record MemblockView : Type 0 where
  pub kernel : RangeView
  pub journal : JournalView
  pub tables : TablesView
