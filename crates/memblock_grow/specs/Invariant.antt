-- What is true between calls, and what each call keeps: the tables are those that the items
-- define, and lie in claimed memory.
use Rattle.std.specs.Prelude.{◌≡◌, ℕ, ◌+◌, ◌*◌, ◌^◌, ◌<◌, Bool, Some, List, IsTrue}
use Rattle.bm_base.specs.Range.{RangeView}
use Rattle.address_runs.specs.Edits.{IsEmptyFrom}
use Rattle.phys_store.specs.Bytes.{ExtentView, byte_of, is_prepared_at}
use Rattle.memblock_model.specs.declared.owner.Which.{Which}
use Rattle.memblock_model.specs.declared.owner.Which.TheVariants as which
use Rattle.memblock_model.specs.declared.owner.Owner.{Owner}
use Rattle.memblock_model.specs.declared.item.Item.{Item}
use Rattle.memblock_model.specs.Items.{limit_of, upward_of}
use Rattle.memblock_model.specs.Tables.{table_of, room_of, moved_to}
use Rattle.memblock_ranges.specs.Tables.{TablesView}
use Rattle.growth_model.specs.Growth.{round_up_to_frames}
use Rattle.growth_model.specs.Tables.{TablesHaveRoom, TablesAreClaimed, IsKernelImage, HasFirstItem, OverlapsNoTable, MayClaim}
use Rattle.growth_model.specs.Bytes.{table_from_items, byte_with_tables, TablesAreEncoded, Follows}
use Rattle.memblock_grow.specs.declared.places.AllocSettings.{AllocSettings}

-- the settings of allocations, from the limit and the direction of searches
abbrev pub alloc_settings : ℕ → Bool → AllocSettings
alloc_settings limit upward = record { limit = limit; upward = upward }

-- the tables, the limit and the direction of searches are those that the items define; each table
-- has room for its records; and the frames of a table that has moved end below 2^64
pub record TablesMatchItems (kernel : RangeView) (items : List Item) (t : TablesView) (at : AllocSettings) : Type 0 where
  pub memory : t.memory ≡ table_from_items which.Memory kernel items
  pub reserved : t.reserved ≡ table_from_items which.Reserved kernel items
  pub limit : limit_of items ≡ at.limit
  pub upward : upward_of items ≡ at.upward
  pub ends : (w : Which) → IsEmptyFrom (2 ^ 64) (table_of w items)
  pub fits : TablesHaveRoom items
  pub far : (w : Which) (place : ℕ) → moved_to w items ≡ Some place → place + round_up_to_frames (24 * room_of w items) < 2 ^ 64

-- the invariant of a memblock: the tables match the items and are encoded in their bytes. From the
-- first item on they also lie in claimed memory, apart from each other.
pub record IsMemblock (kernel : RangeView) (items : List Item) (t : TablesView) (at : AllocSettings) : Type 0 where
  pub image : IsKernelImage kernel
  pub kept : TablesMatchItems kernel items t at
  pub placed : HasFirstItem items → TablesAreClaimed kernel items
  pub spelled : TablesAreEncoded t.memory t.reserved (byte_of t.store)

-- the items, tables and settings are those of a valid memblock (`IsMemblock`), for some range as
-- the kernel's image
abbrev pub IsMemblockForSomeKernel : List Item → TablesView → AllocSettings → Type 0
IsMemblockForSomeKernel items t at = (kernel : RangeView) × IsMemblock kernel items t at

-- the items, tables and settings are those of a valid memblock, for some range as the kernel's
-- image for which the claim of `range` for `who` is allowed (`MayClaim`)
abbrev pub AllowsClaim : List Item → TablesView → AllocSettings → RangeView → Owner → Type 0
AllowsClaim items t at range who = (kernel : RangeView) × IsMemblock kernel items t at × MayClaim kernel items range who

-- the items, tables and settings are those of a valid memblock, for some range as the kernel's
-- image for which `range` overlaps no table, so it may be freed
abbrev pub AllowsFree : List Item → TablesView → AllocSettings → RangeView → Type 0
AllowsFree items t at range = (kernel : RangeView) × IsMemblock kernel items t at × OverlapsNoTable kernel range items

-- what a call keeps, whichever range is the kernel's image: if the tables matched the items before
-- the call, they match the items after it
abbrev pub KeepsTables : List Item → TablesView → List Item → TablesView → AllocSettings → Type 0
KeepsTables items t longer u at = (kernel : RangeView) → TablesMatchItems kernel items t at → TablesMatchItems kernel longer u at

-- what a call does to bytes, whichever range is the kernel's image: if the tables matched the items
-- before the call and were encoded in the bytes, each byte has changed only as the appended items
-- say (`Follows`)
abbrev pub BytesFollowItems : List Item → TablesView → List Item → TablesView → AllocSettings → Type 0
BytesFollowItems items t longer u at =
    (kernel : RangeView) → TablesMatchItems kernel items t at → TablesAreEncoded t.memory t.reserved (byte_of t.store)
    → Follows kernel items longer (byte_of t.store) (byte_of u.store)

-- both tables are encoded in their bytes, and each byte outside them is unchanged
abbrev pub ChangesOnlyTables : TablesView → TablesView → Type 0
ChangesOnlyTables t u = (x : ℕ) → byte_of u.store x ≡ byte_with_tables u.memory u.reserved x (byte_of t.store x)

-- each address that was prepared for writing in the store `s` is prepared in `t`
abbrev pub StayPrepared : List ExtentView → List ExtentView → Type 0
StayPrepared s t = (x : ℕ) → IsTrue (is_prepared_at s x) → IsTrue (is_prepared_at t x)
