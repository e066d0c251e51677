-- What is true of the items of a boot after each call. Both tables lie in claimed memory, and no
-- allocation of the early script has a byte of them. They share no frame. Each table has room for
-- its records.
use Rattle.std.specs.Prelude.{◌≡◌, ◌≢◌, ◌⊎◌, ℕ, ◌*◌, ◌/◌, ◌%◌, ◌≤◌, Bool, true, false, Option, Some, None, List, [], ◌∷◌}
use Rattle.bm_base.specs.Range.{RangeView, end_of, covers}
use Rattle.bm_base.specs.declared.range.TheConstants.{FRAME_SIZE}
use Rattle.memblock_model.specs.declared.owner.Which.{Which}
use Rattle.memblock_model.specs.declared.owner.Which.TheVariants as which
use Rattle.memblock_model.specs.declared.owner.Owner.{Owner}
use Rattle.memblock_model.specs.declared.owner.Owner.TheVariants as owner
use Rattle.memblock_model.specs.declared.item.Item.{Item}
use Rattle.memblock_model.specs.declared.item.Item.TheVariants as item
use Rattle.memblock_model.specs.Items.{Owners, owner_of}
use Rattle.memblock_model.specs.Tables.{room_of, table_bytes}
use Rattle.growth_model.specs.Growth.{record_count}

-- whether a table may lie in memory of this owner: not in unclaimed memory (None), and not in an
-- allocation of the early script
abbrev pub may_hold_table : Option Owner → Bool
may_hold_table None = false
may_hold_table (Some (owner.Script id)) = false
may_hold_table (Some o) = true

-- the range may be the place of a table: it begins at a frame boundary, and each of its bytes has
-- an owner in whose memory a table may lie
pub record IsTablePlace (own : Owners) (a : RangeView) : Type 0 where
  pub aligned : a.base % FRAME_SIZE ≡ 0
  pub kept : (x : ℕ) → covers a x ≡ true → may_hold_table (own x) ≡ true

-- no frame has bytes of both ranges
abbrev pub ShareNoFrame : RangeView → RangeView → Type 0
ShareNoFrame a b = (x y : ℕ) → covers a x ≡ true → covers b y ≡ true → x / FRAME_SIZE ≢ y / FRAME_SIZE

-- no byte is in both ranges
abbrev pub AreDisjoint : RangeView → RangeView → Type 0
AreDisjoint a b = (x : ℕ) → covers a x ≡ true → covers b x ≡ true → ⊥

-- no byte of the range has an owner
abbrev pub IsUnclaimed : Owners → RangeView → Type 0
IsUnclaimed own a = (x : ℕ) → covers a x ≡ true → own x ≡ None

-- both tables lie where a table may lie, and they share no frame
pub record AreTablePlaces (own : Owners) (memory reserved : RangeView) : Type 0 where
  pub first : IsTablePlace own memory
  pub second : IsTablePlace own reserved
  pub apart : ShareNoFrame memory reserved

-- the first item claims the kernel's image, and both tables lie in claimed memory, apart from each
-- other
pub record TablesAreClaimed (kernel : RangeView) (items : List Item) : Type 0 where
  pub rest : List Item
  pub first : items ≡ item.Claim kernel owner.Kernel ∷ rest
  pub seats : AreTablePlaces (owner_of items) (table_bytes which.Memory kernel items) (table_bytes which.Reserved kernel items)

-- each table has room for its records
abbrev pub TablesHaveRoom : List Item → Type 0
TablesHaveRoom items = (w : Which) → record_count w items ≤ room_of w items

-- both tables lie in claimed memory, apart from each other, and have room for their records
pub record TablesAreSound (kernel : RangeView) (items : List Item) : Type 0 where
  pub placed : TablesAreClaimed kernel items
  pub fits : TablesHaveRoom items

-- the range can be the kernel's image, which has the first places of both tables: it ends at a
-- frame boundary, and is at least two frames long
pub record IsKernelImage (kernel : RangeView) : Type 0 where
  pub whole : end_of kernel % FRAME_SIZE ≡ 0
  pub large : 2 * FRAME_SIZE ≤ kernel.size

-- at least one item has been written; the first is always the claim of the kernel's image
abbrev pub HasFirstItem : List Item → Type 0
HasFirstItem [] = ⊥
HasFirstItem (i ∷ is) = Unit {0}

-- the range overlaps neither table
abbrev pub OverlapsNoTable : RangeView → RangeView → List Item → Type 0
OverlapsNoTable kernel range items =
    AreDisjoint range (table_bytes which.Memory kernel items) × AreDisjoint range (table_bytes which.Reserved kernel items)

-- what may be claimed. The first claim must be that of the kernel's image, for the kernel. After
-- it any range may be claimed, but a range for the script must overlap no table.
abbrev pub MayClaim : RangeView → List Item → RangeView → Owner → Type 0
MayClaim kernel [] range who = (range ≡ kernel) × (who ≡ owner.Kernel)
MayClaim kernel (i ∷ is) range who = (may_hold_table (Some who) ≡ true) ⊎ OverlapsNoTable kernel range (i ∷ is)
