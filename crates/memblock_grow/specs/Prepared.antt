-- Which addresses are prepared after a call: those that were prepared before, and those of the
-- frames that tables grew into. A write to a prepared address can't fail, because the store has
-- allocated memory for it.
use Rattle.std.specs.Prelude.{◌≡◌, ℕ, ◌*◌, Bool, false, ◌||◌, List, [], ◌∷◌, ◌++◌, Result, Ok, Err}
use Rattle.bm_base.specs.Range.{RangeView, covers}
use Rattle.phys_store.specs.Bytes.{ExtentView, is_prepared_at}
use Rattle.memblock_model.specs.declared.item.Item.{Item}
use Rattle.memblock_model.specs.declared.item.Item.TheVariants as item
use Rattle.growth_model.specs.declared.refusal.Refusal.{Refusal}
use Rattle.growth_model.specs.declared.refusal.Refusal.TheVariants as refusal
use Rattle.growth_model.specs.Growth.{frames_for_bytes}

-- whether the item moves a table into frames that have the address
abbrev pub moves_table_over : Item → ℕ → Bool
moves_table_over (item.Grown w place room) x = covers (frames_for_bytes place (24 * room)) x
moves_table_over i x = false

-- whether one of the items moves a table into frames that have the address
abbrev pub is_moved_over_by_table : List Item → ℕ → Bool
is_moved_over_by_table [] x = false
is_moved_over_by_table (i ∷ is) x = moves_table_over i x || is_moved_over_by_table is x

-- the journal has grown from `items` to `longer`, and the store has become `t` from `s`. The
-- prepared addresses of `t` are those of `s`, and those of the frames into which the appended items
-- move a table.
pub record Prepares (items longer : List Item) (s t : List ExtentView) : Type 0 where
  pub more : List Item
  pub goes_on : longer ≡ items ++ more
  pub each : (x : ℕ) → is_prepared_at t x ≡ (is_moved_over_by_table more x || is_prepared_at s x)

-- the journal has grown from `items` to `longer`, and the store has become `t` from `s`. The
-- prepared addresses of `t` are those of `s`, those of the frames into which the appended items
-- move a table, and those of the range `place`.
pub record PreparesPlaceToo (place : RangeView) (items longer : List Item) (s t : List ExtentView) : Type 0 where
  pub more : List Item
  pub goes_on : longer ≡ items ++ more
  pub each : (x : ℕ) → is_prepared_at t x ≡ (is_moved_over_by_table more x || (covers place x || is_prepared_at s x))

-- what is prepared after a call that may grow the memory table. The memory that the table moves to
-- is prepared before the first item of the growth is written. After the error `Memory` there may
-- therefore be a prepared range that no item names.
abbrev pub PreparesAsResult : {T : Type 0} → Result T Refusal → List Item → List Item → List ExtentView → List ExtentView → Type 0
PreparesAsResult (Ok x) items longer s t = Prepares items longer s t
PreparesAsResult (Err refusal.NoGap) items longer s t = Prepares items longer s t
PreparesAsResult (Err (refusal.NoGapForTable w room)) items longer s t = Prepares items longer s t
PreparesAsResult (Err refusal.Memory) items longer s t = (place : RangeView) × PreparesPlaceToo place items longer s t
