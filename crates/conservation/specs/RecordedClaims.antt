-- The claims that are in force at the end, as the journal records them (`memblock_reserve`,
-- `memblock_phys_free`).
use Rattle.std.specs.Prelude.{◌≡◌, ℕ, Bool, true, false, Some, None, List, ◌∷◌, ◌++◌}
use Rattle.std.specs.List.{list_any}
use Rattle.bm_base.specs.Range.{RangeView, covers}
use Rattle.bm_base.specs.Frames.{bytes_of_frame}
use Rattle.memblock_model.specs.Items.{owner_of}
use Rattle.memblock_model.specs.declared.owner.Owner.{Owner}
use Rattle.memblock_model.specs.declared.item.Item.{Item}
use Rattle.memblock_model.specs.declared.item.Item.TheVariants as item

-- whether the item decides who owns the byte: it claims or frees a range that has the byte
abbrev pub decides_owner : Item → ℕ → Bool
decides_owner (item.Claim range who) x = covers range x
decides_owner (item.Free range) x = covers range x
decides_owner i x = false

-- the journal claims the byte for the owner, and no later item claims the byte again or frees it
pub record IsRecorded (items : List Item) (x : ℕ) (who : Owner) : Type 0 where
  pub before : List Item
  pub range : RangeView
  pub after : List Item
  pub recorded : items ≡ before ++ (item.Claim range who ∷ after)
  pub covered : covers range x ≡ true
  pub stands : list_any (λ i. decides_owner i x) after ≡ false

-- a claim touches the frame: some byte of it has an owner, and the journal has the claim for that
-- owner
pub record IsTouched (items : List Item) (frame : ℕ) : Type 0 where
  pub byte : ℕ
  pub owner : Owner
  pub inside : covers (bytes_of_frame frame) byte ≡ true
  pub owned : owner_of items byte ≡ Some owner
  pub recorded : IsRecorded items byte owner

-- no claim touches the frame: none of its bytes has an owner
abbrev pub IsUntouched : List Item → ℕ → Type 0
IsUntouched items frame = (x : ℕ) → covers (bytes_of_frame frame) x ≡ true → owner_of items x ≡ None
