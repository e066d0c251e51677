-- The marks of one byte of memory (its node and its mirror flag), followed through items other than
-- trims.
use Rattle.std.specs.Prelude.{◌≡◌, ◌≢◌, ◌<◌, ◌+◌, ℕ, [], ◌∷◌, Bool, true, false, Option, List, fold}
use Rattle.bm_base.specs.Range.{end_of}
use Rattle.bm_base.specs.declared.range.TheConstants.{FRAME_SIZE}
use Rattle.memblock_model.specs.declared.item.Item.{Item}
use Rattle.memblock_model.specs.declared.item.Item.TheVariants as item
use Rattle.memblock_model.specs.Labels.{LabelView}
use Rattle.memblock_model.specs.Items.{memory_after, trim_frames}

abbrev pub is_trim : Item → Bool
is_trim item.Trim = true
is_trim i = false

-- the marks of the byte at address `x` after the item; after a trim they are unchanged, since this
-- definition leaves trims to `marks_after_trim`
abbrev pub marks_after : ℕ → Option LabelView → Item → Option LabelView
marks_after x carried item.Trim = carried
marks_after x carried i = memory_after (λ y. carried) i x

-- the marks of the byte after these items; before them it had the marks `whole`
abbrev pub marks_after_items : Option LabelView → List Item → ℕ → Option LabelView
marks_after_items whole items x = fold (marks_after x) whole items

-- the marks of the byte after these items and a trim; before them all bytes of its frame had the
-- marks `whole`
unfoldable pub marks_after_trim : Option LabelView → List Item → ℕ → Option LabelView
marks_after_trim whole items x = trim_frames (marks_after_items whole items) x

-- if address `e` is inside the frame at `first`, its byte has the same marks as the frame's first
-- byte
abbrev pub EdgeAgrees : Option LabelView → List Item → ℕ → ℕ → Type 0
EdgeAgrees whole items first e = first < e → e < first + FRAME_SIZE → marks_after_items whole items e ≡ marks_after_items whole items first

-- the address is inside the frame, and its byte has other marks than the frame's first byte
pub record EdgeDiffers (whole : Option LabelView) (items : List Item) (first e : ℕ) : Type 0 where
  pub after : first < e
  pub inside : e < first + FRAME_SIZE
  pub other : marks_after_items whole items e ≢ marks_after_items whole items first

-- at both ends of the item's range, the byte has the same marks as the frame's first byte, if the
-- end is inside the frame
abbrev pub ItemAgrees : Option LabelView → List Item → ℕ → Item → Type 0
ItemAgrees whole items first (item.Mem range) = EdgeAgrees whole items first range.base × EdgeAgrees whole items first (end_of range)
ItemAgrees whole items first (item.Node range node) = EdgeAgrees whole items first range.base × EdgeAgrees whole items first (end_of range)
ItemAgrees whole items first (item.Mirror range) = EdgeAgrees whole items first range.base × EdgeAgrees whole items first (end_of range)
ItemAgrees whole items first i = Unit {0}

-- for each item of the last list: at both ends of its range, the byte has the same marks as the
-- frame's first byte, if the end is inside the frame
abbrev pub ItemsAgree : Option LabelView → List Item → ℕ → List Item → Type 0
ItemsAgree whole items first [] = Unit {0}
ItemsAgree whole items first (i ∷ is) = ItemAgrees whole items first i × ItemsAgree whole items first is
