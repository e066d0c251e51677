-- Worked examples of small journals.
use Rattle.std.proofs.Common.{◌≡◌, ℕ, true, false, Option, Some, None, List, [], ◌∷◌, refl, sym, ap, arith}
use Rattle.std.proofs.lemmas.Bool.{true≢false}
use Rattle.std.specs.Option.{option_map_or}
use Rattle.bm_base.specs.Range.{RangeView}
use Rattle.memblock_model.specs.declared.item.Item.{Item}
use Rattle.memblock_model.specs.declared.item.Item.TheVariants as item
use Rattle.bm_base.specs.Each.{each_from, each_in}
use Rattle.memblock_model.specs.Labels.{LabelView, plain_label, with_node, with_mirror}
use Rattle.memblock_model.specs.Items.{trim_frames}
use Rattle.boot_journal.specs.Mirrors.{has_mirrors_after, has_mirrors}
use Rattle.boot_journal.specs.Bytes.{marks_after_items, marks_after_trim, EdgeDiffers, ItemAgrees}

abbrev bytes : ℕ → ℕ → RangeView
bytes base size = record { base = base; size = size }

abbrev of_node : ℕ → LabelView
of_node node = with_node (Some node) plain_label

-- frame 1 becomes memory, and half of it gets node 3
abbrev half : List Item
half = item.Mem (bytes 4096 4096) ∷ (item.Node (bytes 4096 2048) 3 ∷ [])

from_examples : (marks_after_items None half 4096 ≡ Some (of_node 3)) × (marks_after_items None half 6144 ≡ Some plain_label)
    × (marks_after_items None half 0 ≡ None)
from_examples = (refl, refl, refl)

-- a trim removes a frame of which only half has a node, and keeps one that is all memory without a
-- node
kept_examples : (marks_after_trim None half 4096 ≡ None) × (marks_after_trim None (item.Mem (bytes 4096 4096) ∷ []) 5000 ≡ Some plain_label)
unfolding marks_after_trim trim_frames each_in each_from
kept_examples = (refl, refl)

plain_is_another : Some plain_label ≡ Some (of_node 3) → ⊥
plain_is_another same = cc (ap (λ (l : Option LabelView). option_map_or (λ (m : LabelView). m.node) l None) same)

-- the byte in the middle of the frame is at an end of a range, and has other marks than the first
middle_differs : EdgeDiffers None half 4096 6144
middle_differs = record { after = omega arith; inside = omega arith; other = plain_is_another }

middle_is_an_edge : ItemAgrees None half 4096 (item.Node (bytes 4096 2048) 3) → ⊥
middle_is_an_edge agree = plain_is_another (agree.1 (omega arith) (omega arith))

-- the label of mirrored memory differs from that of other memory
mirror_is_another : Some plain_label ≡ Some (with_mirror plain_label) → ⊥
mirror_is_another same = true≢false (sym (ap (λ (l : Option LabelView). option_map_or (λ (m : LabelView). m.mirror) l false) same))

mirror_is_an_edge : ItemAgrees None (item.Mem (bytes 4096 4096) ∷ (item.Mirror (bytes 6144 2048) ∷ [])) 4096
    (item.Mirror (bytes 6144 2048)) → ⊥
mirror_is_an_edge agree = mirror_is_another (sym (agree.0 (omega arith) (omega arith)))

-- a Mirror item counts even if its range contains no memory; without such an item nothing is
-- mirrored
mirrors_examples : (has_mirrors half ≡ false) × (has_mirrors (item.Mirror (bytes 4096 4096) ∷ (item.Trim ∷ [])) ≡ true)
    × (has_mirrors_after false (item.Mirror (bytes 4096 4096)) ≡ true) × (has_mirrors_after true item.Trim ≡ true)
mirrors_examples = (refl, refl, refl, refl)
