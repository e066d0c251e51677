-- What an item at the end of the list changes, as equations between functions.
use Rattle.std.proofs.Common.{◌≡◌, ℕ, Bool, true, false, if◌then◌else◌, Option, Some, None, List, [], ◌∷◌, ◌++◌, refl, ◌∙◌, ap}
use Rattle.std.proofs.lemmas.List.Sums.{fold-append}
use Rattle.std.specs.List.{fold}
use Rattle.std.specs.Prelude.{unwrap_or}
use Rattle.std.specs.Option.{option_map}
use Rattle.bm_base.specs.Range.{RangeView, covers}
use Rattle.memblock_model.specs.declared.owner.Owner.{Owner}
use Rattle.memblock_model.specs.declared.owner.Which.{Which}
use Rattle.memblock_model.specs.declared.owner.Which.TheVariants as which
use Rattle.memblock_model.specs.declared.item.Item.{Item}
use Rattle.memblock_model.specs.declared.item.Item.TheVariants as item
use Rattle.address_runs.specs.Edits.{cover_range, uncover_range, relabel_range, replace_in_range}
use Rattle.memblock_model.specs.Labels.{LabelView, Labels, plain_label, with_node, with_mirror}
use Rattle.memblock_model.specs.Items.{ItemHasBytes, ItemsHaveBytes, Owners, owners_after, no_owners, owner_of, memory_after, no_memory, memory_of, limit_after, limit_of, upward_after, upward_of}
use Rattle.memblock_model.specs.Tables.{without_owner, reserved_labels, reserved_after, table_of, table_after, room_after, room_of, moved_after, moved_to}
use Rattle.memblock_model.proofs.LabelLaws.{IsInFrame, frame_join, frame_back, trim_frames-local}

pub owner_of-push : (items : List Item) (i : Item) → owner_of (items ++ i ∷ []) ≡ owners_after (owner_of items) i
owner_of-push items i = fold-append owners_after no_owners items (i ∷ [])

pub memory_of-push : (items : List Item) (i : Item) → memory_of (items ++ i ∷ []) ≡ memory_after (memory_of items) i
memory_of-push items i = fold-append memory_after no_memory items (i ∷ [])

pub limit_of-push : (items : List Item) (i : Item) → limit_of (items ++ i ∷ []) ≡ limit_after (limit_of items) i
limit_of-push items i = fold-append limit_after 0 items (i ∷ [])

pub upward_of-push : (items : List Item) (i : Item) → upward_of (items ++ i ∷ []) ≡ upward_after (upward_of items) i
upward_of-push items i = fold-append upward_after false items (i ∷ [])

pub room_of-push : (w : Which) (items : List Item) (i : Item) → room_of w (items ++ i ∷ []) ≡ room_after w (room_of w items) i
room_of-push w items i = fold-append (room_after w) 128 items (i ∷ [])

pub moved_to-push : (w : Which) (items : List Item) (i : Item) → moved_to w (items ++ i ∷ []) ≡ moved_after w (moved_to w items) i
moved_to-push w items i = fold-append (moved_after w) None items (i ∷ [])

-- after a claim the reserved table covers the range, whoever owned its bytes before
claim_at : (b : Bool) (o : Owner) (old : Option Owner)
    → without_owner (if b then Some o else old) ≡ (if b then Some (unwrap_or (without_owner old) plain_label) else without_owner old)
claim_at true o None = refl
claim_at true o (Some p) = refl
claim_at false o old = refl

free_at : (b : Bool) (old : Option Owner) → without_owner (if b then None else old) ≡ (if b then None else without_owner old)
free_at true old = refl
free_at false old = refl

pub reserved_labels-replaced : (r : RangeView) (o : Owner) (f : Owners)
    → reserved_labels (replace_in_range r o f) ≡ cover_range r plain_label (reserved_labels f)
reserved_labels-replaced r o f = λ k x. claim_at (covers r x) o (f x) k

pub reserved_labels-uncovered : (r : RangeView) (f : Owners) → reserved_labels (uncover_range r f) ≡ uncover_range r (reserved_labels f)
reserved_labels-uncovered r f = λ k x. free_at (covers r x) (f x) k

reserved_labels-after : (f : Owners) (i : Item) → reserved_labels (owners_after f i) ≡ reserved_after (reserved_labels f) i
reserved_labels-after f (item.Claim range owner) = reserved_labels-replaced range owner f
reserved_labels-after f (item.Free range) = reserved_labels-uncovered range f
reserved_labels-after f i = refl

-- a table's labels, room and place after an item depend on the item and on what they were, not on
-- the owners
pub table_of-push : (w : Which) (items : List Item) (i : Item) → table_of w (items ++ i ∷ []) ≡ table_after w (table_of w items) i
table_of-push which.Memory items i = memory_of-push items i
table_of-push which.Reserved items i = ap reserved_labels (owner_of-push items i) ∙ reserved_labels-after (owner_of items) i

-- the labels in a frame after an item depend only on the labels in this frame before it
covers_alike : (r : RangeView) (v : LabelView) (f g : Labels) (y : ℕ) → f y ≡ g y → cover_range r v f y ≡ cover_range r v g y
covers_alike r v f g y e = ap (λ o. if covers r y then Some (unwrap_or o v) else o) e

relabels_alike : (r : RangeView) (change : LabelView → LabelView) (f g : Labels) (y : ℕ) → f y ≡ g y → relabel_range r change f y
    ≡ relabel_range r change g y
relabels_alike r change f g y e = ap (λ o. if covers r y then option_map change o else o) e

pub memory_after-local : (f g : Labels) (i : Item) (x : ℕ) → ((y : ℕ) → IsInFrame x y → f y ≡ g y) → (y : ℕ) → IsInFrame x y
    → memory_after f i y ≡ memory_after g i y
memory_after-local f g (item.Mem range) x alike y at_y = covers_alike range plain_label f g y (alike y at_y)
memory_after-local f g item.Trim x alike y at_y = trim_frames-local f g y (λ z at_z. alike z (frame_join y x z (frame_back x y at_y) at_z))
memory_after-local f g (item.Node range node) x alike y at_y = relabels_alike range (with_node (Some node)) f g y (alike y at_y)
memory_after-local f g (item.Mirror range) x alike y at_y = relabels_alike range with_mirror f g y (alike y at_y)
memory_after-local f g i x alike y at_y = alike y at_y

pub memory_fold-local : (f g : Labels) (items : List Item) (x : ℕ) → ((y : ℕ) → IsInFrame x y → f y ≡ g y)
    → (y : ℕ) → IsInFrame x y → fold memory_after f items y ≡ fold memory_after g items y
memory_fold-local f g [] x alike y at_y = alike y at_y
memory_fold-local f g (i ∷ is) x alike y at_y = memory_fold-local (memory_after f i) (memory_after g i) is x
    (memory_after-local f g i x alike) y at_y

-- appending an item whose range isn't empty
pub ItemsHaveBytes-push : (items : List Item) (i : Item) → ItemsHaveBytes items → ItemHasBytes i → ItemsHaveBytes (items ++ i ∷ [])
ItemsHaveBytes-push [] i known some = (some, tt)
ItemsHaveBytes-push (j ∷ is) i known some = (known.0, ItemsHaveBytes-push is i known.1 some)
