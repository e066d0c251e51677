-- A change whose table has room writes only its item.
use Rattle.std.proofs.Common.{◌≡◌, ℕ, false, List, refl}
use Rattle.std.proofs.lemmas.List.{append-nil}
use Rattle.bm_base.specs.Range.{RangeView}
use Rattle.memblock_model.specs.declared.owner.Which.TheVariants as which
use Rattle.memblock_model.specs.declared.owner.Owner.{Owner}
use Rattle.memblock_model.specs.declared.item.Item.{Item}
use Rattle.memblock_model.specs.declared.item.Item.TheVariants as item
use Rattle.growth_model.specs.Change.{write_item}
use Rattle.growth_model.specs.Growth.{is_full, count_uncovered_pieces, max_records_added_by_split, claim_range, free_range, add_range, set_range_node, set_range_mirror}

pub claim_range-idle : (items : List Item) (range : RangeView) (who : Owner)
    → is_full which.Reserved (count_uncovered_pieces which.Reserved range) items ≡ false
    → claim_range range who items ≡ write_item (item.Claim range who) items
unfolding claim_range
claim_range-idle items range who room = rw (room, append-nil items, room) refl

pub free_range-idle : (items : List Item) (range : RangeView) → is_full which.Reserved max_records_added_by_split items ≡ false
    → free_range range items ≡ write_item (item.Free range) items
unfolding free_range
free_range-idle items range room = rw (room, append-nil items, room) refl

pub add_range-idle : (items : List Item) (range : RangeView)
    → is_full which.Memory (count_uncovered_pieces which.Memory range) items ≡ false
    → add_range range items ≡ write_item (item.Mem range) items
unfolding add_range
add_range-idle items range room = rw (room, append-nil items, room) refl

pub set_range_node-idle : (items : List Item) (range : RangeView) (node : ℕ) → is_full which.Memory max_records_added_by_split items ≡ false
    → set_range_node range node items ≡ write_item (item.Node range node) items
unfolding set_range_node
set_range_node-idle items range node room = rw (room, append-nil items, room) refl

pub set_range_mirror-idle : (items : List Item) (range : RangeView) → is_full which.Memory max_records_added_by_split items ≡ false
    → set_range_mirror range items ≡ write_item (item.Mirror range) items
unfolding set_range_mirror
set_range_mirror-idle items range room = rw (room, append-nil items, room) refl
