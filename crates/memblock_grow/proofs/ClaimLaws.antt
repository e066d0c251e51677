-- A claim that is refused at once, and one that isn't refused: what it prepares, together with a
-- place that was prepared before it.
use Rattle.std.proofs.Common.{◌≡◌, ◌<◌, true, None, List, length, Result, Ok, Err, OnErr, sym, ◌∙◌, arith}
use Rattle.std.proofs.lemmas.List.{length-append}
use Rattle.bm_base.specs.Range.{RangeView}
use Rattle.phys_store.specs.Bytes.{ExtentView}
use Rattle.memblock_model.specs.declared.owner.Which.TheVariants as which
use Rattle.memblock_model.specs.declared.owner.Owner.{Owner}
use Rattle.memblock_model.specs.declared.item.Item.{Item}
use Rattle.memblock_model.specs.declared.item.Item.TheVariants as item
use Rattle.growth_model.specs.declared.refusal.Refusal.{Refusal}
use Rattle.growth_model.specs.declared.refusal.Refusal.TheVariants as refusal
use Rattle.growth_model.specs.Change.{Change, items_after_change, if_due, write_item, ◌>>◌}
use Rattle.growth_model.specs.Growth.{is_full, count_uncovered_pieces, reserved_growth, make_table_room, claim_range}
use Rattle.growth_model.specs.Ends.{EndsAsChange}
use Rattle.growth_model.proofs.EndLaws.{followed, EndsAsChange-first, EndsAsChange-due}
use Rattle.growth_model.proofs.CutLaws.{then-unrefused}
use Rattle.memblock_grow.specs.Prepared.{PreparesPlaceToo, PreparesAsResult}

pub claim-refused : (e : Refusal) (range : RangeView) (who : Owner) (items : List Item)
    → is_full which.Reserved (count_uncovered_pieces which.Reserved range) items ≡ true
    → EndsAsChange {T = Unit {0}} (Err e) items items (reserved_growth range)
    → EndsAsChange {T = Unit {0}} (Err e) items items (claim_range range who)
unfolding claim_range
claim-refused e range who items full h =
    let once : Change = if_due (is_full which.Reserved (count_uncovered_pieces which.Reserved range)) (reserved_growth range) in
    EndsAsChange-first (Unit {0}) (Unit {0}) e items items (once >> once) (write_item (item.Claim range who))
    (EndsAsChange-first (Unit {0}) (Unit {0}) e items items once once
    (EndsAsChange-due {T = Unit {0}} (Err e) items items (is_full which.Reserved (count_uncovered_pieces which.Reserved range))
    (reserved_growth range) full h))

pub claim-begins : (range : RangeView) (who : Owner) (items : List Item) → (claim_range range who items).refused ≡ None
    → 0 < length (claim_range range who items).steps
unfolding claim_range
claim-begins range who items unrefused =
    let growths : Change = make_table_room which.Reserved (count_uncovered_pieces which.Reserved range) (reserved_growth range) in
    let last : Change = write_item (item.Claim range who) in
    let more = length-append (growths items).steps (last (items_after_change items (growths items))).steps in
    rw (followed growths last items (then-unrefused items growths last unrefused).0) (omega (arith, more))

pub claim-prepares : (r : Result (Unit {0}) Refusal) (who : Owner) {place : RangeView} {items longer : List Item} {s t : List ExtentView}
    → (claim_range place who items).refused ≡ None → EndsAsChange r items longer (claim_range place who)
    → PreparesPlaceToo place items longer s t
    → OnErr r (PreparesAsResult r items longer s t)
claim-prepares (Ok x) who unrefused ends h = tt
claim-prepares (Err refusal.NoGap) who unrefused ends h = absurd ends
claim-prepares (Err (refusal.NoGapForTable w room)) who unrefused ends h = let clash = sym unrefused ∙ ends.0 in cc
claim-prepares (Err refusal.Memory) who {place} unrefused ends h = (place, h)
