-- The tests on ranges mean what their names say.
use Rattle.std.proofs.Common.{◌≡◌, ℕ, ◌<◌, ◌≤◌, ◌↔◌, Bool, true, false, Option, Some, None, List, refl, ap, arith, inl, inr, IsTrue}
use Rattle.std.specs.Prelude.{min, max}
use Rattle.std.proofs.lemmas.Bool.{cases_Bool, and_from, or_right, false≢true, false_from_ne_true}
use Rattle.std.proofs.lemmas.Bool.Decides.{nat_tests}
use Rattle.bm_base.specs.Range.{RangeView, end_of, covers, Meet}
use Rattle.bm_base.proofs.EachLaws.{each_in-all, each_in-each}
use Rattle.address_runs.specs.Edits.{agree}
use Rattle.memblock_model.specs.declared.owner.Owner.{Owner}
use Rattle.memblock_model.specs.declared.owner.Which.{Which}
use Rattle.memblock_model.specs.declared.owner.Which.TheVariants as which
use Rattle.memblock_model.specs.declared.item.Item.{Item}
use Rattle.memblock_model.specs.Same.{same_owner}
use Rattle.memblock_model.specs.Items.{Owners}
use Rattle.memblock_model.specs.Tables.{table_bytes}
use Rattle.memblock_model.proofs.SameLaws.{owner_self, same_owner_decides_equality}
use Rattle.memblock_grow.specs.Touch.{OverlapsTableOfItems}
use Rattle.early_script.specs.Overlaps.{is_owned_by, ranges_overlap, is_over_table}

agrees : (o : Option Owner) (who : Owner) → o ≡ Some who → agree same_owner o (Some who) ≡ true
agrees o who is = rw is (owner_self who)

agreed : (o : Option Owner) (who : Owner) → agree same_owner o (Some who) ≡ true → o ≡ Some who
agreed None who h = cc h
agreed (Some a) who h = ap (λ (b : Owner). Some b) (same_owner_decides_equality.true_is_equal a who h)

pub owned-each : (own : Owners) (who : Owner) (range : RangeView) → is_owned_by own who range ≡ true → (x : ℕ) → range.base ≤ x → x < end_of
    range →
    own x ≡ Some who
unfolding is_owned_by
owned-each own who range h x low high = agreed (own x) who (each_in-each range (λ y. agree same_owner (own y) (Some who)) h x low high)

pub owned-is : (own : Owners) (who : Owner) (range : RangeView) (b : Bool) →
    (IsTrue b ↔ ((x : ℕ) → range.base ≤ x → x < end_of range → own x ≡ Some who)) → is_owned_by own who range ≡ b
unfolding is_owned_by
owned-is own who range true tells =
    each_in-all range (λ y. agree same_owner (own y) (Some who)) (λ y low high. agrees (own y) who (tells.0 refl y low high))
owned-is own who range false tells =
    false_from_ne_true _ (λ holds. false≢true (tells.1 (λ x low high. owned-each own who range holds x low high)))

-- ranges that meet have a byte in common, and conversely
ranges_overlap-meet : (r s : RangeView) → ranges_overlap r s ≡ true → Meet s r
ranges_overlap-meet r s h =
    let x = max r.base s.base in
    let below : x < min (end_of r) (end_of s) = grind (arith, nat_tests) in
    let here : covers s x ≡ true = grind (arith, nat_tests) in
    let too : covers r x ≡ true = grind (arith, nat_tests) in
    (x, and_from (covers s x) (covers r x) here too)

meet-meets : (r s : RangeView) → Meet s r → ranges_overlap r s ≡ true
meet-meets r s both = grind (arith, nat_tests, both.1)

met : (kernel : RangeView) (items : List Item) (range : RangeView) → (w : Which) × Meet (table_bytes w kernel items) range →
    is_over_table kernel items range ≡ true
met kernel items range (which.Memory, both) = rw (meet-meets range (table_bytes which.Memory kernel items) both) refl
met kernel items range (which.Reserved, both) = or_right _ _ (meet-meets range (table_bytes which.Reserved kernel items) both)

touched : (kernel : RangeView) (items : List Item) (range : RangeView) → is_over_table kernel items range ≡ true →
    (w : Which) × Meet (table_bytes w kernel items) range
touched kernel items range h = elim (cases_Bool (ranges_overlap range (table_bytes which.Memory kernel items))) [
  | inl first ↦ (which.Memory, ranges_overlap-meet range (table_bytes which.Memory kernel items) first)
  | inr none ↦ (which.Reserved, ranges_overlap-meet range (table_bytes which.Reserved kernel items) (rw none at h))
]

pub is_over_table-is : (kernel : RangeView) (items : List Item) (range : RangeView) (b : Bool) →
    (IsTrue b ↔ OverlapsTableOfItems kernel range items) → is_over_table kernel items range ≡ b
is_over_table-is kernel items range true tells = met kernel items range (tells.0 refl)
is_over_table-is kernel items range false tells =
    false_from_ne_true _ (λ holds. false≢true (tells.1 (touched kernel items range holds)))
