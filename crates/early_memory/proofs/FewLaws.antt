-- A short list of items needs no growth, and is written as it is.
use Rattle.std.proofs.Common.{◌≡◌, ℕ, ◌+◌, ◌*◌, ◌^◌, ◌≤◌, false, List, [], ◌∷◌, ◌++◌, length, Ok, refl, sym, ap, ◌∙◌, subst, arith}
use Rattle.std.proofs.lemmas.Bool.Decides.{nat_tests}
use Rattle.std.proofs.lemmas.List.{append-nil, append_assoc}
use Rattle.bm_base.specs.Range.{RangeView, end_of}
use Rattle.bm_base.specs.ResultSteps.{◌>>=◌}
use Rattle.address_runs.specs.Edits.{IsEmptyFrom, cover_range}
use Rattle.memblock_model.specs.declared.owner.Which.{Which}
use Rattle.memblock_model.specs.declared.owner.Which.TheVariants as which
use Rattle.memblock_model.specs.declared.item.Item.{Item}
use Rattle.memblock_model.specs.declared.item.Item.TheVariants as item
use Rattle.memblock_model.specs.Labels.{Labels, plain_label}
use Rattle.memblock_model.specs.Tables.{records_for, records_of, room_after, room_of, table_after, table_of}
use Rattle.memblock_model.proofs.ItemLaws.{room_of-push, table_of-push}
use Rattle.memblock_ranges.specs.Steps.{RangeEndsInAddressSpace}
use Rattle.memblock_ranges.proofs.CountLaws.{few-pieces, length-covered, length-trimmed}
use Rattle.memblock_ranges.proofs.StepLaws.{items-within}
use Rattle.growth_model.specs.Change.{ChangeEffect, write_item}
use Rattle.growth_model.specs.Growth.{is_full, count_uncovered_pieces}
use Rattle.growth_model.specs.Requests.{carry_out_items, change_writing_item, items_or_refusal}
use Rattle.growth_model.proofs.FirstLaws.{no_records, nothing_said}
use Rattle.growth_model.proofs.IdleLaws.{add_range-idle, claim_range-idle}

-- the reserved table has at most n records, the memory table at most m, and neither has grown yet
record HasFew (items : List Item) (n m : ℕ) : Type 0 where
  reserved : length (records_for (table_of which.Reserved items)) ≤ n
  memory : length (records_for (table_of which.Memory items)) ≤ m
  rooms : (w : Which) → room_of w items ≡ 128
  within : (w : Which) → IsEmptyFrom (2 ^ 64) (table_of w items)

-- the items are claims, memory, trims and limits, and so few that both tables have room for them
abbrev pub NeedNone : ℕ → ℕ → List Item → Type 0
NeedNone n m [] = Unit {0}
NeedNone n m (item.Claim range who ∷ is) = (end_of range ≤ 2 ^ 64) × (2 * n + 1 ≤ 128) × NeedNone (2 * n + 1) m is
NeedNone n m (item.Mem range ∷ is) = (end_of range ≤ 2 ^ 64) × (2 * m + 1 ≤ 128) × NeedNone n (2 * m + 1) is
NeedNone n m (item.Trim ∷ is) = NeedNone n m is
NeedNone n m (item.Limit at ∷ is) = NeedNone n m is
NeedNone n m (i ∷ is) = ⊥

-- after an item the tables have at most these numbers of records
after : (i : Item) (items : List Item) (n m a b : ℕ) → HasFew items n m → RangeEndsInAddressSpace i
    → ((w : Which) → room_after w (room_of w items) i ≡ 128)
    → length (records_for (table_after which.Reserved (table_of which.Reserved items) i)) ≤ a
    → length (records_for (table_after which.Memory (table_of which.Memory items) i)) ≤ b → HasFew (items ++ i ∷ []) a b
after i items n m a b few small rooms reserved memory = record {
  reserved = subst (λ (f : Labels). length (records_for f) ≤ a) (sym (table_of-push which.Reserved items i)) reserved;
  memory = subst (λ (f : Labels). length (records_for f) ≤ b) (sym (table_of-push which.Memory items i)) memory;
  rooms = λ w. room_of-push w items i ∙ rooms w;
  within = λ w. items-within w items i small (few.within w);
}

-- a range that is added to a table of few records needs no growth
covers_few : (w : Which) (r : RangeView) (items : List Item) (n : ℕ) → end_of r ≤ 2 ^ 64 → 2 * n + 1 ≤ 128 → room_of w items ≡ 128
    → IsEmptyFrom (2 ^ 64) (table_of w items) → length (records_for (table_of w items)) ≤ n
    → (is_full w (count_uncovered_pieces w r) items ≡ false)
    × (length (records_for (cover_range r plain_label (table_of w items))) ≤ 2 * n + 1)
unfolding records_of
covers_few w r items n small low room within few =
    let some = few-pieces r (table_of w items) small within in
    let more = length-covered r plain_label (table_of w items) small within in
    (grind (arith, nat_tests, room, low, few, some), omega (arith, few, some, more))

-- carrying out an item that needs no growth, and then the others
goes : (i : Item) (is items : List Item) → change_writing_item i items ≡ write_item i items
    → carry_out_items is (items ++ i ∷ []) ≡ Ok ((items ++ i ∷ []) ++ is) → carry_out_items (i ∷ is) items ≡ Ok (items ++ (i ∷ is))
unfolding carry_out_items
goes i is items first rest =
    ap (λ (o : ChangeEffect). items_or_refusal items o >>= λ next. carry_out_items is next) first ∙ rest
    ∙ ap (λ (t : List Item). Ok t) (append_assoc items (i ∷ []) is)

few_carried : (is items : List Item) (n m : ℕ) → HasFew items n m → NeedNone n m is → carry_out_items is items ≡ Ok (items ++ is)
unfolding carry_out_items
few_carried [] items n m few need = ap (λ (t : List Item). Ok t) (sym (append-nil items))
few_carried (item.Claim range who ∷ is) items n m few need =
    let i : Item = item.Claim range who in
    let known =
    covers_few which.Reserved range items n need.0 need.1 (few.rooms which.Reserved) (few.within which.Reserved) few.reserved in
    goes i is items (claim_range-idle items range who known.0) (few_carried is (items ++ i ∷ []) (2 * n + 1) m
    (after i items n m (2 * n + 1) m few need.0 few.rooms known.1 few.memory) need.2)
few_carried (item.Mem range ∷ is) items n m few need =
    let i : Item = item.Mem range in
    let known = covers_few which.Memory range items m need.0 need.1 (few.rooms which.Memory) (few.within which.Memory) few.memory in
    goes i is items (add_range-idle items range known.0) (few_carried is (items ++ i ∷ []) n (2 * m + 1)
    (after i items n m n (2 * m + 1) few need.0 few.rooms few.reserved known.1) need.2)
few_carried (item.Trim ∷ is) items n m few need =
    let fewer = length-trimmed (table_of which.Memory items) (few.within which.Memory) in
    goes item.Trim is items refl (few_carried is (items ++ item.Trim ∷ []) n m
    (after item.Trim items n m n m few tt few.rooms few.reserved (omega (arith, fewer, few.memory))) need)
few_carried (item.Limit at ∷ is) items n m few need =
    goes (item.Limit at) is items refl (few_carried is (items ++ item.Limit at ∷ []) n m
    (after (item.Limit at) items n m n m few tt few.rooms few.reserved few.memory) need)
few_carried (i ∷ is) items n m few need = absurd need

-- carrying out a short list from the beginning writes exactly the list
pub few_from_nothing : (is : List Item) → NeedNone 0 0 is → carry_out_items is [] ≡ Ok is
few_from_nothing is need =
    let none : (w : Which) → length (records_for (table_of w [])) ≤ 0 =
    λ w. (let all = no_records (table_of w []) (nothing_said w) in omega (arith, all)) in
    few_carried is [] 0 0 (record {
      reserved = none which.Reserved;
      memory = none which.Memory;
      rooms = λ w. refl;
      within = λ w x far. nothing_said w x;
    }) need
