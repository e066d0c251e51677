-- Skipping records whose memory a search may not return.
use Rattle.std.proofs.Common.{◌≡◌, ℕ, zero, suc, ◌+◌, ◌-◌, ◌<◌, ◌≤◌, Bool, false, Option, Some, None, List, [], ◌∷◌, length, sym, ◌∙◌, ap, inl, inr, arith}
use Rattle.std.proofs.lemmas.Bool.{cases_lt, true≢false}
use Rattle.address_runs.specs.Runs.{RunOf, run_end, value_at, AreRuns}
use Rattle.address_runs.proofs.RunsLaws.{inside, below, past_end}
use Rattle.memblock_model.specs.Labels.{LabelView, Labels}
use Rattle.memblock_model.specs.declared.query.Query.{Query}
use Rattle.memblock_model.proofs.SearchLaws.{fits_in-parts}
use Rattle.memblock_find.specs.declared.cursor.Look.{Look}
use Rattle.memblock_find.specs.Places.{is_allowed_label, NoPlaceEndsBetween, NoAddressIsAllowed}
use Rattle.memblock_find.specs.Walk.{nth_record, ExactlyFirstBeginBelow, IsLookDown}
use Rattle.memblock_find.proofs.PlaceLaws.{le_from_not_lt, place_serves}
use Rattle.memblock_find.proofs.SlotLaws.{ends_before, ends_ascend, bases_ascend, size_at, value_in}

-- the first records that begin below a look's bound end at or below it
pub ends_by_bound : (rs : List (RunOf LabelView)) (from count at : ℕ) (look : Look) → IsLookDown rs from look → count ≤ look.slot
    → (count ≡ 0 → at ≡ 0) → (0 < count → at ≡ run_end (nth_record rs (count - 1))) → at ≤ look.bound
ends_by_bound rs from count at look known fewer none end =
    elim (cases_lt 0 count) as (λ _. at ≤ look.bound) [
      | inl some ↦
          let i : ℕ = count - 1 in
          let within = known.next.within in
          let base : (nth_record rs i).base < look.bound = known.next.before i (omega arith) in
          let is = end some in
          le_from_not_lt look.bound at (λ over.
          let order = known.order in
          let under : look.bound < from = known.below (omega arith) in
          let there = value_in i look.bound rs known.next.runs (omega arith) (omega arith) (omega arith) in
          let next = value_in i (look.bound - 1) rs known.next.runs (omega arith) (omega arith) (omega arith) in
          let carries = known.down.stays look.bound (omega arith) under in
          known.down.another (look.bound - 1) (omega arith) (next ∙ sym there ∙ carries))
      | inr ge ↦ let is = none (omega arith) in omega arith
    ]

-- exactly the first `count` records begin below the end of the last of them
pub begun_at_end : (rs : List (RunOf LabelView)) (count at : ℕ) → AreRuns rs → count ≤ length rs
    → (count ≡ 0 → at ≡ 0) → (0 < count → at ≡ run_end (nth_record rs (count - 1))) → ExactlyFirstBeginBelow at rs count
begun_at_end rs count at runs within none end =
    record {
      runs = runs;
      within = within;
      before = λ i less.
          let is = end (omega arith) in
          let bases = bases_ascend i (count - 1) rs runs (omega arith) (omega arith) in
          let size = size_at (count - 1) rs runs (omega arith) in
          omega arith;
      after = λ i from less.
          elim (cases_lt 0 count) as (λ _. at ≤ (nth_record rs i).base) [
            | inl some ↦
                let is = end some in
                let order = ends_before (count - 1) i rs runs (omega arith) less in
                omega arith
            | inr ge ↦ let is = none (omega arith) in omega arith
          ];
    }

-- an address outside all allowed records isn't allowed memory, if addresses without memory aren't
-- allowed
pub not_serving : (mirror : Bool) (node : Option ℕ) (x : ℕ) (rs : List (RunOf LabelView)) → is_allowed_label mirror node None ≡ false
    → ((i : ℕ) → i < length rs → (nth_record rs i).base ≤ x → x < run_end (nth_record rs i)
    → is_allowed_label mirror node (Some (nth_record rs i).value) ≡ false)
    → is_allowed_label mirror node (value_at rs x) ≡ false
not_serving mirror node x [] narrow other = narrow
not_serving mirror node x (r ∷ rs) narrow other =
    let rest : is_allowed_label mirror node (value_at rs x) ≡ false =
    not_serving mirror node x rs narrow (λ i less. other (suc i) (omega arith)) in
    elim (cases_lt x r.base) as (λ _. is_allowed_label mirror node (value_at (r ∷ rs) x) ≡ false) [
      | inl ahead ↦ rw (below r x ahead) rest
      | inr from ↦ elim (cases_lt x (run_end r)) as (λ _. is_allowed_label mirror node (value_at (r ∷ rs) x) ≡ false) [
        | inl under ↦ rw (inside r x from under) (other zero (omega arith) from under)
        | inr past ↦ rw (past_end r x past) rest
      ]
    ]

-- from the end of the last allowed record up to the bound, no address is allowed
pub passed_over : (rs : List (RunOf LabelView)) (mirror : Bool) (node : Option ℕ) (from count at : ℕ) (look : Look)
    → IsLookDown rs from look
    → is_allowed_label mirror node None ≡ false → count ≤ look.slot → (0 < count → at ≡ run_end (nth_record rs (count - 1)))
    → ((i : ℕ) → count ≤ i → i < look.slot → is_allowed_label mirror node (Some (nth_record rs i).value) ≡ false)
    → NoAddressIsAllowed mirror (value_at rs) node at look.bound
passed_over rs mirror node from count at look known narrow fewer end others x above under =
    not_serving mirror node x rs narrow (λ i less base ends.
    let after : count ≤ i = le_from_not_lt i count (λ left.
    let is = end (omega arith) in
    let within = known.next.within in
    let order = ends_ascend i (count - 1) rs known.next.runs (omega arith) (omega arith) in
    omega arith) in
    let before : i + 1 ≤ look.slot = le_from_not_lt look.slot (i + 1) (λ past.
    let order = known.next.after i (omega arith) less in omega arith) in
    others i after (omega arith))

-- no place ends among addresses that aren't allowed
pub past_refused : (mirror : Bool) (memory reserved : Labels) (q : Query) (at from : ℕ) → 1 ≤ q.size
    → NoAddressIsAllowed mirror memory q.node at from
    → NoPlaceEndsBetween mirror memory reserved q from q.hi → NoPlaceEndsBetween mirror memory reserved q at q.hi
past_refused mirror memory reserved q at from some barred past b fits ends =
    le_from_not_lt at (b + q.size) (λ lt.
    let place = fits_in-parts mirror memory reserved q b fits in
    let last : ℕ = b + q.size - 1 in
    let order = past b fits ends in
    let refused = barred last (omega arith) (omega arith) in
    let label = place.label last (omega arith) (omega arith) in
    true≢false (sym (place_serves mirror memory reserved q b place)
    ∙ ap (λ (o : Option LabelView). is_allowed_label mirror q.node o) (sym label) ∙ refused))
