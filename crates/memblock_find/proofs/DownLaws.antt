-- What a look down says, and the stretch of addresses that two looks describe.
use Rattle.std.proofs.Common.{◌≡◌, ◌≢◌, ◌⊎◌, ℕ, ◌+◌, ◌-◌, ◌<◌, ◌≤◌, is_none, if◌then◌else◌, Option, Some, None, List, length, max, refl, sym, ◌∙◌, ap, subst, inl, inr, arith}
use Rattle.std.proofs.lemmas.Bool.{cases_lt}
use Rattle.address_runs.specs.Runs.{RunOf, run_end, value_at, AreRuns}
use Rattle.address_runs.specs.Sweep.{HasValueBetween}
use Rattle.memblock_model.specs.Labels.{LabelView, Labels}
use Rattle.memblock_find.specs.declared.cursor.Cursor.{Cursor}
use Rattle.memblock_find.specs.Unclaimed.{unclaimed_memory, IsStretchWithBottom}
use Rattle.memblock_find.specs.Walk.{nth_record, OnlyFirstMayBegin, ExactlyFirstBeginBelow, IsLookDown, IsWalkDownAt, unclaimed_label}
use Rattle.memblock_find.proofs.SlotLaws.{ends_before, ends_ascend, bases_ascend, size_at, value_in, none_beside, other_under}

-- if no record begins below the address, the addresses below it have no label
pub look_bottom : (rs : List (RunOf LabelView)) (at : ℕ) → ExactlyFirstBeginBelow at rs 0
    → IsLookDown rs at (record { label = None; bound = 0; slot = 0 })
look_bottom rs at begun = record {
  down = record {
    stays = λ x above under. none_beside x rs (λ i less. let base = begun.after i (omega arith) less in inr (omega arith));
    another = λ x next same. absurd (omega arith);
  };
  next = record { runs = begun.runs; within = omega arith; before = λ i less. absurd (omega arith); after = λ i from less. omega arith };
  order = omega arith;
  below = λ some. some;
}

-- between the end of the last record below the address and the address there is no label
pub look_gap : (rs : List (RunOf LabelView)) (slot at : ℕ) → 0 < slot → ExactlyFirstBeginBelow at rs slot
    → run_end (nth_record rs (slot - 1)) < at
    → IsLookDown rs at (record { label = None; bound = run_end (nth_record rs (slot - 1)); slot = slot })
look_gap rs slot at some begun under_at =
    let runs : AreRuns rs = begun.runs in
    let i : ℕ = slot - 1 in
    let last : i < length rs = omega (arith, begun.within) in
    let size = size_at i rs runs last in
    record {
      down = record {
        stays = λ x above under. none_beside x rs (λ j less.
            elim (cases_lt j slot) as (λ _. (run_end (nth_record rs j) ≤ x) ⊎ (x < (nth_record rs j).base)) [
              | inl before ↦ let ends = ends_ascend j i rs runs (omega arith) last in inl (omega arith)
              | inr after ↦ let base = begun.after j after less in inr (omega arith)
            ]);
        another = λ x next same.
            let here : value_at rs x ≡ Some (nth_record rs i).value = value_in i x rs runs last (omega arith) (omega arith) in
            cc;
      };
      next = record {
        runs = runs;
        within = begun.within;
        before = λ j less. let bases = bases_ascend j i rs runs (omega arith) last in omega arith;
        after = λ j from less. ends_before i j rs runs (omega arith) less;
      };
      order = omega arith;
      below = λ _. under_at;
    }

-- in the last record that begins below the address, the label is the record's
pub look_in : (rs : List (RunOf LabelView)) (slot at : ℕ) → 0 < slot → ExactlyFirstBeginBelow at rs slot
    → at ≤ run_end (nth_record rs (slot - 1))
    → IsLookDown rs at (record { label = Some (nth_record rs (slot - 1)).value; bound = (nth_record rs (slot - 1)).base; slot = slot - 1 })
look_in rs slot at some begun at_end =
    let runs : AreRuns rs = begun.runs in
    let i : ℕ = slot - 1 in
    let last : i < length rs = omega (arith, begun.within) in
    let base : (nth_record rs i).base < at = begun.before i (omega arith) in
    record {
      down = record {
        stays = λ x above under. value_in i x rs runs last above (omega arith);
        another = λ x next. other_under i x rs runs last next;
      };
      next = record {
        runs = runs;
        within = omega arith;
        before = λ j less.
            let ends = ends_before j i rs runs less last in
            let size = size_at j rs runs (omega arith) in
            omega arith;
        after = λ j from less. bases_ascend i j rs runs from less;
      };
      order = omega arith;
      below = λ _. base;
    }

-- whether an address is unclaimed memory follows from what both tables give it
pub unclaimed_is : (memory reserved : Labels) (x : ℕ) (a b : Option LabelView) → memory x ≡ a → reserved x ≡ b
    → unclaimed_memory memory reserved x ≡ (if is_none b then a else None)
unclaimed_is memory reserved x a b m r =
    ap (λ (o : Option LabelView). if is_none o then memory x else None) r ∙ ap (λ (o : Option LabelView). if is_none b then o else None) m

-- the addresses of a cursor's stretch have its label
pub stretch_stays : (ms rs : List (RunOf LabelView)) (c : Cursor) (from : ℕ) (label : Option LabelView) → IsWalkDownAt ms rs c
    → from ≡ max c.memory.bound c.reserved.bound → label ≡ unclaimed_label c
    → HasValueBetween (unclaimed_memory (value_at ms) (value_at rs)) from c.at label
stretch_stays ms rs c from label known from_is label_is x above under =
    unclaimed_is (value_at ms) (value_at rs) x c.memory.label c.reserved.label
    (known.memory.down.stays x (omega arith) under) (known.reserved.down.stays x (omega arith) under) ∙ sym label_is

-- unclaimed memory changes if the label of memory changes, or a claim begins
pub unclaimed_changes : (carried claimed label : Option LabelView) → (carried ≢ label) ⊎ (claimed ≢ None) → label ≢ None
    → (if is_none claimed then carried else None) ≢ label
unclaimed_changes carried None label (inl other) some = other
unclaimed_changes carried None label (inr other) some = absurd (other refl)
unclaimed_changes carried (Some v) label changes some = λ same. some (sym same)

stretch_ends : (memory reserved : Labels) (x m r : ℕ) (a b : Option LabelView) → ((y : ℕ) → y + 1 ≡ m → memory y ≢ a)
    → ((y : ℕ) → y + 1 ≡ r → reserved y ≢ b) → x + 1 ≡ max m r → (if is_none b then a else None) ≢ None
    → unclaimed_memory memory reserved x ≢ (if is_none b then a else None)
stretch_ends memory reserved x m r a (Some v) other_m other_r next some = absurd (some refl)
stretch_ends memory reserved x m r a None other_m other_r next some =
    elim (cases_lt m r) as (λ _. unclaimed_memory memory reserved x ≢ a) [
      | inl lt ↦ unclaimed_changes (memory x) (reserved x) a (inr (other_r x (omega arith))) some
      | inr ge ↦ unclaimed_changes (memory x) (reserved x) a (inl (other_m x (omega arith))) some
    ]

-- below a stretch of unclaimed memory the address has another label
pub stretch_down : (ms rs : List (RunOf LabelView)) (c : Cursor) (from : ℕ) (label : Option LabelView) → IsWalkDownAt ms rs c
    → from ≡ max c.memory.bound c.reserved.bound → label ≡ unclaimed_label c → label ≢ None
    → IsStretchWithBottom (unclaimed_memory (value_at ms) (value_at rs)) from c.at label
stretch_down ms rs c from label known from_is label_is some =
    let held : unclaimed_label c ≢ None = subst (λ (o : Option LabelView). o ≢ None) label_is some in
    let ends : (x : ℕ) → x + 1 ≡ from → unclaimed_memory (value_at ms) (value_at rs) x ≢ unclaimed_label c = λ x next.
    stretch_ends (value_at ms) (value_at rs) x c.memory.bound c.reserved.bound
    c.memory.label c.reserved.label known.memory.down.another known.reserved.down.another (next ∙ from_is) held in
    record {
      stays = stretch_stays ms rs c from label known from_is label_is;
      another = λ x next same. ends x next (same ∙ label_is);
    }

-- all records that begin below an address are among all records
pub among_all : (rs : List (RunOf LabelView)) (at count : ℕ) → AreRuns rs → count ≡ length rs → OnlyFirstMayBegin at rs count
among_all rs at count runs all = record {
  runs = runs;
  within = omega arith;
  after = λ i from less. absurd (omega arith);
}

-- if the last of the first `count` records begins below the address, they are exactly those that
-- do
pub all_begun : (rs : List (RunOf LabelView)) (at count : ℕ) → OnlyFirstMayBegin at rs count
    → (0 < count → (nth_record rs (count - 1)).base < at)
    → ExactlyFirstBeginBelow at rs count
all_begun rs at count among last = record {
  runs = among.runs;
  within = among.within;
  before = λ i less.
      let within = among.within in
      let bases = bases_ascend i (count - 1) rs among.runs (omega arith) (omega arith) in
      let top = last (omega arith) in
      omega arith;
  after = among.after;
}

pub begun_so_far : (rs : List (RunOf LabelView)) (at middle : ℕ) → AreRuns rs → middle < length rs → (nth_record rs middle).base < at
    → (i : ℕ) → i < middle + 1 → (nth_record rs i).base < at
begun_so_far rs at middle runs within begun i less = omega (arith, bases_ascend i middle rs runs (omega arith) within)

pub not_begun_from : (rs : List (RunOf LabelView)) (at middle : ℕ) → AreRuns rs → at ≤ (nth_record rs middle).base
    → (i : ℕ) → middle ≤ i → i < length rs → at ≤ (nth_record rs i).base
not_begun_from rs at middle runs after i from within = omega (arith, bases_ascend middle i rs runs from within)
