-- What a look up says, and the stretch of addresses that two looks describe.
use Rattle.std.proofs.Common.{◌≡◌, ◌≢◌, ◌⊎◌, ℕ, ◌+◌, ◌-◌, ◌^◌, ◌<◌, ◌≤◌, is_none, if◌then◌else◌, Option, Some, None, List, length, min, refl, sym, ◌∙◌, ap, subst, inl, inr, arith}
use Rattle.std.proofs.lemmas.Bool.{cases_lt}
use Rattle.address_runs.specs.Runs.{RunOf, run_end, value_at, AreRuns}
use Rattle.address_runs.specs.Edits.{IsEmptyFrom}
use Rattle.address_runs.specs.Sweep.{HasValueBetween}
use Rattle.memblock_model.specs.Labels.{LabelView}
use Rattle.memblock_find.specs.declared.cursor.Look.{Look}
use Rattle.memblock_find.specs.declared.cursor.Cursor.{Cursor}
use Rattle.memblock_find.specs.Unclaimed.{unclaimed_memory, IsStretchWithTop}
use Rattle.memblock_find.specs.Walk.{nth_record, ExactlyFirstEndAtOrBelow, IsLookUp, IsWalkUpAt, unclaimed_label}
use Rattle.memblock_find.proofs.DownLaws.{unclaimed_is, unclaimed_changes}
use Rattle.memblock_find.proofs.SlotLaws.{ends_before, ends_ascend, bases_ascend, size_at, value_in, none_beside, other_past}

-- if every record ends at or below the address, there is no label from it on
none_left : (rs : List (RunOf LabelView)) (at : ℕ) → ExactlyFirstEndAtOrBelow at rs (length rs) → IsEmptyFrom at (value_at rs)
none_left rs at ended x above = none_beside x rs (λ i less. let ends = ended.before i less in inl (omega arith))

pub look_top : (rs : List (RunOf LabelView)) (slot at : ℕ) → slot ≡ length rs → at < 2 ^ 64 → ExactlyFirstEndAtOrBelow at rs slot
    → IsLookUp rs at (record { label = None; bound = 2 ^ 64 - 1; slot = slot })
look_top rs slot at all small known =
    let ended : ExactlyFirstEndAtOrBelow at rs (length rs) = subst (λ (n : ℕ). ExactlyFirstEndAtOrBelow at rs n) all known in
    record {
      stays = λ x above under. none_left rs at ended x above;
      another = λ some. absurd (some refl);
      other = λ less. absurd (omega arith);
      next = record {
        runs = ended.runs;
        within = known.within;
        before = λ i less. let ends = known.before i less in omega arith;
        after = λ i from less. absurd (omega arith);
      };
      small = omega arith;
      order = omega arith;
      ahead = λ less. less;
      left = λ is. none_left rs at ended;
    }

-- up to the start of the next record there is no label
pub look_hole : (rs : List (RunOf LabelView)) (slot at : ℕ) → slot < length rs → ExactlyFirstEndAtOrBelow at rs slot
    → at < (nth_record rs slot).base
    → (nth_record rs slot).base < 2 ^ 64
    → IsLookUp rs at (record { label = None; bound = (nth_record rs slot).base; slot = slot })
look_hole rs slot at within ended before_base base_small =
    let runs : AreRuns rs = ended.runs in
    let size = size_at slot rs runs within in
    record {
      stays = λ x above under. none_beside x rs (λ j less.
          elim (cases_lt j slot) as (λ _. (run_end (nth_record rs j) ≤ x) ⊎ (x < (nth_record rs j).base)) [
            | inl before ↦ let ends = ended.before j before in inl (omega arith)
            | inr after ↦ let bases = bases_ascend slot j rs runs after less in inr (omega arith)
          ]);
      another = λ some. absurd (some refl);
      other = λ less same.
          let here : value_at rs (nth_record rs slot).base ≡ Some (nth_record rs slot).value =
          value_in slot (nth_record rs slot).base rs runs within (omega arith) (omega arith) in
          cc;
      next = record {
        runs = runs;
        within = ended.within;
        before = λ j less. let ends = ended.before j less in omega arith;
        after = λ j from less.
            let bases = bases_ascend slot j rs runs from less in
            let some = size_at j rs runs less in
            omega arith;
      };
      small = base_small;
      order = omega arith;
      ahead = λ _. before_base;
      left = λ is. absurd (omega arith);
    }

-- inside the next record, the label is that of the record
pub look_over : (rs : List (RunOf LabelView)) (slot at : ℕ) → slot < length rs → ExactlyFirstEndAtOrBelow at rs slot
    → (nth_record rs slot).base ≤ at
    → run_end (nth_record rs slot) < 2 ^ 64
    → IsLookUp rs at (record { label = Some (nth_record rs slot).value; bound = run_end (nth_record rs slot); slot = slot + 1 })
look_over rs slot at within ended from_base end_small =
    let runs : AreRuns rs = ended.runs in
    let end : at < run_end (nth_record rs slot) = ended.after slot (omega arith) within in
    record {
      stays = λ x above under. value_in slot x rs runs within (omega arith) under;
      another = λ some. other_past slot rs runs within;
      other = λ less. other_past slot rs runs within;
      next = record {
        runs = runs;
        within = omega arith;
        before = λ j less. ends_ascend j slot rs runs (omega arith) within;
        after = λ j from less.
            let ends = ends_before slot j rs runs (omega arith) less in
            let some = size_at j rs runs less in
            omega arith;
      };
      small = end_small;
      order = omega arith;
      ahead = λ _. end;
      left = λ is. absurd (omega arith);
    }

-- if a record ends at or below the address, so do all before it
pub ended_so_far : (rs : List (RunOf LabelView)) (at middle : ℕ) → AreRuns rs → middle < length rs → run_end (nth_record rs middle) ≤ at
    → (i : ℕ) → i < middle + 1 → run_end (nth_record rs i) ≤ at
ended_so_far rs at middle runs within ended i less = omega (arith, ends_ascend i middle rs runs (omega arith) within)

pub not_ended_from : (rs : List (RunOf LabelView)) (at middle : ℕ) → AreRuns rs → at < run_end (nth_record rs middle)
    → (i : ℕ) → middle ≤ i → i < length rs → at < run_end (nth_record rs i)
not_ended_from rs at middle runs after i from within = omega (arith, ends_ascend middle i rs runs from within)

-- the addresses of a cursor's stretch upward have its label
pub stretch_rises : (ms rs : List (RunOf LabelView)) (c : Cursor) (until : ℕ) (label : Option LabelView) → IsWalkUpAt ms rs c
    → until ≡ min c.memory.bound c.reserved.bound → label ≡ unclaimed_label c
    → HasValueBetween (unclaimed_memory (value_at ms) (value_at rs)) c.at until label
stretch_rises ms rs c until label known until_is label_is x above under =
    unclaimed_is (value_at ms) (value_at rs) x c.memory.label c.reserved.label
    (known.memory.stays x above (omega arith)) (known.reserved.stays x above (omega arith)) ∙ sym label_is

stretch_stops : (ms rs : List (RunOf LabelView)) (at : ℕ) (m r : Look) → IsLookUp ms at m → IsLookUp rs at r → r.label ≡ None
    → m.label ≢ None
    → unclaimed_memory (value_at ms) (value_at rs) (min m.bound r.bound) ≢ m.label
stretch_stops ms rs at m r memory reserved bare some =
    elim (cases_lt r.bound m.bound) as (λ _. unclaimed_memory (value_at ms) (value_at rs) (min m.bound r.bound) ≢ m.label) [
      | inl lt ↦
          let small = memory.small in
          let least : min m.bound r.bound ≡ r.bound = omega arith in
          rw least (unclaimed_changes (value_at ms r.bound) (value_at rs r.bound) m.label
          (inr (λ same. reserved.other (omega arith) (same ∙ sym bare))) some)
      | inr ge ↦
          let least : min m.bound r.bound ≡ m.bound = omega arith in
          rw least (unclaimed_changes (value_at ms m.bound) (value_at rs m.bound) m.label (inl (memory.another some)) some)
    ]

-- if two looks describe unclaimed memory, its label is that of memory, and it isn't claimed
bare_claims : (carried claimed : Option LabelView) → (if is_none claimed then carried else None) ≢ None
    → (claimed ≡ None) × ((if is_none claimed then carried else None) ≡ carried)
bare_claims carried None some = (refl, refl)
bare_claims carried (Some v) some = absurd (some refl)

-- after a stretch of unclaimed memory the address has another label
pub stretch_up : (ms rs : List (RunOf LabelView)) (c : Cursor) (until : ℕ) (label : Option LabelView) → IsWalkUpAt ms rs c
    → until ≡ min c.memory.bound c.reserved.bound → label ≡ unclaimed_label c → label ≢ None
    → IsStretchWithTop (unclaimed_memory (value_at ms) (value_at rs)) c.at until label
stretch_up ms rs c until label known until_is label_is some =
    let held : unclaimed_label c ≢ None = subst (λ (o : Option LabelView). o ≢ None) label_is some in
    let parts = bare_claims c.memory.label c.reserved.label held in
    let is : label ≡ c.memory.label = label_is ∙ parts.1 in
    let told : c.memory.label ≢ None = subst (λ (o : Option LabelView). o ≢ None) is some in
    record {
      stays = stretch_rises ms rs c until label known until_is label_is;
      another = λ same. stretch_stops ms rs c.at c.memory c.reserved known.memory known.reserved parts.0 told
          (ap (unclaimed_memory (value_at ms) (value_at rs)) (sym until_is) ∙ same ∙ is);
    }
