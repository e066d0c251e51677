-- The records of a sorted list by their index: their order, and what the list gives the addresses
-- in them and outside them.
use Rattle.std.proofs.Common.{◌≡◌, ◌≢◌, ◌⊎◌, ℕ, zero, suc, ◌+◌, ◌-◌, ◌<◌, ◌≤◌, Some, None, List, [], ◌∷◌, length, refl, ap, inl, inr, arith}
use Rattle.std.proofs.lemmas.Bool.{cases_lt}
use Rattle.address_runs.specs.Runs.{RunOf, run_end, value_at, AreRuns}
use Rattle.address_runs.specs.Edits.{IsEmptyFrom}
use Rattle.address_runs.specs.Sweep.{StartAtOrPast}
use Rattle.address_runs.proofs.RunsLaws.{inside, below, past_end, none_below, rest_from, another_value_at_run_end}
use Rattle.memblock_model.specs.Labels.{LabelView}
use Rattle.memblock_ranges.specs.declared.region.Region.{Region}
use Rattle.memblock_ranges.specs.Encoding.{region_of}
use Rattle.memblock_find.specs.Walk.{nth_record}

-- the base and size of a record
pub read_of : (g : Region) (r : RunOf LabelView) → g ≡ region_of r → (g.base ≡ r.base) × (g.size ≡ r.size)
read_of g r is = (ap (λ (h : Region). h.base) is, ap (λ (h : Region). h.size) is)

start_sooner : (at from : ℕ) (rs : List (RunOf LabelView)) → at ≤ from → StartAtOrPast from rs → StartAtOrPast at rs
start_sooner at from [] le start = tt
start_sooner at from (r ∷ rs) le start = omega arith

start_at : (at i : ℕ) (rs : List (RunOf LabelView)) → AreRuns rs → StartAtOrPast at rs → i < length rs → at ≤ (nth_record rs i).base
start_at at i [] runs start less = absurd (omega arith)
start_at at zero (r ∷ rs) runs start less = start
start_at at (suc i) (r ∷ rs) runs start less =
    start_at at i rs runs.2 (start_sooner at (run_end r) rs (omega arith) (rest_from r rs runs)) (omega arith)

-- a record ends before any later one begins
pub ends_before : (i j : ℕ) (rs : List (RunOf LabelView)) → AreRuns rs → i < j → j < length rs
    → run_end (nth_record rs i) ≤ (nth_record rs j).base
ends_before i j [] runs less within = absurd (omega arith)
ends_before i zero (r ∷ rs) runs less within = absurd (omega arith)
ends_before zero (suc j) (r ∷ rs) runs less within = start_at (run_end r) j rs runs.2 (rest_from r rs runs) (omega arith)
ends_before (suc i) (suc j) (r ∷ rs) runs less within = ends_before i j rs runs.2 (omega arith) (omega arith)

pub size_at : (i : ℕ) (rs : List (RunOf LabelView)) → AreRuns rs → i < length rs → 0 < (nth_record rs i).size
size_at i [] runs less = absurd (omega arith)
size_at zero (r ∷ rs) runs less = runs.0
size_at (suc i) (r ∷ rs) runs less = size_at i rs runs.2 (omega arith)

-- a later record begins no lower, and ends no lower
pub bases_ascend : (i j : ℕ) (rs : List (RunOf LabelView)) → AreRuns rs → i ≤ j → j < length rs
    → (nth_record rs i).base ≤ (nth_record rs j).base
bases_ascend i j rs runs order within =
    elim (cases_lt i j) as (λ _. (nth_record rs i).base ≤ (nth_record rs j).base) [
      | inl less ↦ let ends = ends_before i j rs runs less within in omega arith
      | inr ge ↦ let same : i ≡ j = omega arith in let bases = ap (λ (k : ℕ). (nth_record rs k).base) same in omega arith
    ]

pub ends_ascend : (i j : ℕ) (rs : List (RunOf LabelView)) → AreRuns rs → i ≤ j → j < length rs
    → run_end (nth_record rs i) ≤ run_end (nth_record rs j)
ends_ascend i j rs runs order within =
    elim (cases_lt i j) as (λ _. run_end (nth_record rs i) ≤ run_end (nth_record rs j)) [
      | inl less ↦ let ends = ends_before i j rs runs less within in omega arith
      | inr ge ↦ let same : i ≡ j = omega arith in let ends = ap (λ (k : ℕ). run_end (nth_record rs k)) same in omega arith
    ]

-- the list gives a record's addresses its label
pub value_in : (i x : ℕ) (rs : List (RunOf LabelView)) → AreRuns rs → i < length rs → (nth_record rs i).base ≤ x
    → x < run_end (nth_record rs i)
    → value_at rs x ≡ Some (nth_record rs i).value
value_in i x [] runs less above under = absurd (omega arith)
value_in zero x (r ∷ rs) runs less above under = rw (inside r x above under) refl
value_in (suc i) x (r ∷ rs) runs less above under =
    let start = start_at (run_end r) i rs runs.2 (rest_from r rs runs) (omega arith) in
    rw (past_end r x (omega arith)) (value_in i x rs runs.2 (omega arith) above under)

-- an address outside all records has no label
pub none_beside : (x : ℕ) (rs : List (RunOf LabelView))
    → ((i : ℕ) → i < length rs → (run_end (nth_record rs i) ≤ x) ⊎ (x < (nth_record rs i).base))
    → value_at rs x ≡ None
none_beside x [] beside = refl
none_beside x (r ∷ rs) beside =
    let rest : value_at rs x ≡ None = none_beside x rs (λ i less. beside (suc i) (omega arith)) in
    elim (beside zero (omega arith)) as (λ _. value_at (r ∷ rs) x ≡ None) [
      | inl past ↦ rw (past_end r x past) rest
      | inr ahead ↦ rw (below r x ahead) rest
    ]

-- from the end of the last record on there is no label
pub nothing_after : (rs : List (RunOf LabelView)) (at : ℕ) → AreRuns rs → (0 < length rs → at ≡ run_end (nth_record rs (length rs - 1)))
    → IsEmptyFrom at (value_at rs)
nothing_after rs at runs end x from = none_beside x rs (λ i less.
    let is = end (omega arith) in
    let order = ends_ascend i (length rs - 1) rs runs (omega arith) (omega arith) in
    inl (omega arith))

-- the address below a record has another label
pub other_under : (i x : ℕ) (rs : List (RunOf LabelView)) → AreRuns rs → i < length rs → x + 1 ≡ (nth_record rs i).base
    → value_at rs x ≢ Some (nth_record rs i).value
other_under i x [] runs less next = absurd (omega arith)
other_under zero x (r ∷ rs) runs less next =
    let none : value_at (r ∷ rs) x ≡ None = none_below r.base x (r ∷ rs) runs (omega arith) (omega arith) in λ same. cc
other_under (suc zero) x (r ∷ []) runs less next = absurd (omega arith)
other_under (suc zero) x (r ∷ (s ∷ ss)) runs less next =
    elim (cases_lt x (run_end r)) as (λ _. value_at (r ∷ (s ∷ ss)) x ≢ Some s.value) [
      | inl lt ↦
          let touch : run_end r ≡ s.base = omega (arith, runs.1.0) in
          let size = runs.0 in
          let here : value_at (r ∷ (s ∷ ss)) x ≡ Some r.value = rw (inside r x (omega arith) lt) refl in
          λ same. let equal : r.value ≡ s.value = cc in runs.1.1 touch equal
      | inr ge ↦
          let none : value_at (s ∷ ss) x ≡ None = none_below s.base x (s ∷ ss) runs.2 (omega arith) (omega arith) in
          rw (past_end r x ge, none) (λ same. cc)
    ]
other_under (suc (suc i)) x (r ∷ rs) runs less next =
    let start = start_at (run_end r) zero rs runs.2 (rest_from r rs runs) (omega arith) in
    let first = ends_before zero (suc i) rs runs.2 (omega arith) (omega arith) in
    let size = size_at zero rs runs.2 (omega arith) in
    rw (past_end r x (omega arith)) (other_under (suc i) x rs runs.2 (omega arith) next)

-- the address after a record has another label
pub other_past : (i : ℕ) (rs : List (RunOf LabelView)) → AreRuns rs → i < length rs
    → value_at rs (run_end (nth_record rs i)) ≢ Some (nth_record rs i).value
other_past i [] runs less = absurd (omega arith)
other_past zero (r ∷ rs) runs less = rw (past_end r (run_end r) (omega arith)) (another_value_at_run_end r rs runs)
other_past (suc i) (r ∷ rs) runs less =
    let start = start_at (run_end r) i rs runs.2 (rest_from r rs runs) (omega arith) in
    rw (past_end r (run_end (nth_record rs i)) (omega arith)) (other_past i rs runs.2 (omega arith))
