-- Joining runs with their neighbours: the joined runs have the values of the runs, and the node of
-- both ends in each gap between two addresses of one node with no other node between them.
use Rattle.std.proofs.Common.{◌≡◌, ◌≢◌, ℕ, ◌-◌, ◌<◌, ◌≤◌, ◌==◌, ◌⊎◌, Option, Some, None, List, [], ◌∷◌, refl, sym, ◌∙◌, ap, subst, inl, inr, le_of_suc-le-suc, lt_of_not-le, arith}
use Rattle.std.proofs.lemmas.Bool.{cases_lt, cases_Bool}
use Rattle.std.proofs.lemmas.Bool.Decides.{nat_tests}
use Rattle.std.proofs.lemmas.Option.{none-some, same_Some}
use Rattle.address_runs.specs.Runs.{run_end, value_at, AreRuns, IsBefore}
use Rattle.address_runs.specs.Sweep.{StartAtOrPast}
use Rattle.address_runs.proofs.RunsLaws.{none_below, rest_from, inside, past_end}
use Rattle.srat_nodes.specs.NodeAt.{NumaBlock}
use Rattle.srat_nodes.specs.Steps.{fill_gaps, prepend_joined}

-- a lower and a higher address have node n, and no address between them has another node
pub record IsAround (f : ℕ → Option ℕ) (x n : ℕ) : Type 0 where
  pub low : ℕ
  pub high : ℕ
  pub under : low < x
  pub over : x < high
  pub at_low : f low ≡ Some n
  pub at_high : f high ≡ Some n
  pub only : (y m : ℕ) → low ≤ y → y ≤ high → f y ≡ Some m → m ≡ n

abbrev pub IsFilled : (ℕ → Option ℕ) → ℕ → ℕ → Type 0
IsFilled f x n = (f x ≡ Some n) ⊎ IsAround f x n

-- the second list is canonical, and has the values of the first, with the gaps filled
pub record IsFilledBy (rs ts : List NumaBlock) : Type 0 where
  pub runs : AreRuns ts
  pub sound : (x n : ℕ) → value_at ts x ≡ Some n → IsFilled (value_at rs) x n
  pub complete : (x n : ℕ) → IsFilled (value_at rs) x n → value_at ts x ≡ Some n

-- an address is below the first run of a canonical list, inside it, or above it
data Place (r : NumaBlock) (x : ℕ) : Type 0 where
  Below : x < r.base → Place r x
  Inside : r.base ≤ x → x < run_end r → Place r x
  Behind : run_end r ≤ x → Place r x

place : (r : NumaBlock) (x : ℕ) → Place r x
place r x = elim (cases_lt x r.base) as (λ _. Place r x) [
  | inl lt ↦ Below lt
  | inr ge ↦ elim (cases_lt x (run_end r)) as (λ _. Place r x) [
    | inl under ↦ Inside ge under
    | inr from ↦ Behind from
  ]
]

at_below : (r : NumaBlock) (rs : List NumaBlock) (x : ℕ) → AreRuns (r ∷ rs) → x < r.base → value_at (r ∷ rs) x ≡ None
at_below r rs x runs lt = let start : StartAtOrPast r.base (r ∷ rs) = omega arith in none_below r.base x (r ∷ rs) runs start lt

at_inside : (r : NumaBlock) (rs : List NumaBlock) (x : ℕ) → r.base ≤ x → x < run_end r → value_at (r ∷ rs) x ≡ Some r.value
at_inside r rs x above under = rw (inside r x above under) refl

at_after : (r : NumaBlock) (rs : List NumaBlock) (x : ℕ) → run_end r ≤ x → value_at (r ∷ rs) x ≡ value_at rs x
at_after r rs x from = rw (past_end r x from) refl

-- an address that the rest of the runs contains is above the first run
rest_after : (r : NumaBlock) (rs : List NumaBlock) (x n : ℕ) → AreRuns (r ∷ rs) → value_at rs x ≡ Some n → run_end r ≤ x
rest_after r rs x n runs some =
    le_of_suc-le-suc (lt_of_not-le (λ lt. none-some n (sym (none_below (run_end r) x rs runs.2 (rest_from r rs runs) lt) ∙ some)))

-- two functions that agree from the lower address of a gap on fill the gap in the same way
moved : (f g : ℕ → Option ℕ) (x n : ℕ) → (around : IsAround f x n) → ((y : ℕ) → around.low ≤ y → g y ≡ f y) → IsAround g x n
moved f g x n around same = record {
  low = around.low;
  high = around.high;
  under = around.under;
  over = around.over;
  at_low = same around.low (omega arith) ∙ around.at_low;
  at_high = same around.high (omega (arith, around.under, around.over)) ∙ around.at_high;
  only = λ y m above below_high some. around.only y m above below_high (sym (same y above) ∙ some);
}

-- a gap that is filled in the rest of the runs is filled in the whole list
lifted : (r : NumaBlock) (rs : List NumaBlock) (x n : ℕ) → AreRuns (r ∷ rs) → IsFilled (value_at rs) x n → IsFilled (value_at (r ∷ rs)) x n
lifted r rs x n runs (inl here) = inl (at_after r rs x (rest_after r rs x n runs here) ∙ here)
lifted r rs x n runs (inr around) =
    let from : run_end r ≤ around.low = rest_after r rs around.low n runs around.at_low in
    inr (moved (value_at rs) (value_at (r ∷ rs)) x n around (λ y above. at_after r rs y (omega arith)))

-- a gap of the whole list that begins above the first run is filled in the rest of the runs
lowered : (r : NumaBlock) (rs : List NumaBlock) (x n : ℕ) → (around : IsAround (value_at (r ∷ rs)) x n) → run_end r ≤ around.low
    → IsAround (value_at rs) x n
lowered r rs x n around from =
    moved (value_at (r ∷ rs)) (value_at rs) x n around (λ y above. sym (at_after r rs y (omega arith)))

-- the higher address of a gap that begins above the first run is in the rest of the runs
high_given : (r : NumaBlock) (rs : List NumaBlock) (x n : ℕ) → (around : IsAround (value_at (r ∷ rs)) x n) → run_end r ≤ x
    → value_at rs around.high ≡ Some n
high_given r rs x n around from = sym (at_after r rs around.high (omega (arith, around.over))) ∙ around.at_high

-- the first joined run begins where a run begins
first_value : (rs : List NumaBlock) (t : NumaBlock) (us : List NumaBlock) → IsFilledBy rs (t ∷ us) → value_at rs t.base ≡ Some t.value
first_value rs t us known =
    let some : value_at (t ∷ us) t.base ≡ Some t.value = at_inside t us t.base (omega arith) (omega (arith, known.runs.0)) in
    elim (known.sound t.base t.value some) as (λ _. value_at rs t.base ≡ Some t.value) [
      | inl here ↦ here
      | inr around ↦
          let given : value_at (t ∷ us) around.low ≡ Some t.value = known.complete around.low t.value (inl around.at_low) in
          absurd (none-some t.value (sym (at_below t us around.low known.runs around.under) ∙ given))
    ]

-- an address below the end of the first run can only have the first run's node
low_value : (r : NumaBlock) (rs : List NumaBlock) (x n : ℕ) → AreRuns (r ∷ rs) → value_at (r ∷ rs) x ≡ Some n → x < run_end r → r.value ≡ n
low_value r rs x n runs some under = elim (cases_lt x r.base) as (λ _. r.value ≡ n) [
  | inl lt ↦ absurd (none-some n (sym (at_below r rs x runs lt) ∙ some))
  | inr above ↦ same_Some r.value n (sym (at_inside r rs x above under) ∙ some)
]

-- if a gap reaches from the first run to an address above it, the next joined run has the same
-- node
next_value : (r : NumaBlock) (rs : List NumaBlock) (t : NumaBlock) (us : List NumaBlock) (x n : ℕ) → AreRuns (r ∷ rs)
    → IsFilledBy rs (t ∷ us)
    → (around : IsAround (value_at (r ∷ rs)) x n) → around.low < run_end r → run_end r ≤ x → t.value ≡ n
next_value r rs t us x n runs known around low_in from =
    let first : value_at rs t.base ≡ Some t.value = first_value rs t us known in
    let above : run_end r ≤ t.base = rest_after r rs t.base t.value runs first in
    let reached : value_at (t ∷ us) around.high ≡ Some n = known.complete around.high n (inl (high_given r rs x n around from)) in
    elim (cases_lt around.high t.base) as (λ _. t.value ≡ n) [
      | inl short ↦ absurd (none-some n (sym (at_below t us around.high known.runs short) ∙ reached))
      | inr long ↦ around.only t.base t.value (omega arith) long (at_after r rs t.base above ∙ first)
    ]

-- the three ways in which the whole list gives an address a node: by its first run, by the rest,
-- or by a gap that reaches from the first run to an address above
data Reached (r : NumaBlock) (rs : List NumaBlock) (x n : ℕ) : Type 0 where
  InFirst : r.base ≤ x → x < run_end r → r.value ≡ n → Reached r rs x n
  InRest : run_end r ≤ x → IsFilled (value_at rs) x n → Reached r rs x n
  Across : run_end r ≤ x → (around : IsAround (value_at (r ∷ rs)) x n) → around.low < run_end r → r.value ≡ n → Reached r rs x n

reached_by : (r : NumaBlock) (rs : List NumaBlock) (x n : ℕ) → AreRuns (r ∷ rs) → Place r x → IsFilled (value_at (r ∷ rs)) x n
    → Reached r rs x n
reached_by r rs x n runs (Below lt) (inl here) = absurd (none-some n (sym (at_below r rs x runs lt) ∙ here))
reached_by r rs x n runs (Below lt) (inr around) =
    absurd (none-some n (sym (at_below r rs around.low runs (omega (arith, around.under))) ∙ around.at_low))
reached_by r rs x n runs (Inside above under) (inl here) = InFirst above under (low_value r rs x n runs here under)
reached_by r rs x n runs (Inside above under) (inr around) =
    InFirst above under (around.only x r.value (omega (arith, around.under)) (omega (arith, around.over)) (at_inside r rs x above under))
reached_by r rs x n runs (Behind from) (inl here) = InRest from (inl (sym (at_after r rs x from) ∙ here))
reached_by r rs x n runs (Behind from) (inr around) = elim (cases_lt around.low (run_end r)) as (λ _. Reached r rs x n) [
  | inl in_run ↦ Across from around in_run (low_value r rs around.low n runs around.at_low in_run)
  | inr after_run ↦ InRest from (inr (lowered r rs x n around after_run))
]

-- the first run isn't joined with another if no gap reaches from it to an address above
alone_step : (r : NumaBlock) (rs ts : List NumaBlock) → AreRuns (r ∷ rs) → IsFilledBy rs ts → AreRuns (r ∷ ts)
    → ((x n : ℕ) (around : IsAround (value_at (r ∷ rs)) x n) → around.low < run_end r → run_end r ≤ x → r.value ≡ n → ⊥)
    → IsFilledBy (r ∷ rs) (r ∷ ts)
alone_step r rs ts runs known canonical none_across = record {
  runs = canonical;
  sound = λ x n some. elim (place r x) as (λ _. IsFilled (value_at (r ∷ rs)) x n) [
    | Below lt ↦ absurd (none-some n (sym (at_below r ts x canonical lt) ∙ some))
    | Inside in_run under ↦ inl (at_inside r rs x in_run under ∙ sym (at_inside r ts x in_run under) ∙ some)
    | Behind from ↦ lifted r rs x n runs (known.sound x n (sym (at_after r ts x from) ∙ some))
  ];
  complete = λ x n filling. elim (reached_by r rs x n runs (place r x) filling) as (λ _. value_at (r ∷ ts) x ≡ Some n) [
    | InFirst in_run under same ↦ at_inside r ts x in_run under ∙ ap (λ m. Some m) same
    | InRest from rest ↦ at_after r ts x from ∙ known.complete x n rest
    | Across from around low_in same ↦ absurd (none_across x n around low_in from same)
  ];
}

-- the first run isn't joined with another if the next joined run has another node
apart_step : (r : NumaBlock) (rs : List NumaBlock) (t : NumaBlock) (us : List NumaBlock) → AreRuns (r ∷ rs) → IsFilledBy rs (t ∷ us)
    → r.value ≢ t.value
    → IsFilledBy (r ∷ rs) (r ∷ (t ∷ us))
apart_step r rs t us runs known other =
    let above : run_end r ≤ t.base = rest_after r rs t.base t.value runs (first_value rs t us known) in
    alone_step r rs (t ∷ us) runs known (runs.0, (above, λ touch. other), known.runs)
    (λ x n around low_in from same. other (same ∙ sym (next_value r rs t us x n runs known around low_in from)))

-- the run from the start of one run to the end of the next joined run of the same node
abbrev spanning : NumaBlock → NumaBlock → NumaBlock
spanning r t = record { base = r.base; size = run_end t - r.base; value = r.value }

before_same : (r t : NumaBlock) (us : List NumaBlock) → r.base ≤ run_end t → r.value ≡ t.value → IsBefore t us → IsBefore (spanning r t) us
before_same r t [] order same before = tt
before_same r t (u ∷ us) order same before = (omega arith, λ touch equal. before.1 (omega arith) (sym same ∙ equal))

-- from the start of the next joined run on, the values are unchanged
span_same : (r t : NumaBlock) (us : List NumaBlock) (x : ℕ) → r.base ≤ t.base → r.value ≡ t.value → t.base ≤ x
    → value_at (spanning r t ∷ us) x ≡ value_at (t ∷ us) x
span_same r t us x order same from = elim (cases_lt x (run_end t)) as (λ _. value_at (spanning r t ∷ us) x ≡ value_at (t ∷ us) x) [
  | inl under ↦ at_inside (spanning r t) us x (omega arith) (omega arith) ∙ ap (λ m. Some m) same ∙ sym (at_inside t us x from under)
  | inr past ↦ at_after (spanning r t) us x (omega arith) ∙ sym (at_after t us x past)
]

-- each address between the first run and the next joined run of the same node is in a gap of that
-- node
gap_around : (r : NumaBlock) (rs : List NumaBlock) (t : NumaBlock) (us : List NumaBlock) (x : ℕ) → AreRuns (r ∷ rs) → IsFilledBy rs (t ∷ us)
    → r.value ≡ t.value → run_end r ≤ x → x < t.base → IsAround (value_at (r ∷ rs)) x r.value
gap_around r rs t us x runs known same from under =
    let first : value_at rs t.base ≡ Some t.value = first_value rs t us known in
    let some : 0 < r.size = runs.0 in
    record {
      low = r.base;
      high = t.base;
      under = omega arith;
      over = under;
      at_low = at_inside r rs r.base (omega arith) (omega arith);
      at_high = at_after r rs t.base (omega arith) ∙ first ∙ ap (λ m. Some m) (sym same);
      only = λ y m above below_high given. elim (cases_lt y (run_end r)) as (λ _. m ≡ r.value) [
        | inl in_run ↦ sym (low_value r rs y m runs given in_run)
        | inr past ↦
            let rest : value_at rs y ≡ Some m = sym (at_after r rs y past) ∙ given in
            let joined : value_at (t ∷ us) y ≡ Some m = known.complete y m (inl rest) in
            elim (cases_lt y t.base) as (λ _. m ≡ r.value) [
              | inl short ↦ absurd (none-some m (sym (at_below t us y known.runs short) ∙ joined))
              | inr long ↦
                  let here : t.base ≡ y = omega arith in
                  sym (same_Some t.value m (sym first ∙ ap (value_at rs) here ∙ rest)) ∙ sym same
            ]
      ];
    }

-- if a gap reaches from the first run past the start of the next joined run, the joined runs fill
-- it from that start on
across_rest : (r : NumaBlock) (rs : List NumaBlock) (t : NumaBlock) (us : List NumaBlock) (x n : ℕ) → AreRuns (r ∷ rs)
    → IsFilledBy rs (t ∷ us)
    → (around : IsAround (value_at (r ∷ rs)) x n) → around.low < run_end r → run_end r ≤ x → t.base ≤ x → value_at (t ∷ us) x ≡ Some n
across_rest r rs t us x n runs known around low_in from reach =
    let node : t.value ≡ n = next_value r rs t us x n runs known around low_in from in
    let first : value_at rs t.base ≡ Some t.value = first_value rs t us known in
    let above : run_end r ≤ t.base = rest_after r rs t.base t.value runs first in
    elim (cases_lt t.base x) as (λ _. value_at (t ∷ us) x ≡ Some n) [
      | inl past ↦ known.complete x n (inr (record {
        low = t.base;
        high = around.high;
        under = past;
        over = around.over;
        at_low = first ∙ ap (λ m. Some m) node;
        at_high = high_given r rs x n around from;
        only = λ y m from_low to_high some. around.only y m (omega arith) to_high (at_after r rs y (omega arith) ∙ some);
      }))
      | inr here ↦
          let at : t.base ≡ x = omega arith in
          known.complete x n (inl (ap (value_at rs) (sym at) ∙ first ∙ ap (λ m. Some m) node))
    ]

same_step : (r : NumaBlock) (rs : List NumaBlock) (t : NumaBlock) (us : List NumaBlock) → AreRuns (r ∷ rs) → IsFilledBy rs (t ∷ us)
    → r.value ≡ t.value
    → IsFilledBy (r ∷ rs) (spanning r t ∷ us)
same_step r rs t us runs known same =
    let above : run_end r ≤ t.base = rest_after r rs t.base t.value runs (first_value rs t us known) in
    let some : 0 < r.size = runs.0 in
    let order : r.base ≤ t.base = omega arith in
    let canonical : AreRuns (spanning r t ∷ us) =
    (omega (arith, known.runs.0), before_same r t us (omega arith) same known.runs.1, known.runs.2) in
    let span_in : (x : ℕ) → r.base ≤ x → x < t.base → value_at (spanning r t ∷ us) x ≡ Some r.value = λ x from under.
    at_inside (spanning r t) us x from (omega arith) in
    record {
      runs = canonical;
      sound = λ x n given. elim (place r x) as (λ _. IsFilled (value_at (r ∷ rs)) x n) [
        | Below lt ↦ absurd (none-some n (sym (at_below (spanning r t) us x canonical lt) ∙ given))
        | Inside in_run under ↦ inl (at_inside r rs x in_run under ∙ sym (span_in x in_run (omega arith)) ∙ given)
        | Behind from ↦ elim (cases_lt x t.base) as (λ _. IsFilled (value_at (r ∷ rs)) x n) [
          | inl short ↦
              let node : r.value ≡ n = same_Some r.value n (sym (span_in x (omega arith) short) ∙ given) in
              inr (subst (λ (m : ℕ). IsAround (value_at (r ∷ rs)) x m) node (gap_around r rs t us x runs known same from short))
          | inr long ↦ lifted r rs x n runs (known.sound x n (sym (span_same r t us x order same long) ∙ given))
        ]
      ];
      complete = λ x n filling. elim (reached_by r rs x n runs (place r x) filling) as (λ _. value_at (spanning r t ∷ us) x ≡ Some n) [
        | InFirst in_run under node ↦ span_in x in_run (omega arith) ∙ ap (λ m. Some m) node
        | InRest from rest ↦
            let joined : value_at (t ∷ us) x ≡ Some n = known.complete x n rest in
            elim (cases_lt x t.base) as (λ _. value_at (spanning r t ∷ us) x ≡ Some n) [
              | inl short ↦ absurd (none-some n (sym (at_below t us x known.runs short) ∙ joined))
              | inr long ↦ span_same r t us x order same long ∙ joined
            ]
        | Across from around low_in node ↦ elim (cases_lt x t.base) as (λ _. value_at (spanning r t ∷ us) x ≡ Some n) [
          | inl short ↦ span_in x (omega arith) short ∙ ap (λ m. Some m) node
          | inr long ↦ span_same r t us x order same long ∙ across_rest r rs t us x n runs known around low_in from long
        ]
      ];
    }

-- putting one more run before the joined runs, if there are any
prepend_joined_step : (r : NumaBlock) (rs ts : List NumaBlock) → AreRuns (r ∷ rs) → IsFilledBy rs ts
    → IsFilledBy (r ∷ rs) (prepend_joined r ts)
prepend_joined_step r rs [] runs known =
    alone_step r rs [] runs known (runs.0, tt, tt)
    (λ x n around low_in from same. none-some n (known.complete around.high n (inl (high_given r rs x n around from))))
prepend_joined_step r rs (t ∷ us) runs known =
    elim (cases_Bool (r.value == t.value)) as (λ _. IsFilledBy (r ∷ rs) (prepend_joined r (t ∷ us))) [
      | inl equal ↦ rw equal (same_step r rs t us runs known (grind (arith, nat_tests)))
      | inr differs ↦ rw differs (apart_step r rs t us runs known (grind (arith, nat_tests)))
    ]

-- the joined runs have the values of the runs, with the gaps filled
pub filled_by : (rs : List NumaBlock) → AreRuns rs → IsFilledBy rs (fill_gaps rs)
filled_by [] runs = record {
  runs = tt;
  sound = λ x n some. absurd (none-some n some);
  complete = λ x n filling. elim filling as (λ _. value_at {X = ℕ} [] x ≡ Some n) [ inl here ↦ here | inr around ↦ around.at_low ];
}
filled_by (r ∷ rs) runs = prepend_joined_step r rs (fill_gaps rs) runs (filled_by rs runs.2)
