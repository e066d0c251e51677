-- Canonical lists that agree at every address are equal, and `runs_of` returns a canonical list.
use Rattle.std.proofs.Common.{◌≡◌, ◌≢◌, ℕ, zero, suc, ◌+◌, ◌^◌, ◌<◌, ◌≤◌, ◌==◌, Bool, true, false, ◌&&◌, if◌then◌else◌, Option, Some, None, List, [], ◌∷◌, refl, sym, ◌∙◌, ap, inl, inr, arith}
use Rattle.std.proofs.lemmas.Bool.Decides.{nat_tests}
use Rattle.std.proofs.lemmas.Bool.{cases_lt, true≢false}
use Rattle.address_runs.specs.Runs.{RunOf, DecidesEquality, run_end, lies_in, value_at, IsBefore, AreRuns, IsRunsOf, one_address, prepend_address, runs_from, runs_of}
use Rattle.address_runs.specs.Sweep.{StartAtOrPast}
use Rattle.address_runs.specs.Ascend.{Ascend}

-- an address at or above the base and below the end lies in the run
pub inside : {X : Type 0} (r : RunOf X) (x : ℕ) → r.base ≤ x → x < r.base + r.size → lies_in r x ≡ true
inside r x above below = grind (arith, nat_tests)

pub below : {X : Type 0} (r : RunOf X) (x : ℕ) → x < r.base → lies_in r x ≡ false
below r x h = grind (arith, nat_tests)

pub past_end : {X : Type 0} (r : RunOf X) (x : ℕ) → r.base + r.size ≤ x → lies_in r x ≡ false
past_end r x h = grind (arith, nat_tests)

-- no address below the first run has a value
pub none_below : {X : Type 0} (at x : ℕ) (rs : List (RunOf X)) → AreRuns rs → StartAtOrPast at rs → x < at → value_at rs x ≡ None
none_below at x [] runs start h = refl
none_below at x (r ∷ []) runs start h = let lt : x < r.base = omega arith in rw (below r x lt) refl
none_below at x (r ∷ (s ∷ ss)) runs start h =
    let lt : x < r.base = omega arith in
    let from : r.base ≤ s.base = omega arith in
    rw (below r x lt) (none_below r.base x (s ∷ ss) runs.2 from lt)

-- every list of runs begins at or above address 0
pub start_zero : {X : Type 0} (rs : List (RunOf X)) → StartAtOrPast 0 rs
start_zero [] = tt
start_zero (r ∷ rs) = omega arith

-- the runs after the first one begin at or above its end
pub rest_from : {X : Type 0} (r : RunOf X) (rs : List (RunOf X)) → AreRuns (r ∷ rs) → StartAtOrPast (run_end r) rs
rest_from r [] runs = tt
rest_from r (s ∷ ss) runs = runs.1.0

-- a canonical list of runs ascends
pub runs_ascend : {X : Type 0} (rs : List (RunOf X)) → AreRuns rs → Ascend rs
runs_ascend [] runs = tt
runs_ascend (r ∷ rs) runs = (runs.0, rest_from r rs runs, runs_ascend rs runs.2)

-- the address at the end of a run has another value than the run, or none
pub another_value_at_run_end : {X : Type 0} (r : RunOf X) (rs : List (RunOf X)) → AreRuns (r ∷ rs) → value_at rs (run_end r) ≢ Some r.value
another_value_at_run_end r [] runs = λ same. cc
another_value_at_run_end r (s ∷ ss) runs =
    let starts : StartAtOrPast s.base (s ∷ ss) = omega arith in
    elim (cases_lt (run_end r) s.base) as (λ _. value_at (s ∷ ss) (run_end r) ≢ Some r.value) [
      | inl lt ↦ rw (none_below s.base (run_end r) (s ∷ ss) runs.2 starts lt) (λ same. cc)
      | inr ge ↦
          let touch : run_end r ≡ s.base = omega arith in
          rw (inside s (run_end r) (omega arith) (omega arith)) (λ same. let equal : r.value ≡ s.value = cc in runs.1.1 touch equal)
    ]

-- the address at the base of the first run has its value
value_first : {X : Type 0} (r : RunOf X) (rs : List (RunOf X)) → 0 < r.size → value_at (r ∷ rs) r.base ≡ Some r.value
value_first r rs some = rw (inside r r.base (omega arith) (omega arith)) refl

value_inside : {X : Type 0} (r : RunOf X) (rs : List (RunOf X)) (x : ℕ) → r.base ≤ x → x < run_end r → value_at (r ∷ rs) x ≡ Some r.value
value_inside r rs x above below_end = rw (inside r x above below_end) refl

value_after : {X : Type 0} (r : RunOf X) (rs : List (RunOf X)) (x : ℕ) → run_end r ≤ x → value_at (r ∷ rs) x ≡ value_at rs x
value_after r rs x h = rw (past_end r x h) refl

-- if two lists agree at every address, neither begins below the other
no_earlier : {X : Type 0} (r s : RunOf X) (rs ss : List (RunOf X)) → AreRuns (r ∷ rs) → AreRuns (s ∷ ss)
    → ((x : ℕ) → value_at (r ∷ rs) x ≡ value_at (s ∷ ss) x) → s.base ≤ r.base
no_earlier r s rs ss rr ra same =
    elim (cases_lt r.base s.base) as (λ _. s.base ≤ r.base) [
      | inl lt ↦
          let none : value_at (s ∷ ss) r.base ≡ None = none_below s.base r.base (s ∷ ss) ra (omega arith) lt in
          absurd (cc (sym (value_first r rs rr.0) ∙ same r.base ∙ none))
      | inr ge ↦ ge
    ]

-- if two lists agree at every address, neither's first run ends below that of the other
no_shorter : {X : Type 0} (r s : RunOf X) (rs ss : List (RunOf X)) → AreRuns (r ∷ rs) → AreRuns (s ∷ ss)
    → ((x : ℕ) → value_at (r ∷ rs) x ≡ value_at (s ∷ ss) x) → r.base ≡ s.base → r.value ≡ s.value → run_end s ≤ run_end r
no_shorter r s rs ss rr ra same bases values =
    elim (cases_lt (run_end r) (run_end s)) as (λ _. run_end s ≤ run_end r) [
      | inl lt ↦
          let last : value_at (r ∷ rs) (run_end r) ≡ value_at rs (run_end r) = value_after r rs (run_end r) (omega arith) in
          let still : value_at (s ∷ ss) (run_end r) ≡ Some s.value = value_inside s ss (run_end r) (omega arith) lt in
          absurd (another_value_at_run_end r rs rr (sym last ∙ same (run_end r) ∙ still ∙ ap (λ v. Some v) (sym values)))
      | inr ge ↦ ge
    ]

same_run : {X : Type 0} (r s : RunOf X) → r.base ≡ s.base → r.size ≡ s.size → r.value ≡ s.value → r ≡ s
same_run r s bases sizes values =
    let same : s ≡ record { base = r.base; size = r.size; value = r.value } = rw (bases, sizes, values) refl in sym same

-- if two lists with the same first run agree at every address, they agree without it too
same_rest : {X : Type 0} (r : RunOf X) (rs ss : List (RunOf X)) → AreRuns (r ∷ rs) → AreRuns (r ∷ ss)
    → ((x : ℕ) → value_at (r ∷ rs) x ≡ value_at (r ∷ ss) x) → (x : ℕ) → value_at rs x ≡ value_at ss x
same_rest r rs ss rr ra same x =
    elim (cases_lt x (run_end r)) as (λ _. value_at rs x ≡ value_at ss x) [
      | inl lt ↦ none_below (run_end r) x rs rr.2 (rest_from r rs rr) lt ∙ sym (none_below (run_end r) x ss ra.2 (rest_from r ss ra) lt)
      | inr ge ↦ sym (value_after r rs x ge) ∙ same x ∙ value_after r ss x ge
    ]

same_lists : {X : Type 0} (rs ss : List (RunOf X)) → AreRuns rs → AreRuns ss → ((x : ℕ) → value_at rs x ≡ value_at ss x) → rs ≡ ss
same_lists [] [] rr ra same = refl
same_lists [] (s ∷ ss) rr ra same = absurd (cc (same s.base ∙ value_first s ss ra.0))
same_lists (r ∷ rs) [] rr ra same = absurd (cc (sym (value_first r rs rr.0) ∙ same r.base))
same_lists {X} (r ∷ rs) (s ∷ ss) rr ra same =
    let back : (x : ℕ) → value_at (s ∷ ss) x ≡ value_at (r ∷ rs) x = λ x. sym (same x) in
    let one : s.base ≤ r.base = no_earlier r s rs ss rr ra same in
    let two : r.base ≤ s.base = no_earlier s r ss rs ra rr back in
    let bases : r.base ≡ s.base = omega arith in
    let values : r.value ≡ s.value = cc (value_first r rs rr.0, value_first s ss ra.0, same r.base, bases) in
    let ends : run_end s ≤ run_end r = no_shorter r s rs ss rr ra same bases values in
    let ends_too : run_end r ≤ run_end s = no_shorter s r ss rs ra rr back (sym bases) (sym values) in
    let sizes : r.size ≡ s.size = omega arith in
    let heads : s ≡ r = sym (same_run r s bases sizes values) in
    let equal : (x : ℕ) → value_at (r ∷ rs) x ≡ value_at (r ∷ ss) x = λ x. same x ∙ ap (λ (t : RunOf X). value_at (t ∷ ss) x) heads in
    rw heads (ap (λ ts. r ∷ ts) (same_lists rs ss rr.2 ra.2 (same_rest r rs ss rr (rw heads at ra) equal)))

-- a function has at most one list of runs
pub runs_of_function_are_equal : {X : Type 0} (f : ℕ → Option X) (rs ss : List (RunOf X)) → IsRunsOf f rs → IsRunsOf f ss → rs ≡ ss
runs_of_function_are_equal f rs ss rr ra = same_lists rs ss rr.runs ra.runs (λ x. rr.each x ∙ sym (ra.each x))

-- if the test of `prepend_address` is true, the addresses are equal and so are the values
touches : (same : Bool) (a b : ℕ) → ((a == b) && same) ≡ true → (a ≡ b) × (same ≡ true)
touches same a b h = grind (arith, nat_tests)

touches_not : (same : Bool) (a b : ℕ) → ((a == b) && same) ≡ false → a ≡ b → same ≡ false
touches_not same a b h e = grind (arith, nat_tests)

-- the first run still comes before the next one after it has grown downwards
before_longer : {X : Type 0} (x n : ℕ) (v : X) (r : RunOf X) (rs : List (RunOf X)) → x + n ≡ run_end r → v ≡ r.value → IsBefore r rs
    → IsBefore (record { base = x; size = n; value = v }) rs
before_longer x n v r [] ends values before = tt
before_longer x n v r (s ∷ ss) ends values before =
    (omega arith, λ touch equal. let at : run_end r ≡ s.base = omega arith in before.1 at (cc (values, equal)))

-- putting an address and its value before a canonical list makes a canonical list
AreRuns-prepend_address_some : {X : Type 0} (same : X → X → Bool) → DecidesEquality same
    → (x : ℕ) (v : X) (r : RunOf X) (rs : List (RunOf X))
    → AreRuns (r ∷ rs) → x + 1 ≤ r.base → AreRuns (prepend_address same x (Some v) (r ∷ rs))
AreRuns-prepend_address_some same tells x v r rs runs start = by_test ((r.base == x + 1) && same v r.value) refl
  where
    by_test : (t : Bool) → ((r.base == x + 1) && same v r.value) ≡ t
        → AreRuns (if t then record { base = x; size = r.size + 1; value = v } ∷ rs else one_address x v ∷ (r ∷ rs))
    by_test true holds =
        let both = touches (same v r.value) r.base (x + 1) holds in
        let ends : x + (r.size + 1) ≡ run_end r = omega (arith, both.0) in
        (omega arith, before_longer x (r.size + 1) v r rs ends (tells.true_is_equal v r.value both.1) runs.1, runs.2)
    by_test false fails =
        let other : x + 1 ≡ r.base → v ≢ r.value =
        λ touch equal. true≢false (sym (tells.equal_is_true v r.value equal)
        ∙ touches_not (same v r.value) r.base (x + 1) fails (sym touch)) in
        (omega arith, (start, other), runs)

AreRuns-prepend_address : {X : Type 0} (same : X → X → Bool) → DecidesEquality same → (x : ℕ) (v : Option X) (rs : List (RunOf X))
    → AreRuns rs → StartAtOrPast (x + 1) rs → AreRuns (prepend_address same x v rs)
AreRuns-prepend_address same tells x None rs runs start = runs
AreRuns-prepend_address same tells x (Some v) [] runs start = (omega arith, tt, tt)
AreRuns-prepend_address same tells x (Some v) (r ∷ rs) runs start = AreRuns-prepend_address_some same tells x v r rs runs start

StartAtOrPast-prepend_address : {X : Type 0} (same : X → X → Bool) (x : ℕ) (v : Option X) (rs : List (RunOf X)) → StartAtOrPast (x + 1) rs
    → StartAtOrPast x (prepend_address same x v rs)
StartAtOrPast-prepend_address same x None [] start = tt
StartAtOrPast-prepend_address same x None (r ∷ rs) start = omega arith
StartAtOrPast-prepend_address same x (Some v) [] start = omega arith
StartAtOrPast-prepend_address same x (Some v) (r ∷ rs) start = by_test ((r.base == x + 1) && same v r.value)
  where
    by_test : (t : Bool)
        → StartAtOrPast x (if t then record { base = x; size = r.size + 1; value = v } ∷ rs else one_address x v ∷ (r ∷ rs))
    by_test true = omega arith
    by_test false = omega arith

-- after `prepend_address` the list gives the new value at the new address, and its old values
-- elsewhere
value_at-prepend_address : {X : Type 0} (same : X → X → Bool) → DecidesEquality same → (x : ℕ) (v : Option X) (rs : List (RunOf X)) (y : ℕ)
    → AreRuns rs → StartAtOrPast (x + 1) rs → value_at (prepend_address same x v rs) y ≡ (if y == x then v else value_at rs y)
value_at-prepend_address same tells x None rs y runs start =
    elim (cases_lt x y) as (λ _. value_at rs y ≡ (if y == x then None else value_at rs y)) [
      | inl lt ↦ let not_here : (y == x) ≡ false = grind (arith, nat_tests) in rw not_here refl
      | inr ge ↦ let lt : y < x + 1 = omega arith in rw (none_below (x + 1) y rs runs start lt) (grind (arith, nat_tests))
    ]
value_at-prepend_address same tells x (Some v) [] y runs start = grind (arith, nat_tests)
value_at-prepend_address same tells x (Some v) (r ∷ rs) y runs start = by_test ((r.base == x + 1) && same v r.value) refl
  where
    by_test : (t : Bool) → ((r.base == x + 1) && same v r.value) ≡ t
        → value_at (if t then record { base = x; size = r.size + 1; value = v } ∷ rs else one_address x v ∷ (r ∷ rs)) y
        ≡ (if y == x then Some v else value_at (r ∷ rs) y)
    by_test true holds =
        let both = touches (same v r.value) r.base (x + 1) holds in
        let equal : v ≡ r.value = tells.true_is_equal v r.value both.1 in
        let at_base : r.base ≡ x + 1 = both.0 in
        grind (arith, nat_tests, equal, at_base)
    by_test false fails = grind (arith, nat_tests)

-- the list has the function's runs among the n addresses that begin with x
pub record IsRunsBetween {X : Type 0} (f : ℕ → Option X) (x n : ℕ) (rs : List (RunOf X)) : Type 0 where
  pub runs : AreRuns rs
  pub start : StartAtOrPast x rs
  pub within : (y : ℕ) → x ≤ y → y < x + n → value_at rs y ≡ f y
  pub past : (y : ℕ) → x + n ≤ y → value_at rs y ≡ None

IsRunsBetween-prepend_address : {X : Type 0} (same : X → X → Bool) → DecidesEquality same
    → (f : ℕ → Option X) (x n : ℕ) (rs : List (RunOf X))
    → IsRunsBetween f (x + 1) n rs → IsRunsBetween f x (suc n) (prepend_address same x (f x) rs)
IsRunsBetween-prepend_address {X} same tells f x n rs known = record {
  runs = AreRuns-prepend_address same tells x (f x) rs known.runs known.start;
  start = StartAtOrPast-prepend_address same x (f x) rs known.start;
  within = λ y above below_end.
      value_at-prepend_address same tells x (f x) rs y known.runs known.start ∙ (
      elim (cases_lt x y) as (λ _. (if y == x then f x else value_at rs y) ≡ f y) [
        | inl lt ↦ let not_here : (y == x) ≡ false = grind (arith, nat_tests) in rw not_here (known.within y (omega arith) (omega arith))
        | inr ge ↦ let here : y ≡ x = omega arith in let is : (y == x) ≡ true = grind (arith, nat_tests) in rw is (ap f (sym here))
      ]);
  past = λ y after_end.
      let not_here : (y == x) ≡ false = grind (arith, nat_tests) in
      value_at-prepend_address same tells x (f x) rs y known.runs known.start ∙ rw not_here (known.past y (omega arith));
}

-- the runs below 2^64 are all runs of a function that has no value at or above 2^64
all_runs : {X : Type 0} (f : ℕ → Option X) (rs : List (RunOf X)) → IsRunsBetween f 0 (2 ^ 64) rs → ((x : ℕ) → 2 ^ 64 ≤ x → f x ≡ None)
    → IsRunsOf f rs
all_runs f rs known none = record {
  runs = known.runs;
  each = λ x. elim (cases_lt x (2 ^ 64)) as (λ _. value_at rs x ≡ f x) [
    | inl lt ↦ known.within x (omega arith) (omega arith)
    | inr ge ↦ known.past x (omega arith) ∙ sym (none x ge)
  ];
}

-- `runs_from` returns the runs of the n addresses that begin with x
pub from_runs : {X : Type 0} (same : X → X → Bool) → DecidesEquality same → (f : ℕ → Option X) (n x : ℕ)
    → IsRunsBetween f x n (runs_from same f x n)
unfolding runs_from
from_runs same tells f zero x = record { runs = tt; start = tt; within = λ y above below_end. absurd (omega arith); past = λ y h. refl }
from_runs same tells f (suc n) x =
    IsRunsBetween-prepend_address same tells f x n (runs_from same f (x + 1) n) (from_runs same tells f n (x + 1))

-- `runs_of` returns the runs of a function that has no value at or above 2^64
pub runs_of_are_runs : {X : Type 0} (same : X → X → Bool) → DecidesEquality same → (f : ℕ → Option X) → ((x : ℕ) → 2 ^ 64 ≤ x → f x ≡ None)
    → IsRunsOf f (runs_of same f)
unfolding runs_of
runs_of_are_runs same tells f none = all_runs f (runs_from same f 0 (2 ^ 64)) (from_runs same tells f (2 ^ 64) 0) none

-- every list of a function's runs equals `runs_of` of the function
pub runs_equal_runs_of : {X : Type 0} (same : X → X → Bool) → DecidesEquality same → (f : ℕ → Option X) (rs : List (RunOf X))
    → ((x : ℕ) → 2 ^ 64 ≤ x → f x ≡ None) → IsRunsOf f rs → rs ≡ runs_of same f
runs_equal_runs_of same tells f rs none known = runs_of_function_are_equal f rs (runs_of same f) known (runs_of_are_runs same tells f none)
