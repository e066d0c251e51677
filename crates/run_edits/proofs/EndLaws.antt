-- Sums over addresses, and runs counted by the addresses at which they end.
use Rattle.std.proofs.Common.{◌≡◌, ◌≢◌, ℕ, zero, suc, ◌+◌, ◌-◌, ◌^◌, ◌<◌, ◌≤◌, ◌==◌, Bool, false, Option, Some, None, List, [], ◌∷◌, length, refl, sym, ◌∙◌, ap, inl, inr, arith}
use Rattle.std.proofs.lemmas.Bool.Decides.{nat_tests}
use Rattle.std.proofs.lemmas.Bool.{cases_lt, cases_Bool}
use Rattle.address_runs.specs.Runs.{RunOf, DecidesEquality, run_end, lies_in, value_at, AreRuns}
use Rattle.address_runs.specs.Edits.{IsEmptyFrom}
use Rattle.address_runs.specs.Sweep.{StartAtOrPast, EndBy, FirstEndsPast, IsSweptTo, IsRestFrom}
use Rattle.address_runs.proofs.RunsLaws.{inside, past_end, none_below, another_value_at_run_end}
use Rattle.address_runs.proofs.SweepLaws.{none_after, after_none, rest_whole}
use Rattle.run_edits.specs.Ends.{total, run_ends_between, run_ends_at, one_right_below}

pub total-alike : (g h : ℕ → ℕ) (x n : ℕ) → ((y : ℕ) → x ≤ y → y < x + n → g y ≡ h y) → total g x n ≡ total h x n
unfolding total
total-alike g h x zero same = refl
total-alike g h x (suc n) same =
    rw (same x (omega arith) (omega arith), total-alike g h (x + 1) n (λ y above under. same y (omega arith) (omega arith))) refl

pub total-fewer : (g h : ℕ → ℕ) (x n : ℕ) → ((y : ℕ) → x ≤ y → y < x + n → g y ≤ h y) → total g x n ≤ total h x n
unfolding total
total-fewer g h x zero few = omega arith
total-fewer g h x (suc n) few =
    let rest = total-fewer g h (x + 1) n (λ y above under. few y (omega arith) (omega arith)) in
    omega (arith, few x (omega arith) (omega arith), rest)

pub total-quiet : (g : ℕ → ℕ) (x n : ℕ) → ((y : ℕ) → x ≤ y → y < x + n → g y ≡ 0) → total g x n ≡ 0
unfolding total
total-quiet g x zero none = refl
total-quiet g x (suc n) none =
    let rest = total-quiet g (x + 1) n (λ y above under. none y (omega arith) (omega arith)) in
    omega (arith, none x (omega arith) (omega arith), rest)

pub total-add : (g h : ℕ → ℕ) (x n : ℕ) → total (λ y. g y + h y) x n ≡ total g x n + total h x n
unfolding total
total-add g h x zero = refl
total-add g h x (suc n) = let rest = total-add g h (x + 1) n in omega (arith, rest)

-- the sum over m + n addresses is that over the first m and that over the last n
pub total-split : (g : ℕ → ℕ) (x m n all middle : ℕ) → all ≡ m + n → middle ≡ x + m → total g x all ≡ total g x m + total g middle n
unfolding total
total-split g x zero n all middle is at =
    let few : all ≡ n = omega arith in
    let here : x ≡ middle = omega arith in
    rw (few, here) (omega arith)
total-split g x (suc m) n all middle is at =
    let more : all ≡ suc (m + n) = omega arith in
    let whole : total g x all ≡ g x + total g (x + 1) (m + n) = ap (λ (k : ℕ). total g x k) more in
    let rest : total g (x + 1) (m + n) ≡ total g (x + 1) m + total g middle n = total-split g (x + 1) m n (m + n) middle refl
    (omega arith) in
    omega arith

pub total-next : (g : ℕ → ℕ) (x n : ℕ) → total g x (suc n) ≡ g x + total g (x + 1) n
unfolding total
total-next g x n = refl

-- the sum of `one_right_below` over any addresses is at most 1
pub spikes_few : (b x n : ℕ) → total (one_right_below b) x n ≤ 1
unfolding total
spikes_few b x zero = omega arith
spikes_few b x (suc n) =
    elim (cases_Bool (x + 1 == b)) as (λ _. total (one_right_below b) x (suc n) ≤ 1) [
      | inl here ↦
          let is : x + 1 ≡ b = grind (arith, nat_tests) in
          let rest : total (one_right_below b) (x + 1) n
          ≡ 0 = total-quiet (one_right_below b) (x + 1) n (λ y above under. let past : (y + 1 == b)
          ≡ false = grind (arith, nat_tests) in rw past refl) in
          rw (here, rest) (omega arith)
      | inr other ↦ rw other (let rest : total (one_right_below b) (x + 1) n ≤ 1 = spikes_few b (x + 1) n in omega arith)
    ]

-- no run ends between neighbours that carry the same; a run ends before a neighbour that carries
-- something else
pub run_ends_between-self : {X : Type 0} (same : X → X → Bool) → DecidesEquality same → (a : Option X) → run_ends_between same a a ≡ 0
run_ends_between-self same tells None = refl
run_ends_between-self same tells (Some a) = rw (tells.equal_is_true a a refl) refl

pub run_ends_between-few : {X : Type 0} (same : X → X → Bool) (a b : Option X) → run_ends_between same a b ≤ 1
run_ends_between-few same None b = omega arith
run_ends_between-few same (Some a) None = omega arith
run_ends_between-few same (Some a) (Some b) = elim (cases_Bool (same a b)) as (λ _. run_ends_between same (Some a) (Some b) ≤ 1)
    [ inl equal ↦ rw equal (omega arith) | inr not ↦ rw not (omega arith) ]

pub run_ends_between-other : {X : Type 0} (same : X → X → Bool) → DecidesEquality same → (v : X) (b : Option X) → b ≢ Some v
    → run_ends_between same (Some v) b ≡ 1
run_ends_between-other same tells v None other = refl
run_ends_between-other same tells v (Some w) other =
    elim (cases_Bool (same v w)) as (λ _. run_ends_between same (Some v) (Some w) ≡ 1) [
      | inl equal ↦ absurd (other (ap (λ u. Some u) (sym (tells.true_is_equal v w equal))))
      | inr not ↦ rw not refl
    ]

-- the runs after a run end above its end
pub after_run : {X : Type 0} (r : RunOf X) (rs : List (RunOf X)) → AreRuns (r ∷ rs) → FirstEndsPast (run_end r) rs
after_run r [] runs = tt
after_run r (s ∷ ss) runs = let order = runs.1.0 in let some = runs.2.0 in omega arith

-- no run ends at an address below the last one of the first run
no_end_inside_run : {X : Type 0} (same : X → X → Bool) → DecidesEquality same → (r : RunOf X) (rs : List (RunOf X)) (y : ℕ)
    → AreRuns (r ∷ rs)
    → y + 1 < run_end r
    → run_ends_at same (value_at (r ∷ rs)) y ≡ 0
no_end_inside_run same tells r rs y runs under =
    elim (cases_lt y r.base) as (λ _. run_ends_at same (value_at (r ∷ rs)) y ≡ 0) [
      | inl lt ↦ let starts : StartAtOrPast r.base (r ∷ rs) = omega arith in let none : value_at (r ∷ rs) y
          ≡ None = none_below r.base y (r ∷ rs) runs starts lt in rw none refl
      | inr ge ↦
          let here : value_at (r ∷ rs) y ≡ Some r.value = rw (inside r y (omega arith) (omega arith)) refl in
          let next : value_at (r ∷ rs) (y + 1) ≡ Some r.value = rw (inside r (y + 1) (omega arith) (omega arith)) refl in
          rw (here, next) (run_ends_between-self same tells (Some r.value))
    ]

-- the length of a canonical list is the number of addresses at which a run of it ends
pub length_ends : {X : Type 0} (same : X → X → Bool) → DecidesEquality same → (rs : List (RunOf X)) (x n : ℕ) → AreRuns rs
    → FirstEndsPast x rs
    → ((y : ℕ) → x + n ≤ y → value_at rs y ≡ None) → length rs ≡ total (run_ends_at same (value_at rs)) x n
length_ends same tells [] x n runs ends none = sym (total-quiet (run_ends_at same (value_at [])) x n (λ y above under. refl))
length_ends {X} same tells (r ∷ rs) x n runs ends none =
    let f : ℕ → Option X = value_at (r ∷ rs) in
    let e : ℕ = run_end r in
    let some : 0 < r.size = runs.0 in
    let after_x : x < e = ends in
    let last : f (e - 1) ≡ Some r.value = rw (inside r (e - 1) (omega arith) (omega arith)) refl in
    let tail : (y : ℕ) → e ≤ y → f y ≡ value_at rs y = λ y past. rw (past_end r y past) refl in
    let within : e ≤ x + n = elim (cases_lt (e - 1) (x + n)) as (λ _. e ≤ x + n) [
      | inl lt ↦ omega arith
      | inr ge ↦ let clash : Some r.value ≡ None = sym last ∙ none (e - 1) ge in cc
    ] in
    let first : ℕ = e - 1 - x in
    let rest : ℕ = x + n - e in
    let parts = total-split (run_ends_at same f) x first (suc rest) n (e - 1) (omega arith) (omega arith) in
    let quiet = total-quiet (run_ends_at same f) x first (λ y above under. no_end_inside_run same tells r rs y runs (omega arith)) in
    let next = total-next (run_ends_at same f) (e - 1) rest in
    let at_end : e - 1 + 1 ≡ e = omega arith in
    let other : f e ≢ Some r.value = λ h. another_value_at_run_end r rs runs (sym (tail e (omega arith)) ∙ h) in
    let one : run_ends_at same f (e - 1) ≡ 1 = rw (last, at_end) (run_ends_between-other same tells r.value (f e) other) in
    let alike = total-alike (run_ends_at same f) (run_ends_at same (value_at rs)) e rest
    (λ y above under. rw (tail y above, tail (y + 1) (omega arith)) refl) in
    let others = length_ends same tells rs e rest runs.2 (after_run r rs runs)
    (λ y far. sym (tail y (omega arith)) ∙ none y (omega arith)) in
    let moved : total (run_ends_at same f) (e - 1 + 1) rest
    ≡ total (run_ends_at same f) e rest = ap (λ (y : ℕ). total (run_ends_at same f) y rest) at_end in
    omega arith

-- in a list that is complete up to an address, a run that ends there has another value than the
-- address
last_other : {X : Type 0} (at y : ℕ) (v : Option X) (w : X) (rs : List (RunOf X)) → EndBy at v rs → y + 1 ≡ at → value_at rs y ≡ Some w
    → v ≢ Some w
last_other at y v w [] ends next is = cc
last_other at y v w (r ∷ rs) ends next is =
    elim (cases_Bool (lies_in r y)) as (λ _. v ≢ Some w) [
      | inl lies ↦
          let value : Some r.value ≡ Some w = rw lies at is in
          let under : y < run_end r = grind (arith, nat_tests, lies) in
          let touch : run_end r ≡ at = omega arith in
          λ same. ends.1 touch (same ∙ sym value)
      | inr not_here ↦ last_other at y v w rs ends.2 next (rw not_here at is)
    ]

edge_at_end : {X : Type 0} (same : X → X → Bool) → DecidesEquality same → (a b : Option X) → ((w : X) → a ≡ Some w → b ≢ Some w)
    → run_ends_between same a None
    ≡ run_ends_between same a b
edge_at_end same tells None b other = refl
edge_at_end same tells (Some a) b other = sym (run_ends_between-other same tells a b (other a refl))

-- a list that is complete up to an address has as many runs as end below that address
pub swept_ends : {X : Type 0} (same : X → X → Bool) → DecidesEquality same → (g : ℕ → Option X) (at : ℕ) (xs : List (RunOf X))
    → IsSweptTo g at xs
    → length xs ≡ total (run_ends_at same g) 0 at
swept_ends same tells g at xs swept =
    length_ends same tells xs 0 at swept.runs (after_none xs swept.runs) (λ y far. none_after at y (g at) xs swept.ends (omega arith))
    ∙ total-alike (run_ends_at same (value_at xs)) (run_ends_at same g) 0 at (λ y above under.
    let here : value_at xs y ≡ g y = swept.each y (omega arith) in
    elim (cases_lt (y + 1) at) as (λ _. run_ends_at same (value_at xs) y ≡ run_ends_at same g y) [
      | inl lt ↦ let next : value_at xs (y + 1) ≡ g (y + 1) = swept.each (y + 1) lt in rw (here, next) refl
      | inr ge ↦
          let end : y + 1 ≡ at = omega arith in
          let none : value_at xs (y + 1) ≡ None = none_after at (y + 1) (g at) xs swept.ends (omega arith) in
          let value : g (y + 1) ≡ g at = ap g end in
          rw (here, none, value) (edge_at_end same tells (g y) (g at) (λ w is. last_other at y (g at) w xs swept.ends end (here ∙ is)))
    ])

-- what remains of a list from an address on has as many runs as end at or above that address
pub rest_ends : {X : Type 0} (same : X → X → Bool) → DecidesEquality same → (f : ℕ → Option X) (at : ℕ) (rs : List (RunOf X))
    → IsRestFrom f at rs
    → IsEmptyFrom (2 ^ 64) f → at ≤ 2 ^ 64
    → length rs ≡ total (run_ends_at same f) at (2 ^ 64 - at)
rest_ends same tells f at rs rest none le =
    length_ends same tells rs at (2 ^ 64 - at) rest.runs rest.ends (λ y far. rest.each y (omega arith) ∙ none y (omega arith))
    ∙ total-alike (run_ends_at same (value_at rs)) (run_ends_at same f) at (2 ^ 64 - at) (λ y above under.
    let here : value_at rs y ≡ f y = rest.each y above in
    let next : value_at rs (y + 1) ≡ f (y + 1) = rest.each (y + 1) (omega arith) in
    rw (here, next) refl)

-- a whole list has as many runs as end at any address
pub all_ends : {X : Type 0} (same : X → X → Bool) → DecidesEquality same → (rs : List (RunOf X)) → AreRuns rs
    → IsEmptyFrom (2 ^ 64) (value_at rs)
    → length rs ≡ total (run_ends_at same (value_at rs)) 0 (2 ^ 64)
all_ends same tells rs runs none = rest_ends same tells (value_at rs) 0 rs (rest_whole rs runs) none (omega arith)
