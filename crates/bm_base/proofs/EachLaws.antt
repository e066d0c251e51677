-- Whether each of several consecutive numbers, or each address of a range, passes a test.
use Rattle.std.proofs.Common.{◌≡◌, ℕ, zero, suc, ◌+◌, ◌<◌, ◌≤◌, Bool, true, false, refl, sym, ◌∙◌, subst, inl, inr, arith}
use Rattle.std.proofs.lemmas.Bool.{cases_Bool, cases_lt, false_from_ne_true, true≢false, and_from, and_parts}
use Rattle.bm_base.specs.Range.{RangeView}
use Rattle.bm_base.specs.Each.{each_from, each_in}

-- if each number passes, the test over all of them is true
pub each_from-all : (p : ℕ → Bool) (x n : ℕ) → ((y : ℕ) → x ≤ y → y < x + n → p y ≡ true) → each_from p x n ≡ true
unfolding each_from
each_from-all p x zero all = refl
each_from-all p x (suc n) all =
    and_from (p x) (each_from p (x + 1) n) (all x (omega arith) (omega arith))
    (each_from-all p (x + 1) n (λ y above below. all y (omega arith) (omega arith)))

-- if the test over all of them is true, each number passes
pub each_from-each : (p : ℕ → Bool) (x n : ℕ) → each_from p x n ≡ true → (y : ℕ) → x ≤ y → y < x + n → p y ≡ true
unfolding each_from
each_from-each p x zero h y above below = absurd (omega arith)
each_from-each p x (suc n) h y above below =
    elim (cases_lt x y) as (λ _. p y ≡ true) [
      | inl lt ↦ each_from-each p (x + 1) n (and_parts (p x) (each_from p (x + 1) n) h).1 y (omega arith) (omega arith)
      | inr ge ↦ let here : x ≡ y = omega arith in subst (λ (z : ℕ). p z ≡ true) here (and_parts (p x) (each_from p (x + 1) n) h).0
    ]

-- if the test over all of them is false, some number fails
pub record IsFailing (p : ℕ → Bool) (x n : ℕ) : Type 0 where
  pub at : ℕ
  pub above : x ≤ at
  pub below : at < x + n
  pub fails : p at ≡ false

pub failing_from : (p : ℕ → Bool) (x n : ℕ) → each_from p x n ≡ false → IsFailing p x n
unfolding each_from
failing_from p x zero not_all = absurd (cc not_all)
failing_from p x (suc n) not_all =
    elim (cases_Bool (p x)) as (λ _. IsFailing p x (suc n)) [
      | inl passes ↦
          (let rest : IsFailing p (x + 1) n = failing_from p (x + 1) n (rw passes at not_all) in
          let above = rest.above in
          let below = rest.below in
          record { at = rest.at; above = omega (arith, above); below = omega (arith, below); fails = rest.fails })
      | inr fails ↦ record { at = x; above = omega arith; below = omega arith; fails = fails }
    ]

pub failing_in : (r : RangeView) (p : ℕ → Bool) → each_in r p ≡ false → IsFailing p r.base r.size
unfolding each_in
failing_in r p not_all = failing_from p r.base r.size not_all

pub each_in-all : (r : RangeView) (p : ℕ → Bool) → ((y : ℕ) → r.base ≤ y → y < r.base + r.size → p y ≡ true) → each_in r p ≡ true
unfolding each_in
each_in-all r p all = each_from-all p r.base r.size all

pub each_in-each : (r : RangeView) (p : ℕ → Bool) → each_in r p ≡ true → (y : ℕ) → r.base ≤ y → y < r.base + r.size → p y ≡ true
unfolding each_in
each_in-each r p h = each_from-each p r.base r.size h

-- one address that fails makes the test over the range false
pub each_in-fails : (r : RangeView) (p : ℕ → Bool) (y : ℕ) → r.base ≤ y → y < r.base + r.size → p y ≡ false → each_in r p ≡ false
each_in-fails r p y above below fails =
    false_from_ne_true (each_in r p) (λ holds. true≢false (sym (each_in-each r p holds y above below) ∙ fails))

-- tests that agree at each number agree over all of them
pub each_from-same : (p q : ℕ → Bool) (x n : ℕ) → ((y : ℕ) → x ≤ y → y < x + n → p y ≡ q y) → each_from p x n ≡ each_from q x n
unfolding each_from
each_from-same p q x zero same = refl
each_from-same p q x (suc n) same =
    let here : p x ≡ q x = same x (omega arith) (omega arith) in
    let rest : each_from p (x + 1) n ≡ each_from q (x + 1) n =
    each_from-same p q (x + 1) n (λ y above below. same y (omega arith) (omega arith)) in
    rw (here, rest) refl

pub each_in-same : (r : RangeView) (p q : ℕ → Bool) → ((y : ℕ) → r.base ≤ y → y < r.base + r.size → p y ≡ q y) → each_in r p ≡ each_in r q
unfolding each_in
each_in-same r p q same = each_from-same p q r.base r.size same
