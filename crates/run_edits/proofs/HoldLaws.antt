-- All addresses of a range carry the value exactly if the first one carries it and nothing changes
-- before the end of the range.
use Rattle.std.proofs.Common.{◌≡◌, ℕ, ◌<◌, ◌≤◌, Option, Some, None, sym, ◌∙◌, inl, inr, arith}
use Rattle.std.proofs.lemmas.Bool.{cases_lt}
use Rattle.address_runs.specs.Sweep.{HasValueBetween}

module _ {X : Type 0} where
  pub holds_so_far : (f : ℕ → Option X) (base until next : ℕ) (v : X) → f base ≡ Some v → HasValueBetween f base next (f base)
      → until ≤ next
      → (x : ℕ) → base ≤ x → x < until → f x ≡ Some v
  holds_so_far f base until next v first stays far x above under = stays x above (omega arith) ∙ first

  pub holds_no_further : (f : ℕ → Option X) (base until next : ℕ) (v : X) → f base ≡ Some v → base ≤ next
      → (f next ≡ f base → f base ≡ None)
      → ((x : ℕ) → base ≤ x → x < until → f x ≡ Some v) → until ≤ next
  holds_no_further f base until next v first forward another each =
      elim (cases_lt next until) as (λ _. until ≤ next) [
        | inl lt ↦ let none : Some v ≡ None = sym first ∙ another (each next forward lt ∙ sym first) in cc
        | inr ge ↦ ge
      ]
