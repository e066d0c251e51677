-- Values that agree are equal. An edit below an address leaves everything above it empty.
use Rattle.std.proofs.Common.{◌≡◌, ℕ, ◌+◌, ◌≤◌, Bool, true, false, Option, Some, None, refl, sym, ◌∙◌, ap, inl, inr, arith}
use Rattle.std.proofs.lemmas.Bool.Decides.{nat_tests}
use Rattle.std.proofs.lemmas.Bool.{cases_Bool}
use Rattle.bm_base.specs.Range.{RangeView, covers}
use Rattle.address_runs.specs.Runs.{DecidesEquality}
use Rattle.address_runs.specs.Edits.{cover_range, uncover_range, relabel_range, replace_in_range, agree, IsEmptyFrom}

-- an address at or above the end isn't in the range
pub not_covered : (r : RangeView) (x : ℕ) → r.base + r.size ≤ x → covers r x ≡ false
not_covered r x past = grind (arith, nat_tests)

module _ {X : Type 0} where
  -- `agree` is true exactly if the values are equal
  pub agree-yes : (same : X → X → Bool) → DecidesEquality same → (a b : Option X) → agree same a b ≡ true → a ≡ b
  agree-yes same tells None None h = refl
  agree-yes same tells None (Some b) h = cc
  agree-yes same tells (Some a) None h = cc
  agree-yes same tells (Some a) (Some b) h = ap (λ v. Some v) (tells.true_is_equal a b h)

  pub agree-self : (same : X → X → Bool) → DecidesEquality same → (a : Option X) → agree same a a ≡ true
  agree-self same tells None = refl
  agree-self same tells (Some a) = tells.equal_is_true a a refl

  pub agree-same : (same : X → X → Bool) → DecidesEquality same → (a b : Option X) → a ≡ b → agree same a b ≡ true
  agree-same same tells a b e = ap (λ o. agree same a o) (sym e) ∙ agree-self same tells a

  -- if no address at or above `at` carries anything, none does after an edit of a range that ends
  -- at or below `at`
  pub nothing-covered : (at : ℕ) (r : RangeView) (v : X) (f : ℕ → Option X) → r.base + r.size ≤ at → IsEmptyFrom at f
      → IsEmptyFrom at (cover_range r v f)
  nothing-covered at r v f ends none x le = let past : r.base + r.size ≤ x = omega arith in rw (not_covered r x past) (none x le)

  pub nothing-replaced : (at : ℕ) (r : RangeView) (v : X) (f : ℕ → Option X) → r.base + r.size ≤ at → IsEmptyFrom at f
      → IsEmptyFrom at (replace_in_range r v f)
  nothing-replaced at r v f ends none x le = let past : r.base + r.size ≤ x = omega arith in rw (not_covered r x past) (none x le)

  -- an edit that adds nothing to empty addresses leaves them empty, wherever its range ends
  pub nothing-uncovered : (at : ℕ) (r : RangeView) (f : ℕ → Option X) → IsEmptyFrom at f → IsEmptyFrom at (uncover_range r f)
  nothing-uncovered at r f none x le =
      elim (cases_Bool (covers r x)) as (λ _.
      uncover_range r f x ≡ None) [ inl inside ↦ rw inside refl | inr outside ↦ rw outside (none x le) ]

  pub nothing-relabelled : (at : ℕ) (r : RangeView) (change : X → X) (f : ℕ → Option X) → IsEmptyFrom at f
      → IsEmptyFrom at (relabel_range r change f)
  nothing-relabelled at r change f none x le =
      let here : f x ≡ None = none x le in
      elim (cases_Bool (covers r x)) as (λ _. relabel_range r change f x ≡ None)
      [ inl inside ↦ rw (inside, here) refl | inr outside ↦ rw outside here ]
