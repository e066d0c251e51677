-- Lemmas on the rest of a text after a given front.
use Rattle.std.proofs.Common.{◌≡◌, ◌≢◌, ℕ, ◌==◌, List, [], ◌∷◌, ◌++◌, Option, Some, None, refl, sym, ap, ◌∙◌, eq-eqb, inl, inr}
use Rattle.std.specs.Option.{option_map, MatchOption}
use Rattle.std.proofs.Common.{Bor}
use Rattle.std.proofs.lemmas.Bool.{cases_Bool}
use Rattle.std.proofs.lemmas.Bool.Decides.{Decides-eqb}
use Rattle.audit_lines.specs.Fields.{rest_after}

-- if the text is `front` and a rest, `rest_after` finds the rest
pub after_front : (front rest : List ℕ) → rest_after front (front ++ rest) ≡ Some rest
unfolding rest_after
after_front [] rest = refl
after_front (f ∷ fs) rest = rw (eq-eqb f f refl) (after_front fs rest)

-- if `rest_after` finds a rest, the text is `front` followed by it
pub after_is : (front text rest : List ℕ) → rest_after front text ≡ Some rest → text ≡ front ++ rest
unfolding rest_after
after_is [] text rest is = cc
after_is (f ∷ fs) [] rest is = cc
after_is (f ∷ fs) (b ∷ bs) rest is =
    elim (cases_Bool (f == b)) as (λ _. (b ∷ bs) ≡ (f ∷ fs) ++ rest) [
      | inl same ↦
          let left : rest_after fs bs ≡ Some rest = rw same at is in
          let first : f ≡ b = (Decides-eqb f b).0 same in
          rw (after_is fs bs rest left, first) refl
      | inr other ↦ let none : ◌≡◌ {A = Option (List ℕ)} None (Some rest) = rw other at is in cc
    ]

none_after : (front text : List ℕ) (found : Option (List ℕ)) → rest_after front text ≡ found
    → ((rest : List ℕ) → text ≢ front ++ rest) → None ≡ found
none_after front text None is never = refl
none_after front text (Some rest) is never = absurd (never rest (after_is front text rest is))

-- what the code finds after removing `front` is what `rest_after` finds
pub stripped : (front text : List ℕ) (r : Option (Bor (List ℕ)))
    → MatchOption r ((rest : List ℕ) → text ≢ front ++ rest) (λ x. text ≡ front ++ x.now)
    → option_map (λ x. x.now) r ≡ rest_after front text
stripped front text None left = none_after front text (rest_after front text) refl left
stripped front text (Some x) left = sym (ap (rest_after front) left ∙ after_front front x.now)
