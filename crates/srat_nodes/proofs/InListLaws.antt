-- Members of a list, and the tests `list_any` and `list_all` over the list.
use Rattle.std.proofs.Common.{◌≡◌, Bool, true, ◌⊎◌, List, [], ◌∷◌, refl, sym, ◌∙◌, ap, inl, inr}
use Rattle.std.proofs.lemmas.Bool.{cases_Bool, and_parts, and_from, or_left, or_right, true≢false}
use Rattle.std.specs.List.{list_any, list_all}

module _ {X : Type 0} where
  -- the value is in the list
  abbrev pub IsIn : X → List X → Type 0
  IsIn x [] = ⊥
  IsIn x (y ∷ ys) = (x ≡ y) ⊎ IsIn x ys

  -- a member of the list that passes the test
  pub record Passes (p : X → Bool) (xs : List X) : Type 0 where
    pub one : X
    pub member : IsIn one xs
    pub passes : p one ≡ true

-- `list_any` is true exactly if some member passes
pub any_member : {X : Type 0} (p : X → Bool) (xs : List X) → list_any p xs ≡ true → Passes p xs
any_member p [] any = absurd (true≢false (sym any))
any_member p (x ∷ xs) any = elim (cases_Bool (p x)) as (λ _. Passes p (x ∷ xs)) [
  | inl here ↦ record { one = x; member = inl refl; passes = here }
  | inr not_here ↦
      let found : Passes p xs = any_member p xs (rw not_here at any) in
      record { one = found.one; member = inr found.member; passes = found.passes }
]

pub member_any : {X : Type 0} (p : X → Bool) (xs : List X) (x : X) → IsIn x xs → p x ≡ true → list_any p xs ≡ true
member_any p [] x member passes = absurd member
member_any p (y ∷ ys) x (inl here) passes = or_left (p y) _ (ap p (sym here) ∙ passes)
member_any p (y ∷ ys) x (inr later) passes = or_right (p y) _ (member_any p ys x later passes)

-- `list_all` is true exactly if each member passes
pub all_member : {X : Type 0} (p : X → Bool) (xs : List X) (x : X) → list_all p xs ≡ true → IsIn x xs → p x ≡ true
all_member p [] x all member = absurd member
all_member p (y ∷ ys) x all (inl here) = ap p here ∙ (and_parts (p y) (list_all p ys) all).0
all_member p (y ∷ ys) x all (inr later) = all_member p ys x (and_parts (p y) (list_all p ys) all).1 later

pub member_all : {X : Type 0} (p : X → Bool) (xs : List X) → ((x : X) → IsIn x xs → p x ≡ true) → list_all p xs ≡ true
member_all p [] each = refl
member_all p (y ∷ ys) each =
    and_from (p y) (list_all p ys) (each y (inl refl)) (member_all p ys (λ x member. each x (inr member)))
