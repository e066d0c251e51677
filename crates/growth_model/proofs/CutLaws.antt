-- What holds after every number of steps of a change holds wherever a call that makes the change
-- ends.
use Rattle.std.proofs.Common.{◌≡◌, ℕ, zero, suc, Bool, Option, Some, None, List, [], ◌∷◌, ◌++◌, take, Result, Ok, Err, refl, sym, ◌∙◌, ap, subst, append_assoc, inl, inr}
use Rattle.std.proofs.lemmas.Bool.{cases_Bool}
use Rattle.std.proofs.lemmas.List.{append-nil}
use Rattle.memblock_model.specs.declared.owner.Which.{Which}
use Rattle.memblock_model.specs.declared.item.Item.{Item}
use Rattle.growth_model.specs.declared.refusal.Refusal.{Refusal}
use Rattle.growth_model.specs.declared.refusal.Refusal.TheVariants as refusal
use Rattle.growth_model.specs.Change.{RefusedGrowth, ChangeEffect, Change, items_of_steps, items_after_change, followed_by, ◌>>◌, if_due}
use Rattle.growth_model.specs.Growth.{is_full, make_table_room}
use Rattle.growth_model.specs.Ends.{EndsAsEffect}
use Rattle.growth_model.proofs.EndLaws.{items_after_change-both, followed}

-- P holds of the items, and after each further step
abbrev pub EachCut : (List Item → Type 0) → List Item → List (List Item) → Type 0
EachCut P items [] = P items
EachCut P items (s ∷ ss) = P items × EachCut P (items ++ s) ss

pub cuts-first : (P : List Item → Type 0) (items : List Item) (ss : List (List Item)) → EachCut P items ss → P items
cuts-first P items [] h = h
cuts-first P items (s ∷ ss) h = h.0

-- what holds after every number of steps holds after the last step, and after some of them
pub cuts-last : (P : List Item → Type 0) (items : List Item) (ss : List (List Item)) → EachCut P items ss → P (items ++ items_of_steps ss)
cuts-last P items [] h = subst P (sym (append-nil items)) h
cuts-last P items (s ∷ ss) h = subst P (append_assoc items s (items_of_steps ss)) (cuts-last P (items ++ s) ss h.1)

pub cuts-take : (P : List Item → Type 0) (n : ℕ) (items : List Item) (ss : List (List Item)) → EachCut P items ss
    → P (items ++ items_of_steps (take n ss))
cuts-take P zero items ss h = subst P (sym (append-nil items)) (cuts-first P items ss h)
cuts-take P (suc n) items [] h = subst P (sym (append-nil items)) h
cuts-take P (suc n) items (s ∷ ss) h = subst P (append_assoc items s (items_of_steps (take n ss))) (cuts-take P n (items ++ s) ss h.1)

-- what holds after every number of steps holds however the call ends
pub cuts-ends : {T : Type 0} (P : List Item → Type 0) (r : Result T Refusal) (old new : List Item) (o : ChangeEffect)
    → EachCut P old o.steps → EndsAsEffect r old new o → P new
cuts-ends P (Ok x) old new o h ends = subst P (sym ends.1) (cuts-last P old o.steps h)
cuts-ends P (Err refusal.NoGap) old new o h ends = absurd ends
cuts-ends P (Err (refusal.NoGapForTable w room)) old new o h ends = subst P (sym ends.1) (cuts-last P old o.steps h)
cuts-ends P (Err refusal.Memory) old new o h ends = subst P (sym ends.stands) (cuts-take P ends.count old o.steps h)

pub cuts-append : (P : List Item → Type 0) (items : List Item) (a b : List (List Item)) → EachCut P items a
    → EachCut P (items ++ items_of_steps a) b → EachCut P items (a ++ b)
cuts-append P items [] b h k = subst (λ (t : List Item). EachCut P t b) (append-nil items) k
cuts-append P items (s ∷ ss) b h k = (
  h.0,
  cuts-append P (items ++ s) ss b h.1
      (subst (λ (t : List Item). EachCut P t b) (sym (append_assoc items s (items_of_steps ss))) k),
)

then_by : (P : List Item → Type 0) (items : List Item) (o : ChangeEffect) (n : Option RefusedGrowth) (p : ChangeEffect) → o.refused ≡ n
    → EachCut P items o.steps → (o.refused ≡ None → EachCut P (items_after_change items o) p.steps)
    → EachCut P items (followed_by o n p).steps
then_by P items o None p is h k = cuts-append P items o.steps p.steps h (k is)
then_by P items o (Some r) p is h k = h

pub cuts-then : (P : List Item → Type 0) (items : List Item) (first second : Change) → EachCut P items (first items).steps
    → ((first items).refused ≡ None
    → EachCut P (items_after_change items (first items)) (second (items_after_change items (first items))).steps)
    → EachCut P items ((first >> second) items).steps
cuts-then P items first second h k =
    then_by P items (first items) (first items).refused (second (items_after_change items (first items))) refl h k

pub cuts-due : (P : List Item → Type 0) (items : List Item) (due : List Item → Bool) (change : Change) → P items
    → EachCut P items (change items).steps → EachCut P items (if_due due change items).steps
cuts-due P items due change here h =
    elim (cases_Bool (due items)) as (λ _. EachCut P items (if_due due change items).steps)
    [ inl is ↦ rw is h | inr idle ↦ rw idle here ]

-- what each growth keeps holds throughout two of them
pub cuts-grown : (P : List Item → Type 0) (w : Which) (more : List Item → ℕ) (growth : Change) (items : List Item)
    → ((t : List Item) → P t → EachCut P t (growth t).steps) → P items → EachCut P items (make_table_room w more growth items).steps
cuts-grown P w more growth items keep here =
    let once : (t : List Item) → P t → EachCut P t (if_due (is_full w more) growth t).steps =
    λ t known. cuts-due P t (is_full w more) growth known (keep t known) in
    cuts-then P items (if_due (is_full w more) growth) (if_due (is_full w more) growth) (once items here)
    (λ _. once _ (cuts-last P items (if_due (is_full w more) growth items).steps (once items here)))

pub cuts-map : (P Q : List Item → Type 0) (items : List Item) (ss : List (List Item)) → ((t : List Item) → P t → Q t)
    → EachCut P items ss → EachCut Q items ss
cuts-map P Q items [] keep h = keep items h
cuts-map P Q items (s ∷ ss) keep h = (keep items h.0, cuts-map P Q (items ++ s) ss keep h.1)

-- the items after two changes, if the first wasn't refused
pub items_after_change-then : (items : List Item) (first second : Change) → (first items).refused ≡ None
    → items_after_change items ((first >> second) items)
    ≡ items_after_change (items_after_change items (first items)) (second (items_after_change items (first items)))
items_after_change-then items first second unrefused =
    ap (λ (o : ChangeEffect). items_after_change items o) (followed first second items unrefused)
    ∙ sym (items_after_change-both items (first items) (second (items_after_change items (first items))))

-- if two changes in turn weren't refused, neither was
refused_by : (o : ChangeEffect) (n : Option RefusedGrowth) (p : ChangeEffect) → o.refused ≡ n → (followed_by o n p).refused ≡ None
    → (o.refused ≡ None) × (p.refused ≡ None)
refused_by o None p is h = (is, h)
refused_by o (Some r) p is h = let clash : Some r ≡ None = sym is ∙ h in cc

pub then-unrefused : (items : List Item) (first second : Change) → ((first >> second) items).refused ≡ None
    → ((first items).refused ≡ None) × ((second (items_after_change items (first items))).refused ≡ None)
then-unrefused items first second h =
    refused_by (first items) (first items).refused (second (items_after_change items (first items))) refl h
