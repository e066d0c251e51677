-- How two calls in turn end.
use Rattle.std.proofs.Common.{◌≡◌, ℕ, ◌+◌, ◌<◌, Bool, true, false, Option, Some, None, List, [], ◌∷◌, ◌++◌, length, take, Result, Ok, Err, refl, sym, ◌∙◌, ap, subst, append_assoc, arith}
use Rattle.std.proofs.lemmas.List.{append-nil, length-append, take-append-le}
use Rattle.std.proofs.Math.Seq.{take-append-add}
use Rattle.memblock_model.specs.declared.owner.Which.{Which}
use Rattle.memblock_model.specs.declared.item.Item.{Item}
use Rattle.growth_model.specs.declared.refusal.Refusal.{Refusal}
use Rattle.growth_model.specs.declared.refusal.Refusal.TheVariants as refusal
use Rattle.growth_model.specs.Change.{RefusedGrowth, ChangeEffect, Change, items_of_steps, items_after_change, no_change, write_items, refuse_growth, followed_by, ◌>>◌, if_due}
use Rattle.growth_model.specs.Ends.{WritesFirstSteps, StopsBeforeStep, EndsAsEffect, EndsAsChange}

pub items_of_steps-append : (a b : List (List Item)) → items_of_steps (a ++ b) ≡ items_of_steps a ++ items_of_steps b
items_of_steps-append [] b = refl
items_of_steps-append (s ∷ ss) b =
    ap (λ (t : List Item). s ++ t) (items_of_steps-append ss b) ∙ sym (append_assoc s (items_of_steps ss) (items_of_steps b))

-- the steps of two changes, one after the other
abbrev pub both_steps : ChangeEffect → ChangeEffect → ChangeEffect
both_steps o p = record { steps = o.steps ++ p.steps; refused = p.refused }

pub items_after_change-both : (items : List Item) (o p : ChangeEffect)
    → items_after_change (items_after_change items o) p ≡ items_after_change items (both_steps o p)
items_after_change-both items o p = append_assoc items (items_of_steps o.steps) (items_of_steps p.steps)
    ∙ ap (λ (t : List Item). items ++ t) (sym (items_of_steps-append o.steps p.steps))

-- some of the steps, with one missing, are some of the steps
pub cut-short : (old new : List Item) (steps : List (List Item)) → StopsBeforeStep old new steps → WritesFirstSteps old new steps
cut-short old new steps cut =
    let short : cut.count < length steps = cut.short in
    record { count = cut.count; within = omega (arith, short); stands = cut.stands }

-- some steps of the first change are some steps of both; all of the first and some of the second
-- are too
pub cut-first : (old new : List Item) (a b : List (List Item)) → StopsBeforeStep old new a → StopsBeforeStep old new (a ++ b)
cut-first old new a b cut =
    let short : cut.count < length a = cut.short in
    record {
      count = cut.count;
      short = omega (arith, length-append a b, short);
      stands = cut.stands
          ∙ ap (λ (t : List (List Item)). old ++ items_of_steps t) (sym (take-append-le cut.count a b (omega (arith, short))));
    }

pub cut-second : (old new : List Item) (a b : List (List Item)) → StopsBeforeStep (old ++ items_of_steps a) new b
    → StopsBeforeStep old new (a ++ b)
cut-second old new a b cut =
    let short : cut.count < length b = cut.short in
    record {
      count = length a + cut.count;
      short = omega (arith, length-append a b, short);
      stands = cut.stands ∙ append_assoc old (items_of_steps a) (items_of_steps (take cut.count b))
          ∙ ap (λ (t : List Item). old ++ t) (sym (items_of_steps-append a (take cut.count b)))
          ∙ ap (λ (t : List (List Item)). old ++ items_of_steps t) (sym (take-append-add a b cut.count));
    }

second_by : {U : Type 0} (r : Result U Refusal) (old new : List Item) (o p : ChangeEffect) → EndsAsEffect r (items_after_change old o) new p
    → EndsAsEffect r old new (both_steps o p)
second_by (Ok x) old new o p h = (h.0, h.1 ∙ items_after_change-both old o p)
second_by (Err refusal.NoGap) old new o p h = h
second_by (Err (refusal.NoGapForTable w room)) old new o p h = (h.0, h.1 ∙ items_after_change-both old o p)
second_by (Err refusal.Memory) old new o p h = cut-second old new o.steps p.steps h

-- if the first change wasn't refused, the second followed
pub followed : (first second : Change) (items : List Item) → (first items).refused ≡ None
    → (first >> second) items ≡ both_steps (first items) (second (items_after_change items (first items)))
followed first second items unrefused = rw unrefused refl

pub EndsAsChange-second : {T U : Type 0} (x : T) (r : Result U Refusal) (old mid new : List Item) (first second : Change)
    → EndsAsChange (Ok x) old mid first → EndsAsChange r mid new second → EndsAsChange r old new (first >> second)
EndsAsChange-second x r old mid new first second was h =
    let there : EndsAsEffect r (items_after_change old (first old)) new (second (items_after_change old (first old))) = rw (sym was.1) h in
    rw (followed first second old was.0) (second_by r old new (first old) (second (items_after_change old (first old))) there)

first_by : (T U : Type 0) (e : Refusal) (old new : List Item) (o : ChangeEffect) (n : Option RefusedGrowth) (p : ChangeEffect)
    → o.refused ≡ n
    → EndsAsEffect {T = T} (Err e) old new o → EndsAsEffect {T = U} (Err e) old new (followed_by o n p)
first_by T U refusal.NoGap old new o n p is h = absurd h
first_by T U (refusal.NoGapForTable w room) old new o None p is h = let clash : None ≡ Some _ = sym is ∙ h.0 in cc
first_by T U (refusal.NoGapForTable w room) old new o (Some r) p is h = h
first_by T U refusal.Memory old new o None p is h = cut-first old new o.steps p.steps h
first_by T U refusal.Memory old new o (Some r) p is h = h

-- if the first change was refused, or ran out of memory, the second didn't follow
pub EndsAsChange-first : (T U : Type 0) (e : Refusal) (old new : List Item) (first second : Change)
    → EndsAsChange {T = T} (Err e) old new first
    → EndsAsChange {T = U} (Err e) old new (first >> second)
EndsAsChange-first T U e old new first second h = first_by T U e old new (first old) (first old).refused
    (second (items_after_change old (first old))) refl h

pub EndsAsChange-due : {T : Type 0} (r : Result T Refusal) (old new : List Item) (due : List Item → Bool) (change : Change) → due old ≡ true
    → EndsAsChange r old new change → EndsAsChange r old new (if_due due change)
EndsAsChange-due r old new due change is h = rw is h

pub EndsAsChange-nothing : {T : Type 0} (x : T) (items : List Item) → EndsAsChange (Ok x) items items no_change
EndsAsChange-nothing x items = (refl, sym (append-nil items))

pub EndsAsChange-idle : {T : Type 0} (x : T) (items : List Item) (due : List Item → Bool) (change : Change) → due items ≡ false
    → EndsAsChange (Ok x) items items (if_due due change)
EndsAsChange-idle x items due change is = rw is (EndsAsChange-nothing x items)

pub EndsAsChange-step : {T : Type 0} (x : T) (items written : List Item)
    → EndsAsChange (Ok x) items (items ++ written) (write_items written)
EndsAsChange-step x items written = (refl, ap (λ (t : List Item). items ++ t) (sym (append-nil written)))

pub EndsAsChange-refused : (T : Type 0) (w : Which) (room : ℕ) (items : List Item)
    → EndsAsChange {T = T} (Err (refusal.NoGapForTable w room)) items items (refuse_growth w room)
EndsAsChange-refused T w room items = (refl, sym (append-nil items))

-- out of memory before the first step of a change that has one
pub EndsAsChange-wanting : (T : Type 0) (items : List Item) (change : Change) → 0 < length (change items).steps
    → EndsAsChange {T = T} (Err refusal.Memory) items items change
EndsAsChange-wanting T items change some = record { count = 0; short = some; stands = sym (append-nil items) }

-- the end of a call whose result is known
pub EndsAsChange-along : {T : Type 0} (r s : Result T Refusal) (old new : List Item) (change : Change) → r ≡ s
    → EndsAsChange r old new change
    → EndsAsChange s old new change
EndsAsChange-along r s old new change is h = subst (λ (t : Result _ Refusal). EndsAsChange t old new change) is h

-- an error doesn't depend on the type of the result
pub EndsAsChange-error : (T U : Type 0) (e : Refusal) (old new : List Item) (change : Change) → EndsAsChange {T = T} (Err e) old new change
    → EndsAsChange {T = U} (Err e) old new change
EndsAsChange-error T U refusal.NoGap old new change h = h
EndsAsChange-error T U (refusal.NoGapForTable w room) old new change h = h
EndsAsChange-error T U refusal.Memory old new change h = h
