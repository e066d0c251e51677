-- The greatest and the least number that pass a test, and the searches that return them.
use Rattle.std.proofs.Common.{◌≡◌, ◌⊎◌, ℕ, zero, suc, ◌+◌, ◌%◌, ◌^◌, ◌<◌, ◌≤◌, ◌==◌, Bool, true, false, ◌&&◌, nat_le, is_some, is_none, if◌then◌else◌, Option, Some, None, refl, sym, ◌∙◌, ap, subst, inl, inr, arith}
use Rattle.std.proofs.lemmas.Bool.Decides.{nat_tests}
use Rattle.std.proofs.lemmas.Bool.{cases_Bool, cases_lt, true≢false, false_from_ne_true, and_from, and_parts}
use Rattle.std.proofs.lemmas.Option.{same_Some, cond_some}
use Rattle.std.specs.Option.{option_or}
use Rattle.memblock_model.specs.declared.query.Query.{Query}
use Rattle.bm_base.specs.Range.{RangeView}
use Rattle.address_runs.specs.Edits.{agree}
use Rattle.address_runs.proofs.EditLaws.{agree-yes, agree-same}
use Rattle.bm_base.specs.Each.{each_in}
use Rattle.memblock_model.specs.Labels.{LabelView, Labels, plain_label}
use Rattle.memblock_model.specs.Same.{same_label}
use Rattle.memblock_model.specs.declared.query.Mode.{Mode}
use Rattle.memblock_model.specs.Search.{last_below, first_below, outermost_below, is_allowed_node, is_allowed_mirror, fits_in, outermost_fit, best_place_in}
use Rattle.memblock_model.proofs.SameLaws.{same_label_decides_equality}
use Rattle.bm_base.proofs.EachLaws.{each_in-all, each_in-each}

-- `a` is the greatest number below n that passes
pub record IsLastBelow (p : ℕ → Bool) (n a : ℕ) : Type 0 where
  pub below : a < n
  pub passes : p a ≡ true
  pub last : (b : ℕ) → b < n → p b ≡ true → b ≤ a

-- the greatest number below n that passes is also the greatest below n + 1, if n doesn't pass
last_more : (p : ℕ → Bool) (n a : ℕ) → p n ≡ false → IsLastBelow p n a → IsLastBelow p (suc n) a
last_more p n a fails known = record {
  below = let lt = known.below in omega arith;
  passes = known.passes;
  last = λ b lt h. elim (cases_lt b n) as (λ _. b ≤ a) [
    | inl before ↦ known.last b before h
    | inr ge ↦ let here : b ≡ n = omega arith in absurd (true≢false (sym (subst (λ (k : ℕ). p k ≡ true) here h) ∙ fails))
  ];
}

-- what `last_below` returns is the greatest number below n that passes
pub last_below-is : (p : ℕ → Bool) (n a : ℕ) → last_below p n ≡ Some a → IsLastBelow p n a
unfolding last_below
last_below-is p zero a h = cc
last_below-is p (suc n) a h =
    elim (cases_Bool (p n)) as (λ _. IsLastBelow p (suc n) a) [
      | inl passes ↦ subst (λ (k : ℕ). IsLastBelow p (suc n) k) (same_Some n a (rw passes at h))
          (record { below = omega arith; passes = passes; last = λ b lt h. omega arith })
      | inr fails ↦ last_more p n a fails (last_below-is p n a (rw fails at h))
    ]

-- if `last_below` returns None, no number below n passes
pub last_below-none : (p : ℕ → Bool) (n : ℕ) → last_below p n ≡ None → (b : ℕ) → b < n → p b ≡ false
unfolding last_below
last_below-none p zero h b lt = absurd (omega arith)
last_below-none p (suc n) h b lt =
    elim (cases_Bool (p n)) as (λ _. p b ≡ false) [
      | inl passes ↦ let clash : Some n ≡ None = rw passes at h in cc
      | inr fails ↦ elim (cases_lt b n) as (λ _. p b ≡ false) [
        | inl before ↦ last_below-none p n (rw fails at h) b before
        | inr ge ↦ let here : n ≡ b = omega arith in subst (λ (k : ℕ). p k ≡ false) here fails
      ]
    ]

-- `last_below` returns the greatest number below n that passes
pub last_below-last : (p : ℕ → Bool) (n a : ℕ) → IsLastBelow p n a → last_below p n ≡ Some a
unfolding last_below
last_below-last p zero a known = absurd (let lt = known.below in omega arith)
last_below-last p (suc n) a known =
    elim (cases_Bool (p n)) as (λ _. last_below p (suc n) ≡ Some a) [
      | inl passes ↦
          let lt : a < suc n = known.below in
          let most : n ≤ a = known.last n (omega arith) passes in
          let here : n ≡ a = omega arith in
          rw passes (ap (λ (k : ℕ). Some k) here)
      | inr fails ↦
          let lt : a < suc n = known.below in
          let other : a ≡ n → p a ≡ false = λ e. subst (λ (k : ℕ). p k ≡ false) (sym e) fails in
          let before : a < n = elim (cases_lt a n) as (λ _. a < n) [
            | inl before ↦ before
            | inr ge ↦ absurd (true≢false (sym known.passes ∙ other (omega arith)))
          ] in
          rw fails (last_below-last p n a (record {
            below = before;
            passes = known.passes;
            last = λ b less h. known.last b (omega arith) h;
          }))
    ]

-- if no number below n passes, `last_below` returns None
pub last_below-fails : (p : ℕ → Bool) (n : ℕ) → ((b : ℕ) → b < n → p b ≡ false) → last_below p n ≡ None
unfolding last_below
last_below-fails p zero none = refl
last_below-fails p (suc n) none = let here : p n ≡ false = none n (omega arith) in
    rw here (last_below-fails p n (λ b lt. none b (omega arith)))

-- the conditions under which a query fits at an address, one by one
pub record IsPlace (mirror : Bool) (memory reserved : Labels) (q : Query) (a : ℕ) : Type 0 where
  pub aligned : a % q.align ≡ 0
  pub low : q.lo ≤ a
  pub first : 4096 ≤ a
  pub high : a + q.size ≤ q.hi
  pub held : is_some (memory a) ≡ true
  pub allowed : is_allowed_node q.node (memory a) ≡ true
  pub suited : is_allowed_mirror mirror (memory a) ≡ true
  pub label : (x : ℕ) → a ≤ x → x < a + q.size → memory x ≡ memory a
  pub free : (x : ℕ) → a ≤ x → x < a + q.size → reserved x ≡ None

no_label : (o : Option LabelView) → is_none o ≡ true → o ≡ None
no_label None h = refl
no_label (Some n) h = absurd (true≢false (sym h))

pub fits_in-parts : (mirror : Bool) (memory reserved : Labels) (q : Query) (a : ℕ) → fits_in mirror memory reserved q a ≡ true
    → IsPlace mirror memory reserved q a
unfolding fits_in
fits_in-parts mirror memory reserved q a h =
    let suited = and_parts _ _ h in
    let allowed = and_parts _ _ suited.0 in
    let held = and_parts _ _ allowed.0 in
    let high = and_parts _ _ held.0 in
    let bounds : ((a % q.align == 0) && nat_le q.lo a && nat_le 4096 a && nat_le (a + q.size) q.hi) ≡ true = high.0 in
    let place : RangeView = record { base = a; size = q.size } in
    let test : ℕ → Bool = λ x. agree same_label (memory x) (memory a) && is_none (reserved x) in
    let each : (x : ℕ) → a ≤ x → x < a + q.size → test x ≡ true = each_in-each place test suited.1 in
    record {
      aligned = grind (arith, nat_tests, bounds);
      low = grind (arith, nat_tests, bounds);
      first = grind (arith, nat_tests, bounds);
      high = grind (arith, nat_tests, bounds);
      held = high.1;
      allowed = held.1;
      suited = allowed.1;
      label =
          λ x above below. agree-yes same_label same_label_decides_equality (memory x) (memory a) (and_parts _ _ (each x above below)).0;
      free = λ x above below. no_label (reserved x) (and_parts _ _ (each x above below)).1;
    }

pub fits_in-whole : (mirror : Bool) (memory reserved : Labels) (q : Query) (a : ℕ) → IsPlace mirror memory reserved q a
    → fits_in mirror memory reserved q a ≡ true
unfolding fits_in
fits_in-whole mirror memory reserved q a known =
    let aligned = known.aligned in
    let low = known.low in
    let first = known.first in
    let high = known.high in
    let bounds : ((a % q.align == 0) && nat_le q.lo a && nat_le 4096 a && nat_le (a + q.size) q.hi) ≡ true =
    grind (arith, nat_tests, aligned, low, first, high) in
    let each : each_in (record { base = a; size = q.size }) (λ x. agree same_label (memory x) (memory a) && is_none (reserved x)) ≡ true =
    each_in-all _ _ (λ x above below. and_from _ _
    (agree-same same_label same_label_decides_equality (memory x) (memory a) (known.label x above below))
    (ap is_none (known.free x above below))) in
    and_from _ _ (and_from _ _ (and_from _ _ (and_from _ _ bounds known.held) known.allowed) known.suited) each

-- a query that fits in mirrored memory fits in any memory
fits_unmirrored : (mirror : Bool) (memory reserved : Labels) (q : Query) (a : ℕ) → fits_in mirror memory reserved q a ≡ true
    → fits_in false memory reserved q a ≡ true
fits_unmirrored mirror memory reserved q a h =
    let known = fits_in-parts mirror memory reserved q a h in
    fits_in-whole false memory reserved q a (record {
      aligned = known.aligned;
      low = known.low;
      first = known.first;
      high = known.high;
      held = known.held;
      allowed = known.allowed;
      suited = refl;
      label = known.label;
      free = known.free;
    })

-- a query that doesn't fit at an address in any memory doesn't fit there in mirrored memory
fits_in-unmirrored_fails : (mirror : Bool) (memory reserved : Labels) (q : Query) (a : ℕ) → fits_in false memory reserved q a ≡ false
    → fits_in mirror memory reserved q a ≡ false
fits_in-unmirrored_fails mirror memory reserved q a fails =
    false_from_ne_true _ (λ fits. true≢false (sym (fits_unmirrored mirror memory reserved q a fits) ∙ fails))

fits_in-mirror_fails : (mirror : Bool) (memory reserved : Labels) (q : Query) (a : ℕ) → is_allowed_mirror mirror (memory a) ≡ false
    → fits_in mirror memory reserved q a ≡ false
fits_in-mirror_fails mirror memory reserved q a fails =
    false_from_ne_true _ (λ fits. true≢false (sym (fits_in-parts mirror memory reserved q a fits).suited ∙ fails))

-- `option_or` is None only if both its arguments are
or_none : (a b : Option ℕ) → option_or a b ≡ None → a ≡ None
or_none None b h = refl
or_none (Some n) b h = cc

neither : (a b : Option ℕ) → option_or a b ≡ None → b ≡ None
neither None b h = h
neither (Some n) b h = cc

pub either : (a b : Option ℕ) (n : ℕ) → option_or a b ≡ Some n → (a ≡ Some n) ⊎ (b ≡ Some n)
either None b n h = inr h
either (Some m) b n h = inl h

last_fails : (b : Bool) (n : ℕ) → (if b then Some n else None) ≡ None → b ≡ false
last_fails true n h = cc
last_fails false n h = refl

-- `a` is the least number that passes, and is below n
pub record IsFirstBelow (p : ℕ → Bool) (n a : ℕ) : Type 0 where
  pub below : a < n
  pub passes : p a ≡ true
  pub first : (b : ℕ) → b < n → p b ≡ true → a ≤ b

-- if `first_below` returns None, no number below n passes
pub first_below-none : (p : ℕ → Bool) (n : ℕ) → first_below p n ≡ None → (b : ℕ) → b < n → p b ≡ false
unfolding first_below
first_below-none p zero h b lt = absurd (omega arith)
first_below-none p (suc n) h b lt =
    let before : first_below p n ≡ None = or_none (first_below p n) (if p n then Some n else None) h in
    elim (cases_lt b n) as (λ _. p b ≡ false) [
      | inl less ↦ first_below-none p n before b less
      | inr ge ↦ let here : n ≡ b = omega arith in subst (λ (k : ℕ). p k ≡ false) here (last_fails (p n) n (rw before at h))
    ]

-- one step of `first_below`: the result for the numbers below n, or else n if it passes
first_of : (p : ℕ → Bool) (n a : ℕ) (o : Option ℕ) → ((m : ℕ) → o ≡ Some m → IsFirstBelow p n m)
    → (o ≡ None → (b : ℕ) → b < n → p b ≡ false) → option_or o (if p n then Some n else None) ≡ Some a
    → IsFirstBelow p (suc n) a
first_of p n a (Some m) is none h =
    let here : m ≡ a = same_Some m a h in
    let known = is m refl in
    subst (λ (k : ℕ). IsFirstBelow p (suc n) k) here (record {
      below = let lt = known.below in omega arith;
      passes = known.passes;
      first = λ b lt passes. elim (cases_lt b n) as (λ _. m ≤ b) [
        | inl before ↦ known.first b before passes
        | inr ge ↦ let less = known.below in omega arith
      ];
    })
first_of p n a None is none h =
    let at_n = cond_some (p n) n a h in
    subst (λ (k : ℕ). IsFirstBelow p (suc n) k) at_n.1 (record {
      below = omega arith;
      passes = at_n.0;
      first = λ b lt passes. elim (cases_lt b n) as (λ _. n ≤ b) [
        | inl before ↦ absurd (true≢false (sym passes ∙ none refl b before))
        | inr ge ↦ ge
      ];
    })

-- what `first_below` returns is the least number that passes
pub first_below-is : (p : ℕ → Bool) (n a : ℕ) → first_below p n ≡ Some a → IsFirstBelow p n a
unfolding first_below
first_below-is p zero a h = cc
first_below-is p (suc n) a h = first_of p n a (first_below p n) (first_below-is p n) (first_below-none p n) h

-- `first_below` returns the least number that passes
first_answer : (p : ℕ → Bool) (n a : ℕ) → IsFirstBelow p n a → (o : Option ℕ) → first_below p n ≡ o → first_below p n ≡ Some a
first_answer p n a known None is = absurd (true≢false (sym known.passes ∙ first_below-none p n is a known.below))
first_answer p n a known (Some m) is =
    let found = first_below-is p n m is in
    let up = known.first m found.below found.passes in
    let down = found.first a known.below known.passes in
    let same : m ≡ a = omega arith in
    is ∙ ap (λ (k : ℕ). Some k) same

pub first_below-first : (p : ℕ → Bool) (n a : ℕ) → IsFirstBelow p n a → first_below p n ≡ Some a
first_below-first p n a known = first_answer p n a known (first_below p n) refl

-- if no number below n passes, `first_below` returns None
pub first_below-fails : (p : ℕ → Bool) (n : ℕ) → ((b : ℕ) → b < n → p b ≡ false) → first_below p n ≡ None
unfolding first_below
first_below-fails p zero none = refl
first_below-fails p (suc n) none = let here : p n ≡ false = none n (omega arith) in
    rw (first_below-fails p n (λ b lt. none b (omega arith)), here) refl

-- what `outermost_below` returns passes the test; if it returns None, no number below n passes
pub outermost_below-passes : (up : Bool) (p : ℕ → Bool) (n a : ℕ) → outermost_below up p n ≡ Some a → p a ≡ true
outermost_below-passes true p n a h = (first_below-is p n a h).passes
outermost_below-passes false p n a h = (last_below-is p n a h).passes

pub outermost_below-none : (up : Bool) (p : ℕ → Bool) (n : ℕ) → outermost_below up p n ≡ None → (b : ℕ) → b < n → p b ≡ false
outermost_below-none true p n h = first_below-none p n h
outermost_below-none false p n h = last_below-none p n h

pub outermost_below-fails : (up : Bool) (p : ℕ → Bool) (n : ℕ) → ((b : ℕ) → b < n → p b ≡ false) → outermost_below up p n ≡ None
outermost_below-fails true p n none = first_below-fails p n none
outermost_below-fails false p n none = last_below-fails p n none

-- a query fits at its top place, and at no address beyond it
pub outermost_fit-fits : (mode : Mode) (memory reserved : Labels) (q : Query) (a : ℕ) → outermost_fit mode memory reserved q ≡ Some a
    → fits_in mode.mirror memory reserved q a ≡ true
unfolding outermost_fit
outermost_fit-fits mode memory reserved q a h = outermost_below-passes mode.up (fits_in mode.mirror memory reserved q) (2 ^ 64) a h

pub outermost_fit-none : (mode : Mode) (memory reserved : Labels) (q : Query) → outermost_fit mode memory reserved q ≡ None → (b : ℕ)
    → b < 2 ^ 64
    → fits_in mode.mirror memory reserved q b ≡ false
unfolding outermost_fit
outermost_fit-none mode memory reserved q h b lt = outermost_below-none mode.up (fits_in mode.mirror memory reserved q) (2 ^ 64) h b lt

pub outermost_fit-fails : (mode : Mode) (memory reserved : Labels) (q : Query)
    → ((b : ℕ) → b < 2 ^ 64 → fits_in mode.mirror memory reserved q b ≡ false) → outermost_fit mode memory reserved q ≡ None
unfolding outermost_fit
outermost_fit-fails mode memory reserved q none = outermost_below-fails mode.up (fits_in mode.mirror memory reserved q) (2 ^ 64) none

-- how to show that an address is the top place: it is the greatest one at which the query fits, or
-- the least if the search goes up
pub outermost_fit-last : (mirror : Bool) (memory reserved : Labels) (q : Query) (a : ℕ)
    → IsLastBelow (fits_in mirror memory reserved q) (2 ^ 64) a
    → outermost_fit (record { mirror = mirror; up = false }) memory reserved q ≡ Some a
unfolding outermost_fit
outermost_fit-last mirror memory reserved q a known = last_below-last (fits_in mirror memory reserved q) (2 ^ 64) a known

pub outermost_fit-first : (mirror : Bool) (memory reserved : Labels) (q : Query) (a : ℕ)
    → IsFirstBelow (fits_in mirror memory reserved q) (2 ^ 64) a
    → outermost_fit (record { mirror = mirror; up = true }) memory reserved q ≡ Some a
unfolding outermost_fit
outermost_fit-first mirror memory reserved q a known = first_below-first (fits_in mirror memory reserved q) (2 ^ 64) a known

-- the best place is the top place of mirrored memory, or else that of any memory
pub best_place_in-mirrored : (up : Bool) (memory reserved : Labels) (q : Query) (a : ℕ)
    → outermost_fit (record { mirror = true; up = up }) memory reserved q ≡ Some a → best_place_in up memory reserved q ≡ Some a
unfolding best_place_in
best_place_in-mirrored up memory reserved q a h = rw h refl

pub best_place_in-other : (up : Bool) (memory reserved : Labels) (q : Query)
    → outermost_fit (record { mirror = true; up = up }) memory reserved q ≡ None
    → best_place_in up memory reserved q ≡ outermost_fit (record { mirror = false; up = up }) memory reserved q
unfolding best_place_in
best_place_in-other up memory reserved q h = rw h refl

-- a query fits at its best place
pub best_place_in-fits : (up : Bool) (memory reserved : Labels) (q : Query) (a : ℕ) → best_place_in up memory reserved q ≡ Some a
    → fits_in false memory reserved q a ≡ true
unfolding best_place_in
best_place_in-fits up memory reserved q a h =
    elim (either (outermost_fit (record { mirror = true; up = up }) memory reserved q)
    (outermost_fit (record { mirror = false; up = up }) memory reserved q) a h)
    as (λ _. fits_in false memory reserved q a ≡ true) [
      | inl mirrored ↦ fits_unmirrored true memory reserved q a
          (outermost_fit-fits (record { mirror = true; up = up }) memory reserved q a mirrored)
      | inr other ↦ outermost_fit-fits (record { mirror = false; up = up }) memory reserved q a other
    ]

pub best_place_in-none : (up : Bool) (memory reserved : Labels) (q : Query) → best_place_in up memory reserved q ≡ None → (b : ℕ)
    → b < 2 ^ 64
    → fits_in false memory reserved q b ≡ false
unfolding best_place_in
best_place_in-none up memory reserved q h b lt =
    outermost_fit-none (record { mirror = false; up = up }) memory reserved q (neither _ _ h) b lt

pub best_place_in-fails : (up : Bool) (memory reserved : Labels) (q : Query)
    → ((b : ℕ) → b < 2 ^ 64 → fits_in false memory reserved q b ≡ false)
    → best_place_in up memory reserved q ≡ None
unfolding best_place_in
best_place_in-fails up memory reserved q none =
    rw (outermost_fit-fails (record { mirror = true; up = up }) memory reserved q
    (λ b lt. fits_in-unmirrored_fails true memory reserved q b (none b lt)))
    (outermost_fit-fails (record { mirror = false; up = up }) memory reserved q none)

-- no place in mirrored memory has bytes with a plain label
pub plain_or_none : (b : Bool) → is_allowed_mirror true (if b then Some plain_label else None) ≡ false
plain_or_none true = refl
plain_or_none false = refl

-- if no memory is mirrored, the best place is the top place of any memory
pub outermost_fit-mirrorless : (up : Bool) (memory reserved : Labels) (q : Query) → ((x : ℕ) → is_allowed_mirror true (memory x) ≡ false)
    → outermost_fit (record { mirror = true; up = up }) memory reserved q ≡ None
outermost_fit-mirrorless up memory reserved q none = outermost_fit-fails (record { mirror = true; up = up }) memory reserved q
    (λ b lt. fits_in-mirror_fails true memory reserved q b (none b))

pub best_place_in-plain : (up : Bool) (memory reserved : Labels) (q : Query) → ((x : ℕ) → is_allowed_mirror true (memory x) ≡ false)
    → best_place_in up memory reserved q ≡ outermost_fit (record { mirror = false; up = up }) memory reserved q
best_place_in-plain up memory reserved q none =
    best_place_in-other up memory reserved q (outermost_fit-mirrorless up memory reserved q none)

-- how to show that an address is the best place if no memory is mirrored: it is the greatest one
-- at which the query fits
pub best_place_in-last : (memory reserved : Labels) (q : Query) (a : ℕ) → ((x : ℕ) → is_allowed_mirror true (memory x) ≡ false)
    → IsLastBelow (fits_in false memory reserved q) (2 ^ 64) a → best_place_in false memory reserved q ≡ Some a
best_place_in-last memory reserved q a none known =
    best_place_in-plain false memory reserved q none ∙ outermost_fit-last false memory reserved q a known
