-- The sweep over the bytes: what it knows of frames up to the present address.
use Rattle.std.proofs.Common.{◌≡◌, ◌≢◌, ℕ, zero, suc, ◌+◌, ◌*◌, ◌/◌, ◌^◌, ◌<◌, ◌≤◌, Bool, true, false, nat_lt, Option, Some, None, refl, sym, ap, ◌∙◌, inl, inr, arith}
use Rattle.std.proofs.lemmas.Bool.{cases_lt}
use Rattle.std.proofs.lemmas.Bool.Decides.{nat_tests}
use Rattle.boot_audit.specs.declared.sweep.ByteState.{ByteState}
use Rattle.boot_audit.specs.declared.sweep.ByteState.TheVariants as states
use Rattle.boot_audit.specs.Sweep.{advance_lost_frame, first_whole_frame}
use Rattle.boot_audit.specs.Verdicts.{least_below, least_frame, or_this}

-- this and the next: `least_below` finds nothing if no number passes, and finds the least number
-- that does
pub least_none : (p : ℕ → Bool) (n : ℕ) → ((f : ℕ) → f < n → p f ≡ false) → least_below p n ≡ None
unfolding least_below
least_none p zero none = refl
least_none p (suc n) none =
    let before : least_below p n ≡ None = least_none p n (λ f below. none f (omega arith)) in
    let here : p n ≡ false = none n (omega arith) in
    rw (before, here) refl

pub least_some : (p : ℕ → Bool) (n k : ℕ) → k < n → p k ≡ true → ((f : ℕ) → f < k → p f ≡ false) → least_below p n ≡ Some k
unfolding least_below
least_some p zero k below here first = absurd (omega arith)
least_some p (suc n) k below here first =
    elim (cases_lt k n) as (λ _. or_this n (p n) (least_below p n) ≡ Some k) [
      | inl before ↦ rw (least_some p n k before here first) refl
      | inr last ↦
          let same : n ≡ k = omega arith in
          let none : least_below p n ≡ None = least_none p n (λ f under. first f (omega arith)) in
          let passes : p n ≡ true = ap p same ∙ here in
          rw (none, passes) (ap (λ (m : ℕ). Some m) same)
    ]

-- what the states of a frame's bytes say about the frame
pub record Tells (st : ℕ → ByteState) (lost not_free : ℕ → Bool) : Type 0 where
  pub lost_true : (f : ℕ) → ((x : ℕ) → 4096 * f ≤ x → x < 4096 * f + 4096 → st x ≡ states.Lost) → lost f ≡ true
  pub lost_false : (f x : ℕ) → 4096 * f ≤ x → x < 4096 * f + 4096 → st x ≢ states.Lost → lost f ≡ false
  pub free_false : (f x : ℕ) → 4096 * f ≤ x → x < 4096 * f + 4096 → st x ≡ states.NotFree → not_free f ≡ true
  pub free_true : (f : ℕ) → ((x : ℕ) → 4096 * f ≤ x → x < 4096 * f + 4096 → st x ≢ states.NotFree) → not_free f ≡ false

-- no frame that begins before `from` is lost; all bytes from `from` up to `at` are lost, but they
-- contain no whole frame yet
pub record IsLostSoFar (st : ℕ → ByteState) (lost : ℕ → Bool) (from at : ℕ) : Type 0 where
  pub ordered : from ≤ at
  pub before : (f : ℕ) → 4096 * f < from → lost f ≡ false
  pub all : (x : ℕ) → from ≤ x → x < at → st x ≡ states.Lost
  pub none : (f : ℕ) → from ≤ 4096 * f → at < 4096 * f + 4096

-- k is the least lost frame
pub record IsLeast (lost : ℕ → Bool) (k : ℕ) : Type 0 where
  pub near : k < 2 ^ 40
  pub here : lost k ≡ true
  pub first : (f : ℕ) → f < k → lost f ≡ false

abbrev pub SoFar : (ℕ → ByteState) → (ℕ → Bool) → ℕ → ℕ → Option ℕ → Type 0
SoFar st lost from at None = IsLostSoFar st lost from at
SoFar st lost from at (Some k) = IsLeast lost k

module _ (st : ℕ → ByteState) (lost not_free : ℕ → Bool) (tells : Tells st lost not_free) where
  pub at_start : SoFar st lost 0 0 None
  at_start = record {
    ordered = omega arith;
    before = λ f below. absurd (omega arith);
    all = λ x above below. absurd (omega arith);
    none = λ f above. omega arith;
  }

  found_by : (from at until : ℕ) (ends : Bool) → nat_lt until (4096 * ((from + 4095) / 4096) + 4096) ≡ ends → at < until → until ≤ 2 ^ 52
      → ((x : ℕ) → at ≤ x → x < until → st x ≡ states.Lost) → IsLostSoFar st lost from at
      → SoFar st lost from until (first_whole_frame from until)
  found_by from at until true is forward near piece known = rw is record {
    ordered = let low = known.ordered in omega arith;
    before = known.before;
    all = λ x above below. elim (cases_lt x at) as (λ _. st x ≡ states.Lost) [
      | inl early ↦ known.all x above early
      | inr late ↦ piece x late below
    ];
    none = λ f above.
        let short : until < 4096 * ((from + 4095) / 4096) + 4096 = grind (arith, nat_tests) in
        omega arith;
  }
  found_by from at until false is forward near piece known =
      let long : 4096 * ((from + 4095) / 4096) + 4096 ≤ until = grind (arith, nat_tests) in
      rw is record {
        near = omega arith;
        here = tells.lost_true ((from + 4095) / 4096) (λ x above below. elim (cases_lt x at) as (λ _. st x ≡ states.Lost) [
          | inl early ↦ known.all x (omega arith) early
          | inr late ↦ piece x late (omega arith)
        ]);
        first = λ f below. known.before f (omega arith);
      }

  closed : (from at until : ℕ) (s : ByteState) → s ≢ states.Lost → at < until
      → ((x : ℕ) → at ≤ x → x < until → st x ≡ s) → IsLostSoFar st lost from at → IsLostSoFar st lost until until
  closed from at until s other forward piece known = record {
    ordered = omega arith;
    before = λ f below. elim (cases_lt (4096 * f) from) as (λ _. lost f ≡ false) [
      | inl early ↦ known.before f early
      | inr late ↦
          let reaches : at < 4096 * f + 4096 = known.none f late in
          elim (cases_lt (4096 * f) at) as (λ _. lost f ≡ false) [
            | inl inside ↦
                tells.lost_false f at (omega arith) reaches (λ is. other (sym (piece at (omega arith) forward) ∙ is))
            | inr after ↦
                tells.lost_false f (4096 * f) (omega arith) (omega arith) (λ is. other (sym (piece (4096 * f) after below) ∙ is))
          ]
    ];
    all = λ x above below. absurd (omega arith);
    none = λ f above. omega arith;
  }

  -- what the sweep knows after one more piece
  pub carried_on : (from at until : ℕ) (old : Option ℕ) (s : ByteState) → at < until → until ≤ 2 ^ 52
      → ((x : ℕ) → at ≤ x → x < until → st x ≡ s) → SoFar st lost from at old
      → SoFar st lost (advance_lost_frame old from until s).1 until (advance_lost_frame old from until s).0
  carried_on from at until None states.Lost forward near piece known =
      found_by from at until (nat_lt until (4096 * ((from + 4095) / 4096) + 4096)) refl forward near piece known
  carried_on from at until None states.Sound forward near piece known = closed from at until states.Sound (λ is. cc) forward piece known
  carried_on from at until None states.NotFree forward near piece known = closed from at until states.NotFree (λ is. cc) forward piece known
  carried_on from at until (Some k) states.Lost forward near piece least = least
  carried_on from at until (Some k) states.Sound forward near piece least = least
  carried_on from at until (Some k) states.NotFree forward near piece least = least

  pub carried_near : (from until : ℕ) (old : Option ℕ) (s : ByteState) → from ≤ 2 ^ 52 → until ≤ 2 ^ 52
      → (advance_lost_frame old from until s).1 ≤ 2 ^ 52
  carried_near from until old states.Lost low near = low
  carried_near from until old states.Sound low near = near
  carried_near from until old states.NotFree low near = near

  -- at the end of all addresses the frame found is the least lost frame
  pub lost_at_end : (from at : ℕ) (found : Option ℕ) → 2 ^ 52 ≤ at → SoFar st lost from at found → found ≡ least_frame lost
  lost_at_end from at None end known = sym (least_none lost (2 ^ 40) (λ f small.
      elim (cases_lt (4096 * f) from) as (λ _. lost f ≡ false) [
        | inl early ↦ known.before f early
        | inr late ↦ let reaches : at < 4096 * f + 4096 = known.none f late in absurd (omega arith)
      ]))
  lost_at_end from at (Some k) end least = sym (least_some lost (2 ^ 40) k least.near least.here least.first)

  pub none_at_end : (at : ℕ) → 2 ^ 52 ≤ at → ((x : ℕ) → x < at → st x ≢ states.NotFree) → None ≡ least_frame not_free
  none_at_end at end none = sym (least_none not_free (2 ^ 40) (λ f small. tells.free_true f (λ x above below. none x (omega arith))))

  -- the first byte that is in a block but not free lies in the least frame with this fault
  pub first_not_free : (at : ℕ) → at < 2 ^ 52 → ((x : ℕ) → x < at → st x ≢ states.NotFree) → st at ≡ states.NotFree
      → Some (at / 4096) ≡ least_frame not_free
  first_not_free at near none here =
      sym (least_some not_free (2 ^ 40) (at / 4096) (omega arith) (tells.free_false (at / 4096) at (omega arith) (omega arith) here)
      (λ f below. tells.free_true f (λ x above under. none x (omega arith))))

-- the least number below a bound is below it
near_by : (n k : ℕ) (passes : Bool) (before : Option ℕ) → ((j : ℕ) → before ≡ Some j → j < n) → or_this n passes before ≡ Some k → k < suc n
near_by n k passes (Some j) low is = let under : j < n = low j refl in let same : j ≡ k = cc in omega arith
near_by n k true None low is = let same : n ≡ k = cc in omega arith
near_by n k false None low is = cc

pub least_near : (p : ℕ → Bool) (n k : ℕ) → least_below p n ≡ Some k → k < n
unfolding least_below
least_near p zero k is = cc
least_near p (suc n) k is = near_by n k (p n) (least_below p n) (λ j. least_near p n j) is
