-- How many runs an edit adds at most: covering a range one for each gap in it, uncovering a range
-- one, any other edit two.
use Rattle.std.proofs.Common.{◌≡◌, ℕ, ◌+◌, ◌-◌, ◌^◌, ◌≤◌, ◌==◌, Bool, true, false, ◌&&◌, if◌then◌else◌, is_none, Option, Some, None, List, length, refl, ◌∙◌, ap, inl, inr, arith}
use Rattle.std.specs.Prelude.{unwrap_or}
use Rattle.std.specs.Option.{option_map}
use Rattle.std.proofs.lemmas.Bool.Decides.{nat_tests}
use Rattle.std.proofs.lemmas.Bool.{cases_Bool}
use Rattle.bm_base.specs.Range.{RangeView, covers}
use Rattle.address_runs.specs.Runs.{RunOf, DecidesEquality, value_at, AreRuns, IsRunsOf, runs_of}
use Rattle.address_runs.specs.Edits.{change_range, cover_range, uncover_range, relabel_range, replace_in_range, gaps_in_range, IsEmptyFrom}
use Rattle.address_runs.proofs.RunsLaws.{runs_of_are_runs}
use Rattle.address_runs.proofs.EditLaws.{not_covered, nothing-covered, nothing-uncovered, nothing-relabelled, nothing-replaced}
use Rattle.run_edits.specs.Records.{AddsNoRunEnd}
use Rattle.run_edits.specs.Ends.{total, run_ends_between, run_ends_at, one_right_below, HasRoomToEdit}
use Rattle.run_edits.proofs.EndLaws.{total-fewer, total-add, total-split, spikes_few, run_ends_between-self, run_ends_between-few, all_ends}

-- two neighbouring addresses, one of them in the range: the range begins or ends between them
begins_here : (r : RangeView) (x : ℕ) → covers r x ≡ false → covers r (x + 1) ≡ true → (x + 1 == r.base) ≡ true
begins_here r x out in_it = grind (arith, nat_tests)

ends_here : (r : RangeView) (x : ℕ) → covers r x ≡ true → covers r (x + 1) ≡ false → (x + 1 == r.base + r.size) ≡ true
ends_here r x in_it out = grind (arith, nat_tests)

pub spikes_two : (r : RangeView) (n : ℕ) → total (λ x. one_right_below r.base x + one_right_below (r.base + r.size) x) 0 n ≤ 2
spikes_two r n =
    let both = total-add (one_right_below r.base) (one_right_below (r.base + r.size)) 0 n in
    let one = spikes_few r.base 0 n in
    let other = spikes_few (r.base + r.size) 0 n in
    omega (arith, both, one, other)

module _ {X : Type 0} where
  -- a function that ends at most n more runs than another has at most n more runs
  total-more : (same : X → X → Bool) (f g : ℕ → Option X) (s : ℕ → ℕ) (few x n : ℕ)
      → ((y : ℕ) → run_ends_at same g y ≤ run_ends_at same f y + s y)
      → total s x n ≤ few
      → total (run_ends_at same g) x n ≤ total (run_ends_at same f) x n + few
  total-more same f g s few x n each some =
      let all = total-fewer (run_ends_at same g) (λ y. run_ends_at same f y + s y) x n (λ y above under. each y) in
      let parts = total-add (run_ends_at same f) s x n in
      omega (arith, all, parts, some)

  pub room_by : (same : X → X → Bool) → DecidesEquality same → (f g : ℕ → Option X) (s : ℕ → ℕ) (few room : ℕ)
      → ((y : ℕ) → run_ends_at same g y ≤ run_ends_at same f y + s y)
      → ((at : ℕ) → at ≤ 2 ^ 64 → total s 0 at ≤ few) → total (run_ends_at same f) 0 (2 ^ 64) + few ≤ room → HasRoomToEdit same f g room
  room_by same tells f g s few room each some fits at le =
      let front = total-more same f g s few 0 at each (some at le) in
      let whole = total-split (run_ends_at same f) 0 at (2 ^ 64 - at) (2 ^ 64) at (omega arith) (omega arith) in
      omega (arith, front, whole, fits)

  pub length_by : (same : X → X → Bool) → DecidesEquality same → (rs ss : List (RunOf X)) (s : ℕ → ℕ) (few : ℕ) → AreRuns rs
      → IsEmptyFrom (2 ^ 64) (value_at rs) → AreRuns ss
      → IsEmptyFrom (2 ^ 64) (value_at ss) → ((y : ℕ) → run_ends_at same (value_at ss) y ≤ run_ends_at same (value_at rs) y + s y)
      → total s 0 (2 ^ 64) ≤ few → length ss ≤ length rs + few
  length_by same tells rs ss s few runs none more none_too each some =
      let first = all_ends same tells rs runs none in
      let second = all_ends same tells ss more none_too in
      let sums = total-more same (value_at rs) (value_at ss) s few 0 (2 ^ 64) each some in
      omega (arith, first, second, sums)

  -- inside the range, the edit makes a run end only where one ended before
  inside_edges : (same : X → X → Bool) → DecidesEquality same → (change : Option X → Option X) → AddsNoRunEnd change → (a b : Option X)
      → run_ends_between same (change a) (change b) ≤ run_ends_between same a b
  inside_edges same tells change (inl stays) None b = rw stays (omega arith)
  inside_edges same tells change (inl stays) (Some v) None = run_ends_between-few same (change (Some v)) (change None)
  inside_edges same tells change (inl stays) (Some v) (Some w) =
      elim (cases_Bool (same v w)) as
      (λ _. run_ends_between same (change (Some v)) (change (Some w)) ≤ run_ends_between same (Some v) (Some w)) [
        | inl equal ↦
            let is : change (Some v) ≡ change (Some w) = ap (λ (u : X). change (Some u)) (tells.true_is_equal v w equal) in
            rw (is, run_ends_between-self same tells (change (Some w))) (omega arith)
        | inr not ↦ let few = run_ends_between-few same (change (Some v)) (change (Some w)) in rw not few
      ]
  inside_edges same tells change (inr one) a b = rw (one a, one b, run_ends_between-self same tells (change None)) (omega arith)

  -- an edit makes at most one more run end right below the range, and one at its last address
  pub amended_edges : (same : X → X → Bool) → DecidesEquality same → (change : Option X → Option X) → AddsNoRunEnd change
      → (r : RangeView) (f : ℕ → Option X) (x : ℕ)
      → run_ends_at same (change_range change r f) x ≤ run_ends_at same f x
      + (one_right_below r.base x + one_right_below (r.base + r.size) x)
  amended_edges same tells change plain r f x =
      let Few : Type 0 = run_ends_at same (change_range change r f) x ≤ run_ends_at same f x
      + (one_right_below r.base x + one_right_below (r.base + r.size) x) in
      elim (cases_Bool (covers r x)) as (λ _. Few) [
        | inl here ↦ elim (cases_Bool (covers r (x + 1))) as (λ _. Few) [
          | inl next ↦ let few = inside_edges same tells change plain (f x) (f (x + 1)) in rw (here, next) (omega (arith, few))
          | inr out ↦ let few =
              run_ends_between-few same (change (f x)) (f (x + 1)) in rw (here, out, ends_here r x here out) (omega (arith, few))
        ]
        | inr before ↦ elim (cases_Bool (covers r (x + 1))) as (λ _. Few) [
          | inl next ↦ let few = run_ends_between-few same (f x) (change (f (x + 1))) in rw (before, next, begins_here r x before next)
              (omega (arith, few))
          | inr out ↦ rw (before, out) (omega arith)
        ]
      ]

  -- uncovering a range makes no more run end at its last address
  pub uncovered_edges : (same : X → X → Bool) (r : RangeView) (f : ℕ → Option X) (x : ℕ)
      → run_ends_at same (uncover_range r f) x ≤ run_ends_at same f x + one_right_below r.base x
  uncovered_edges same r f x =
      elim (cases_Bool (covers r x)) as (λ _. run_ends_at same (uncover_range r f) x ≤ run_ends_at same f x + one_right_below r.base x) [
        | inl here ↦ rw here (omega arith)
        | inr before ↦ elim (cases_Bool (covers r (x + 1)))
            as (λ _. run_ends_at same (uncover_range r f) x ≤ run_ends_at same f x + one_right_below r.base x) [
              | inl next ↦ let few =
                  run_ends_between-few same (f x) None in rw (before, next, begins_here r x before next) (omega (arith, few))
              | inr out ↦ rw (before, out) (omega arith)
            ]
      ]

  -- covering a range makes no more run end, except at the end of a gap
  cover_at : (same : X → X → Bool) → DecidesEquality same → (v w : X) (here next : Bool) (a b : Option X)
      → run_ends_between same (if here then Some (unwrap_or a v) else a) (if next then Some (unwrap_or b v) else b)
      ≤ run_ends_between same a b + run_ends_between same (if here && is_none a then Some w else None)
      (if next && is_none b then Some w else None)
  cover_at same tells v w true true None None = rw (tells.equal_is_true v v refl, tells.equal_is_true w w refl) (omega arith)
  cover_at same tells v w true true None (Some q) = run_ends_between-few same (Some v) (Some q)
  cover_at same tells v w true true (Some p) None = run_ends_between-few same (Some p) (Some v)
  cover_at same tells v w true true (Some p) (Some q) = omega arith
  cover_at same tells v w true false None b = run_ends_between-few same (Some v) b
  cover_at same tells v w true false (Some p) b = omega arith
  cover_at same tells v w false true None b = omega arith
  cover_at same tells v w false true (Some p) None = run_ends_between-few same (Some p) (Some v)
  cover_at same tells v w false true (Some p) (Some q) = omega arith
  cover_at same tells v w false false a b = omega arith

  pub covered_edges : (same : X → X → Bool) → DecidesEquality same → (r : RangeView) (v w : X) (f : ℕ → Option X) (x : ℕ)
      → run_ends_at same (cover_range r v f) x ≤ run_ends_at same f x + run_ends_at same (gaps_in_range r w f) x
  covered_edges same tells r v w f x = cover_at same tells v w (covers r x) (covers r (x + 1)) (f x) (f (x + 1))

  -- no address at or above 2^64 is in a gap of the range
  bare_ends : (r : RangeView) (w : X) (f : ℕ → Option X) → r.base + r.size ≤ 2 ^ 64 → IsEmptyFrom (2 ^ 64) (gaps_in_range r w f)
  bare_ends r w f ends x le = let past : r.base + r.size ≤ x = omega arith in rw (not_covered r x past) refl

  -- the number of a function's runs is the number of addresses at which one ends
  length-runs_of : (same : X → X → Bool) → DecidesEquality same → (f : ℕ → Option X) → IsEmptyFrom (2 ^ 64) f → length (runs_of same f)
      ≡ total (run_ends_at same f) 0 (2 ^ 64)
  length-runs_of same tells f none =
      let known : IsRunsOf f (runs_of same f) = runs_of_are_runs same tells f none in
      let told : value_at (runs_of same f) ≡ f = λ k x. known.each x k in
      all_ends same tells (runs_of same f) known.runs (λ x le. known.each x ∙ none x le)
      ∙ ap (λ (h : ℕ → Option X). total (run_ends_at same h) 0 (2 ^ 64)) told

  pub gaps_count_ends : (same : X → X → Bool) → DecidesEquality same → (r : RangeView) (w : X) (f : ℕ → Option X) → r.base + r.size ≤ 2 ^ 64
      → length (runs_of same (gaps_in_range r w f)) ≡ total (run_ends_at same (gaps_in_range r w f)) 0 (2 ^ 64)
  gaps_count_ends same tells r w f ends = length-runs_of same tells (gaps_in_range r w f) (bare_ends r w f ends)

  -- if an edit makes at most `few` more runs end, it adds at most `few` runs
  runs_of-adds_few : (same : X → X → Bool) → DecidesEquality same → (f g : ℕ → Option X) (s : ℕ → ℕ) (few : ℕ) → IsEmptyFrom (2 ^ 64) f
      → IsEmptyFrom (2 ^ 64) g
      → ((y : ℕ) → run_ends_at same g y ≤ run_ends_at same f y + s y) → total s 0 (2 ^ 64) ≤ few
      → length (runs_of same g) ≤ length (runs_of same f) + few
  runs_of-adds_few same tells f g s few none none_too each some =
      let first = length-runs_of same tells f none in
      let second = length-runs_of same tells g none_too in
      let sums = total-more same f g s few 0 (2 ^ 64) each some in
      omega (arith, first, second, sums)

  pub covered_length : (same : X → X → Bool) → DecidesEquality same → (r : RangeView) (v w : X) (f : ℕ → Option X)
      → r.base + r.size ≤ 2 ^ 64
      → IsEmptyFrom (2 ^ 64) f
      → length (runs_of same (cover_range r v f)) ≤ length (runs_of same f) + length (runs_of same (gaps_in_range r w f))
  covered_length same tells r v w f ends none =
      let pieces = gaps_count_ends same tells r w f ends in
      runs_of-adds_few same tells f (cover_range r v f) (run_ends_at same (gaps_in_range r w f))
      (length (runs_of same (gaps_in_range r w f))) none
      (nothing-covered (2 ^ 64) r v f ends none)
      (covered_edges same tells r v w f) (omega (arith, pieces))

  pub uncovered_length : (same : X → X → Bool) → DecidesEquality same → (r : RangeView) (f : ℕ → Option X) → IsEmptyFrom (2 ^ 64) f
      → length (runs_of same (uncover_range r f)) ≤ length (runs_of same f) + 1
  uncovered_length same tells r f none =
      runs_of-adds_few same tells f (uncover_range r f) (one_right_below r.base) 1 none (nothing-uncovered (2 ^ 64) r f none)
      (uncovered_edges same r f)
      (spikes_few r.base 0 (2 ^ 64))

  pub amended_length : (same : X → X → Bool) → DecidesEquality same → (change : Option X → Option X) → AddsNoRunEnd change
      → (r : RangeView) (f : ℕ → Option X) → IsEmptyFrom (2 ^ 64) f
      → IsEmptyFrom (2 ^ 64) (change_range change r f) → length (runs_of same (change_range change r f)) ≤ length (runs_of same f) + 2
  amended_length same tells change plain r f none none_too =
      runs_of-adds_few same tells f (change_range change r f)
      (λ x. one_right_below r.base x + one_right_below (r.base + r.size) x) 2 none none_too
      (amended_edges same tells change plain r f) (spikes_two r (2 ^ 64))

  pub relabelled_length : (same : X → X → Bool) → DecidesEquality same → (r : RangeView) (change : X → X) (f : ℕ → Option X)
      → IsEmptyFrom (2 ^ 64) f
      → length (runs_of same (relabel_range r change f)) ≤ length (runs_of same f) + 2
  relabelled_length same tells r change f none = amended_length same tells (option_map change) (inl refl) r f none
      (nothing-relabelled (2 ^ 64) r change f none)

  pub replaced_length : (same : X → X → Bool) → DecidesEquality same → (r : RangeView) (v : X) (f : ℕ → Option X) → r.base + r.size ≤ 2 ^ 64
      → IsEmptyFrom (2 ^ 64) f
      → length (runs_of same (replace_in_range r v f)) ≤ length (runs_of same f) + 2
  replaced_length same tells r v f ends none = amended_length same tells (λ carried. Some v) (inr (λ carried. refl)) r f none
      (nothing-replaced (2 ^ 64) r v f ends none)
