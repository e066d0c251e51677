-- The list built up to an address and the old list's rest from there on make the whole list. The
-- state with which an edit begins.
use Rattle.std.proofs.Common.{◌≡◌, ◌≢◌, ℕ, ◌+◌, ◌-◌, ◌^◌, ◌<◌, ◌≤◌, Bool, true, nat_lt, Option, Some, None, List, [], ◌∷◌, ◌++◌, length, get_or, take, drop, refl, sym, ◌∙◌, ap, subst, inl, inr, arith}
use Rattle.std.proofs.lemmas.Bool.Decides.{nat_tests}
use Rattle.std.proofs.lemmas.Bool.{cases_lt, cases_Bool}
use Rattle.std.proofs.lemmas.List.{append-nil, length-append, drop_more, take_more, take-append-drop}
use Rattle.std.specs.Prelude.{is_some}
use Rattle.address_runs.specs.Runs.{RunOf, DecidesEquality, run_end, value_at, IsBefore, AreRuns, IsRunsOf}
use Rattle.address_runs.specs.Edits.{IsEmptyFrom}
use Rattle.address_runs.specs.Sweep.{HasValueBetween, StartAtOrPast, EndBy, FirstEndsPast, FirstEndsAtOrPast, IsSweptTo, IsRestFrom, IsBuiltTo}
use Rattle.address_runs.proofs.RunsLaws.{inside, past_end, none_below}
use Rattle.address_runs.proofs.SweepLaws.{none_after, value_append_none, value_append_left, swept_over, swept_push}
use Rattle.run_edits.specs.Records.{run_or_none, EndBelow}
use Rattle.run_edits.specs.Ends.{run_ends_at, HasRoomToEdit}
use Rattle.run_edits.proofs.EndLaws.{total-split, swept_ends, rest_ends}

module _ {X : Type 0} where
  pub runs_front : (xs ys : List (RunOf X)) → AreRuns (xs ++ ys) → AreRuns xs
  runs_front [] ys runs = tt
  runs_front (x ∷ []) ys runs = (runs.0, tt, tt)
  runs_front (x ∷ (y ∷ ys)) zs runs = (runs.0, runs.1, runs_front (y ∷ ys) zs runs.2)

  pub runs_back : (xs ys : List (RunOf X)) → AreRuns (xs ++ ys) → AreRuns ys
  runs_back [] ys runs = runs
  runs_back (x ∷ xs) ys runs = runs_back xs ys runs.2

  before_joined : (at : ℕ) (v : Option X) (x : RunOf X) (rs : List (RunOf X)) → run_end x ≤ at → (run_end x ≡ at → v ≢ Some x.value)
      → AreRuns rs → StartAtOrPast at rs
      → value_at rs at ≡ v → IsBefore x rs
  before_joined at v x [] by other runs starts is = tt
  before_joined at v x (s ∷ ss) by other runs starts is = (
    omega arith,
    λ touch equal.
        let here : run_end x ≡ at = omega arith in
        let some : 0 < s.size = runs.0 in
        let first : value_at (s ∷ ss) at ≡ Some s.value = rw (inside s at (omega arith) (omega arith)) refl in
        other here (sym is ∙ first ∙ ap (λ u. Some u) (sym equal)),
  )

  runs_join : (at : ℕ) (v : Option X) (xs rs : List (RunOf X)) → AreRuns xs → EndBy at v xs → AreRuns rs → StartAtOrPast at rs
      → value_at rs at ≡ v → AreRuns (xs ++ rs)
  runs_join at v [] rs runs ends more starts is = more
  runs_join at v (x ∷ []) rs runs ends more starts is = (runs.0, before_joined at v x rs ends.0 ends.1 more starts is, more)
  runs_join at v (x ∷ (y ∷ ys)) rs runs ends more starts is = (runs.0, runs.1, runs_join at v (y ∷ ys) rs runs.2 ends.2 more starts is)

  -- a list complete up to an address, followed by the runs from that address on, has all runs
  pub swept_join : (f g : ℕ → Option X) (at : ℕ) (xs rs : List (RunOf X)) → IsSweptTo g at xs → IsRestFrom f at rs → StartAtOrPast at rs
      → ((x : ℕ) → at ≤ x → g x ≡ f x)
      → IsRunsOf g (xs ++ rs)
  swept_join f g at xs rs swept rest starts like = record {
    runs = runs_join at (g at) xs rs swept.runs swept.ends rest.runs starts (rest.each at (omega arith) ∙ sym (like at (omega arith)));
    each = λ x. elim (cases_lt x at) as (λ _. value_at (xs ++ rs) x ≡ g x) [
      | inl lt ↦ value_append_left xs rs x (none_below at x rs rest.runs starts lt) ∙ swept.each x lt
      | inr ge ↦ value_append_none xs rs x (none_after at x (g at) xs swept.ends ge) ∙ rest.each x ge ∙ sym (like x ge)
    ];
  }

  -- the list stays complete when one more run has been written
  pub swept_stretch : (g : ℕ → Option X) (start until : ℕ) (v : Option X) (xs : List (RunOf X)) → IsSweptTo g start xs → start ≤ until
      → HasValueBetween g start until v
      → (g until ≡ v → v ≡ None) → IsSweptTo g until (xs ++ run_or_none start until v)
  swept_stretch g start until None xs swept order stays other = rw (append-nil xs) (swept_over g start until xs swept order stays)
  swept_stretch g start until (Some v) xs swept order stays other =
      elim (cases_Bool (nat_lt start until)) as (λ _. IsSweptTo g until (xs ++ run_or_none start until (Some v))) [
        | inl some ↦
            let lt : start < until = grind (arith, nat_tests) in
            let another : g until ≢ Some v = λ same. let none : Some v ≡ None = other same in cc none in
            rw some (swept_push g start until v (record { base = start; size = until - start; value = v }) xs refl lt swept stays another)
        | inr none ↦
            let same : start ≡ until = grind (arith, nat_tests) in
            let moved : IsSweptTo g until xs = subst (λ (n : ℕ). IsSweptTo g n xs) same swept in
            rw (none, append-nil xs) moved
      ]

  -- when a value changes, the current run is written and another one begins
  pub built_stretch : (g : ℕ → Option X) (start from until : ℕ) (v w : Option X) (xs : List (RunOf X)) → IsBuiltTo g from xs start v
      → g from ≡ w → v ≢ w → from ≤ until
      → HasValueBetween g from until w → IsBuiltTo g until (xs ++ run_or_none start from v) from w
  built_stretch g start from until v w xs built is other order stays = record {
    begun = order;
    swept = swept_stretch g start from v xs built.swept built.begun built.stays (λ same. absurd (other (sym same ∙ is)));
    stays = stays;
  }

  -- the records before a run end at or below its base, with another value if they touch it
  ends_front : (xs rs : List (RunOf X)) (r : RunOf X) → AreRuns (xs ++ r ∷ rs) → EndBy r.base (Some r.value) xs
  ends_front [] rs r runs = tt
  ends_front (x ∷ []) rs r runs = (runs.1.0, (λ touch equal. runs.1.1 touch (let same : r.value ≡ x.value = cc in sym same)), tt)
  ends_front (x ∷ (y ∷ ys)) rs r runs =
      let more = ends_front (y ∷ ys) rs r runs.2 in
      let order : run_end x ≤ y.base = runs.1.0 in
      let some : 0 < y.size = runs.2.0 in
      let far : run_end y ≤ r.base = more.0 in
      (omega arith, (λ touch. absurd (omega arith)), more)

  value_in : (xs rs : List (RunOf X)) (r : RunOf X) (x : ℕ) → AreRuns (xs ++ r ∷ rs) → r.base ≤ x → x < run_end r
      → value_at (xs ++ r ∷ rs) x ≡ Some r.value
  value_in xs rs r x runs above under =
      value_append_none xs (r ∷ rs) x (none_after r.base x (Some r.value) xs (ends_front xs rs r runs) above)
      ∙ rw (inside r x above under) refl

  -- an edit that begins inside a run or exactly at its end starts with that run as the current one
  begun_in : (g : ℕ → Option X) (at : ℕ) (xs rs : List (RunOf X)) (r : RunOf X) → AreRuns (xs ++ r ∷ rs) → r.base < at → at ≤ run_end r
      → ((x : ℕ) → x < at → g x ≡ value_at (xs ++ r ∷ rs) x) → IsBuiltTo g at xs r.base (Some r.value)
  begun_in g at xs rs r runs lt le like =
      let first : g r.base ≡ Some r.value = like r.base lt ∙ value_in xs rs r r.base runs (omega arith) (omega arith) in
      let starts : StartAtOrPast r.base (r ∷ rs) = omega arith in
      record {
        begun = omega arith;
        swept = record {
          runs = runs_front xs (r ∷ rs) runs;
          ends = rw first (ends_front xs rs r runs);
          each = λ x under. sym (value_append_left xs (r ∷ rs) x (none_below r.base x (r ∷ rs) (runs_back xs (r ∷ rs) runs) starts under))
              ∙ sym (like x (omega arith));
        };
        stays = λ x above under. like x under ∙ value_in xs rs r x runs above (omega arith);
      }

  pub begun_inside : (whole : List (RunOf X)) (g : ℕ → Option X) (at : ℕ) (xs rs : List (RunOf X)) (r : RunOf X) → xs ++ r ∷ rs ≡ whole
      → AreRuns whole → r.base < at → at ≤ run_end r
      → ((x : ℕ) → x < at → g x ≡ value_at whole x) → IsBuiltTo g at xs r.base (Some r.value)
  begun_inside whole g at xs rs r is runs lt le like =
      begun_in g at xs rs r (rw is runs) lt le (λ x under. like x under ∙ ap (λ l. value_at l x) (sym is))

  ends_by : (at : ℕ) (v : Option X) (xs : List (RunOf X)) → EndBelow at xs → EndBy at v xs
  ends_by at v [] ends = tt
  ends_by at v (x ∷ xs) ends = (omega arith, (λ touch. absurd (omega arith)), ends_by at v xs ends.1)

  -- an edit that begins at any other address starts without a current run
  begun_bare : (g : ℕ → Option X) (at : ℕ) (xs rs : List (RunOf X)) → AreRuns (xs ++ rs) → EndBelow at xs → StartAtOrPast at rs
      → ((x : ℕ) → x < at → g x ≡ value_at (xs ++ rs) x) → IsBuiltTo g at xs at None
  begun_bare g at xs rs runs ends starts like = record {
    begun = omega arith;
    swept = record {
      runs = runs_front xs rs runs;
      ends = ends_by at (g at) xs ends;
      each = λ x under. sym (value_append_left xs rs x (none_below at x rs (runs_back xs rs runs) starts under)) ∙ sym (like x under);
    };
    stays = λ x above under. absurd (omega arith);
  }

  pub begun_outside : (whole : List (RunOf X)) (g : ℕ → Option X) (at : ℕ) (xs rs : List (RunOf X)) → xs ++ rs ≡ whole → AreRuns whole
      → EndBelow at xs → StartAtOrPast at rs
      → ((x : ℕ) → x < at → g x ≡ value_at whole x) → IsBuiltTo g at xs at None
  begun_outside whole g at xs rs is runs ends starts like =
      begun_bare g at xs rs (rw is runs) ends starts (λ x under. like x under ∙ ap (λ l. value_at l x) (sym is))

  none_past : (at x : ℕ) (xs : List (RunOf X)) → EndBelow at xs → at ≤ x + 1 → value_at xs x ≡ None
  none_past at x [] ends le = refl
  none_past at x (r ∷ rs) ends le = let under : run_end r < at = ends.0 in rw (past_end r x (omega arith)) (none_past at x rs ends.1 le)

  ends_from : (at : ℕ) (rs : List (RunOf X)) → AreRuns rs → FirstEndsAtOrPast at rs → FirstEndsPast (at - 1) rs
  ends_from at [] runs ends = tt
  ends_from at (r ∷ rs) runs ends = let some : 0 < r.size = runs.0 in omega arith

  -- without the runs that end below `at`, a list is what remains of it from address `at - 1` on
  pub rest_before : (whole : List (RunOf X)) (at : ℕ) (xs rs : List (RunOf X)) → xs ++ rs ≡ whole → AreRuns whole → EndBelow at xs
      → FirstEndsAtOrPast at rs
      → IsRestFrom (value_at whole) (at - 1) rs
  rest_before whole at xs rs is runs ends from =
      let all : AreRuns (xs ++ rs) = rw is runs in
      record {
        runs = runs_back xs rs all;
        ends = ends_from at rs (runs_back xs rs all) from;
        each = λ x above. sym (value_append_none xs rs x (none_past at x xs ends (omega arith))) ∙ ap (λ l. value_at l x) is;
      }

  -- each run ends at or below the base of every later run
  ends_order : (r : RunOf X) (rs : List (RunOf X)) (i : ℕ) (xs ys : List (RunOf X)) (s : RunOf X) → AreRuns (r ∷ rs) → rs ≡ xs ++ s ∷ ys
      → run_end r ≤ s.base
  ends_order r rs i [] ys s runs is = let before : IsBefore r (s ∷ ys) = rw is at runs.1 in before.0
  ends_order r rs i (x ∷ xs) ys s runs is =
      let more : AreRuns (x ∷ (xs ++ s ∷ ys)) = rw is at runs.2 in
      let before : IsBefore r (x ∷ (xs ++ s ∷ ys)) = rw is at runs.1 in
      let some : 0 < x.size = more.0 in
      let far : run_end x ≤ s.base = ends_order x (xs ++ s ∷ ys) i xs ys s more refl in
      let first : run_end r ≤ x.base = before.0 in
      omega arith

  -- if a run ends below an address, all records up to it do
  pub before_more : (at : ℕ) (xs ys : List (RunOf X)) (s : RunOf X) → AreRuns (xs ++ s ∷ ys) → run_end s < at → EndBelow at (xs ++ s ∷ [])
  before_more at [] ys s runs under = (under, tt)
  before_more at (x ∷ xs) ys s runs under =
      let far : run_end x ≤ s.base = ends_order x (xs ++ s ∷ ys) 0 xs ys s runs refl in
      (omega arith, before_more at xs ys s runs.2 under)

  pub before_index : (at i : ℕ) (rs : List (RunOf X)) (s : RunOf X) → AreRuns rs → i < length rs → s ≡ get_or rs i s → run_end s < at
      → EndBelow at (take (i + 1) rs)
  before_index at i rs s runs lt is under =
      let back : s ∷ drop (i + 1) rs ≡ drop i rs = ap (λ (r : RunOf X). r ∷ drop (i + 1) rs) is ∙ sym (drop_more rs i s lt) in
      let parts : take i rs ++ s ∷ drop (i + 1) rs ≡ rs = ap (λ l. take i rs ++ l) back ∙ take-append-drop i rs in
      let more : take (i + 1) rs ≡ take i rs ++ s ∷ [] = take_more rs i s lt ∙ ap (λ (r : RunOf X). take i rs ++ r ∷ []) (sym is) in
      rw more (before_more at (take i rs) (drop (i + 1) rs) s (rw parts runs) under)

  length_stretch : (start until : ℕ) (v : Option X) → start < until → is_some v ≡ true → length (run_or_none start until v) ≡ 1
  length_stretch start until None lt some = cc
  length_stretch start until (Some v) lt some = let test : nat_lt start until ≡ true = grind (arith, nat_tests) in rw test refl

  -- if an edit writes a run and has no free slot, there is room for one more record
  pub room_for : (same : X → X → Bool) → DecidesEquality same
      → (f g : ℕ → Option X) (start from to : ℕ) (v : Option X) (xs ys : List (RunOf X))
      (room : ℕ) → HasRoomToEdit same f g room
      → IsEmptyFrom (2 ^ 64) f → from ≤ to → to ≤ 2 ^ 64 → IsSweptTo g from (xs ++ run_or_none start from v) → start < from
      → is_some v ≡ true
      → IsRestFrom f to ys
      → length xs + length ys < room
  room_for same tells f g start from to v xs ys room has none order le swept lt some rest =
      let one = length_stretch start from v lt some in
      let front = swept_ends same tells g from (xs ++ run_or_none start from v) swept in
      let parts = length-append xs (run_or_none start from v) in
      let back = rest_ends same tells f to ys rest none le in
      let split = total-split (run_ends_at same f) from (to - from) (2 ^ 64 - to) (2 ^ 64 - from) to (omega arith) (omega arith) in
      let enough = has from (omega arith) in
      omega (arith, one, front, parts, back, split, enough)
