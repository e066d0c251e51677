-- Each record is cut to whole frames, one after another.
use Rattle.std.proofs.Common.{◌≡◌, ◌≢◌, ℕ, ◌+◌, ◌-◌, ◌%◌, ◌<◌, ◌≤◌, false, nat_lt, Some, None, List, [], ◌∷◌, ◌++◌, refl, sym, ◌∙◌, subst, arith, inl, inr, append-nil}
use Rattle.std.proofs.lemmas.Bool.{cases_lt}
use Rattle.std.proofs.lemmas.Bool.Decides.{nat_tests}
use Rattle.address_runs.specs.Runs.{RunOf, run_end, value_at, AreRuns, IsRunsOf}
use Rattle.address_runs.specs.Sweep.{StartAtOrPast, IsSweptTo}
use Rattle.address_runs.proofs.RunsLaws.{inside, past_end, none_below, rest_from, another_value_at_run_end, start_zero}
use Rattle.address_runs.proofs.SweepLaws.{swept_over, swept_all}
use Rattle.run_edits.specs.Records.{run_or_none}
use Rattle.run_edits.proofs.JoinLaws.{swept_stretch}
use Rattle.memblock_model.specs.Labels.{LabelView, Labels}
use Rattle.memblock_model.specs.Items.{trim_frames}
use Rattle.memblock_model.proofs.LabelLaws.{trim_frames-whole, trim_frames-unlike, trim_frames-cases}

-- the remaining records are those of the function from address `at` on, as far as it can be read
-- from them
pub record Turns (f : Labels) (at : ℕ) (rs : List (RunOf LabelView)) : Type 0 where
  pub runs : AreRuns rs
  pub starts : StartAtOrPast at rs
  pub each : (x : ℕ) → at ≤ x → value_at rs x ≡ f x
  pub turn : 0 < at → f (at - 1) ≢ f at

pub turns_all : (rs : List (RunOf LabelView)) → AreRuns rs → Turns (value_at rs) 0 rs
turns_all rs runs = record { runs = runs; starts = start_zero rs; each = λ x le. refl; turn = λ some. absurd (omega arith) }

-- if an address has no label, it has none after the trim
trimmed_none : (f : Labels) (x : ℕ) → f x ≡ None → trim_frames f x ≡ None
trimmed_none f x none = elim (trim_frames-cases f x) as (λ _. trim_frames f x ≡ None) [
  | inl whole ↦ trim_frames-whole f x whole ∙ none
  | inr blank ↦ blank
]

trimmed_other : (f : Labels) (x : ℕ) (v : LabelView) → f x ≢ Some v → trim_frames f x ≢ Some v
trimmed_other f x v other = elim (trim_frames-cases f x) as (λ _. trim_frames f x ≢ Some v) [
  | inl whole ↦ λ same. other (sym (trim_frames-whole f x whole) ∙ same)
  | inr blank ↦ λ same. let clash : None ≡ Some v = sym blank ∙ same in cc clash
]

module _ (f : Labels) (at : ℕ) (r : RunOf LabelView) (rs : List (RunOf LabelView)) (turns : Turns f at (r ∷ rs)) where
  in_run : (x : ℕ) → r.base ≤ x → x < run_end r → f x ≡ Some r.value
  in_run x low high = let starts = turns.starts in sym (turns.each x (omega arith)) ∙ rw (inside r x low high) refl

  before_run : (x : ℕ) → at ≤ x → x < r.base → f x ≡ None
  before_run x low high =
      let starts : StartAtOrPast r.base (r ∷ rs) = omega arith in
      sym (turns.each x low) ∙ none_below r.base x (r ∷ rs) turns.runs starts high

  after_run : (x : ℕ) → run_end r ≤ x → value_at rs x ≡ f x
  after_run x past =
      let starts = turns.starts in
      let some : 0 < r.size = turns.runs.0 in
      let off : value_at (r ∷ rs) x ≡ value_at rs x = rw (past_end r x past) refl in
      sym off ∙ turns.each x (omega arith)

  end_other : f (run_end r) ≢ Some r.value
  end_other same = another_value_at_run_end r rs turns.runs (after_run (run_end r) (omega arith) ∙ same)

  first_other : 0 < r.base → f (r.base - 1) ≢ f r.base
  first_other some =
      let starts = turns.starts in
      let size : 0 < r.size = turns.runs.0 in
      elim (cases_lt at r.base) as (λ _. f (r.base - 1) ≢ f r.base) [
        | inl gap ↦ λ same.
            let clash : None ≡ Some r.value = sym (before_run (r.base - 1) (omega arith) (omega arith)) ∙ same
            ∙ in_run r.base (omega arith) (omega arith) in cc clash
        | inr touch ↦ let is : at ≡ r.base = omega arith in subst (λ n. f (n - 1) ≢ f n) is (turns.turn (omega arith))
      ]

  pub turns_next : Turns f (run_end r) rs
  turns_next =
      let size : 0 < r.size = turns.runs.0 in
      record {
        runs = turns.runs.2;
        starts = rest_from r rs turns.runs;
        each = after_run;
        turn = λ some same. end_other (sym same ∙ in_run (run_end r - 1) (omega arith) (omega arith));
      }

  -- the addresses of the record that are in none of its whole frames are cut
  module _ (up down : ℕ) (up_is : up ≡ r.base + (4096 - r.base % 4096) % 4096) (down_is : down ≡ run_end r - run_end r % 4096) where
    cut_low : (x : ℕ) → r.base ≤ x → x < run_end r → x < up → trim_frames f x ≡ None
    cut_low x low high less =
        trim_frames-unlike f x (r.base - 1) r.base (record { above = omega (arith, up_is); below = omega (arith, up_is) })
        (record { above = omega (arith, up_is); below = omega (arith, up_is) }) (first_other (omega (arith, up_is)))

    cut_high : (x : ℕ) → r.base ≤ x → x < run_end r → down ≤ x → trim_frames f x ≡ None
    cut_high x low high more =
        trim_frames-unlike f x (run_end r) (run_end r - 1) (record { above = omega arith; below = omega (arith, down_is) })
        (record { above = omega arith; below = omega (arith, down_is) })
        (λ same. end_other (same ∙ in_run (run_end r - 1) (omega arith) (omega arith)))

    kept : (x : ℕ) → up ≤ x → x < down → trim_frames f x ≡ Some r.value
    kept x low high =
        let here = in_run x (omega (arith, up_is)) (omega (arith, down_is)) in
        trim_frames-whole f x (λ y in_it. let above = in_it.above in let below = in_it.below in
        in_run y (omega (arith, up_is)) (omega (arith, down_is)) ∙ sym here) ∙ here

    -- below the record's first whole frame nothing stays
    ahead : (x : ℕ) → at ≤ x → x < run_end r → x < up → trim_frames f x ≡ None
    ahead x low high less = elim (cases_lt x r.base) as (λ _. trim_frames f x ≡ None) [
      | inl before ↦ trimmed_none f x (before_run x low before)
      | inr in_it ↦ cut_low x in_it high less
    ]

    pub trim_step : (start until : ℕ) (xs : List (RunOf LabelView)) → IsSweptTo (trim_frames f) at xs →
        (start < until → start ≡ up) → until ≡ down → (until ≤ start → down ≤ up) →
        IsSweptTo (trim_frames f) (run_end r) (xs ++ run_or_none start until (Some r.value))
    trim_step start until xs swept is_up is_down none =
        let starts = turns.starts in
        elim (cases_lt start until) as (λ _. IsSweptTo (trim_frames f) (run_end r) (xs ++ run_or_none start until (Some r.value))) [
          | inl some ↦
              let begin : start ≡ up = is_up some in
              let first = swept_over (trim_frames f) at start xs swept (omega (arith, begin, up_is))
              (λ x low high. ahead x low (omega (arith, begin, some, is_down, down_is, high)) (omega (arith, begin, high))) in
              let middle = swept_stretch (trim_frames f) start until (Some r.value) xs first (omega arith)
              (λ x low high. kept x (omega (arith, begin, low)) (omega (arith, is_down, high)))
              (λ same. absurd (elim (cases_lt until (run_end r)) as (λ _. ⊥) [
                | inl before ↦ let clash : None ≡ Some r.value =
                    sym (cut_high until (omega (arith, begin, up_is, some)) before (omega (arith, is_down))) ∙ same in cc clash
                | inr at_end ↦ let is : until ≡ run_end r = omega (arith, is_down, down_is) in
                    trimmed_other f (run_end r) r.value end_other (subst (λ n. trim_frames f n ≡ Some r.value) is same)
              ])) in
              swept_over (trim_frames f) until (run_end r) (xs ++ run_or_none start until (Some r.value)) middle
              (omega (arith, is_down, down_is))
              (λ x low high. cut_high x (omega (arith, begin, up_is, some, low)) high (omega (arith, is_down, low)))
          | inr empty ↦
              let test : nat_lt start until ≡ false = grind (arith, nat_tests) in
              let less : down ≤ up = none empty in
              rw (test, append-nil xs) (swept_over (trim_frames f) at (run_end r) xs swept (omega arith)
              (λ x low high. elim (cases_lt x up) as (λ _. trim_frames f x ≡ None) [
                | inl under ↦ ahead x low high under
                | inr over ↦ cut_high x (omega (arith, up_is, over)) high (omega (arith, less, over))
              ]))
        ]

-- without a remaining record everything above is cut
pub trim_all : (f : Labels) (at : ℕ) (xs : List (RunOf LabelView)) → IsSweptTo (trim_frames f) at xs → Turns f at []
    → IsRunsOf (trim_frames f) xs
trim_all f at xs swept turns = swept_all (trim_frames f) at xs swept (λ x le. trimmed_none f x (sym (turns.each x le)))
