-- How many records edits add, and how many pieces a range has.
use Rattle.std.proofs.Common.{◌≡◌, ℕ, zero, suc, ◌+◌, ◌-◌, ◌%◌, ◌^◌, nat_lt, not, ◌<◌, ◌≤◌, ◌==◌, Bool, true, false, ◌&&◌, if◌then◌else◌, Option, Some, None, List, [], ◌∷◌, ◌++◌, length, refl, sym, ◌∙◌, ap, subst, arith, inl, inr, length-append}
use Rattle.std.specs.Prelude.{is_none}
use Rattle.std.proofs.lemmas.Bool.{cases_Bool}
use Rattle.std.proofs.lemmas.Bool.Decides.{nat_tests}
use Rattle.bm_base.specs.Range.{RangeView, covers, end_of}
use Rattle.address_runs.specs.Runs.{RunOf, run_end, value_at, IsRunsOf}
use Rattle.address_runs.specs.Edits.{cover_range, uncover_range, relabel_range, gaps_in_range, IsEmptyFrom}
use Rattle.address_runs.specs.Sweep.{IsSweptTo}
use Rattle.address_runs.proofs.SweepLaws.{swept_none}
use Rattle.run_edits.specs.Records.{run_or_none}
use Rattle.run_edits.specs.Ends.{run_ends_between, run_ends_at, total, one_right_below}
use Rattle.run_edits.proofs.EndLaws.{total-alike, total-fewer, total-add, total-quiet, spikes_few, all_ends}
use Rattle.run_edits.proofs.CountLaws.{covered_length, uncovered_length, relabelled_length}
use Rattle.memblock_model.specs.Labels.{LabelView, Labels, plain_label}
use Rattle.memblock_model.specs.Same.{same_label}
use Rattle.memblock_model.specs.Items.{trim_frames}
use Rattle.memblock_model.specs.Tables.{records_for, uncovered_run_count}
use Rattle.memblock_model.proofs.SameLaws.{same_label_decides_equality}
use Rattle.memblock_model.proofs.TableLaws.{records_for-runs, records_for-is, value_at-records, nothing-trimmed}
use Rattle.memblock_ranges.proofs.EditLaws.{pieces_are}
use Rattle.memblock_ranges.proofs.PieceLaws.{edge_bare, one_at_most}
use Rattle.memblock_ranges.proofs.TrimLaws.{Turns, turns_all, turns_next, trim_step, trim_all}

pub length-covered : (r : RangeView) (v : LabelView) (f : Labels) → end_of r ≤ 2 ^ 64 → IsEmptyFrom (2 ^ 64) f →
    length (records_for (cover_range r v f)) ≤ length (records_for f) + uncovered_run_count r f
unfolding records_for uncovered_run_count
length-covered r v f ends none = covered_length same_label same_label_decides_equality r v plain_label f ends none

pub length-uncovered : (r : RangeView) (f : Labels) → IsEmptyFrom (2 ^ 64) f →
    length (records_for (uncover_range r f)) ≤ length (records_for f) + 1
unfolding records_for
length-uncovered r f none = uncovered_length same_label same_label_decides_equality r f none

pub length-relabelled : (r : RangeView) (change : LabelView → LabelView) (f : Labels) → IsEmptyFrom (2 ^ 64) f →
    length (records_for (relabel_range r change f)) ≤ length (records_for f) + 2
unfolding records_for
length-relabelled r change f none = relabelled_length same_label same_label_decides_equality r change f none

-- each record is cut to one record or to none
one_stretch : (start until : ℕ) (v : LabelView) → length (run_or_none start until (Some v)) ≤ 1
one_stretch start until v = elim (cases_Bool (nat_lt start until)) as (λ _. length (run_or_none start until (Some v)) ≤ 1) [
  | inl some ↦ rw some (omega arith)
  | inr none ↦ rw none (omega arith)
]

cut_few : (f : Labels) (at : ℕ) (rs xs : List (RunOf LabelView)) → Turns f at rs → IsSweptTo (trim_frames f) at xs →
    (ss : List (RunOf LabelView)) × IsRunsOf (trim_frames f) ss × (length ss ≤ length xs + length rs)
cut_few f at [] xs turns swept = (xs, trim_all f at xs swept turns, omega arith)
cut_few f at (r ∷ rs) xs turns swept =
    let up : ℕ = r.base + (4096 - r.base % 4096) % 4096 in
    let down : ℕ = run_end r - run_end r % 4096 in
    let one = run_or_none up down (Some r.value) in
    let next = cut_few f (run_end r) rs (xs ++ one) (turns_next f at r rs turns)
    (trim_step f at r rs turns up down refl refl up down xs swept (λ some. refl) refl (λ none. none)) in
    let few = one_stretch up down r.value in
    (next.0, next.1, omega (arith, next.2, few, length-append xs one))

pub length-trimmed : (f : Labels) → IsEmptyFrom (2 ^ 64) f → length (records_for (trim_frames f)) ≤ length (records_for f)
length-trimmed f none =
    let rs = records_for f in
    let runs = records_for-runs f none in
    let turns : Turns f 0 rs = subst (λ (g : Labels). Turns g 0 rs) (value_at-records f none) (turns_all rs runs.runs) in
    let cut = cut_few f 0 rs [] turns (swept_none (trim_frames f)) in
    let is : cut.0 ≡ records_for (trim_frames f) = records_for-is (trim_frames f) cut.0 (nothing-trimmed (2 ^ 64) f none) cut.1 in
    omega (arith, cut.2, ap length is)

-- 1 if a test holds, else 0. In a stretch of addresses as many pieces end as begin, except for a
-- piece that reaches past one of the stretch's bounds.
abbrev one : Bool → ℕ
one b = if b then 1 else 0

abbrev ends_at : (ℕ → Bool) → ℕ → ℕ
ends_at h x = one (h x && not (h (x + 1)))

abbrev begins_at : (ℕ → Bool) → ℕ → ℕ
begins_at h x = one (not (h x) && h (x + 1))

one_step : (a b : Bool) → one (a && not b) + one b ≡ one (not a && b) + one a
one_step true true = refl
one_step true false = refl
one_step false true = refl
one_step false false = refl

end_as_begun : (h : ℕ → Bool) (n x : ℕ) → total (ends_at h) x n + one (h (x + n)) ≡ total (begins_at h) x n + one (h x)
unfolding total
end_as_begun h zero x = let here : x + 0 ≡ x = omega arith in ap (λ y. 0 + one (h y)) here
end_as_begun h (suc n) x =
    let rest = end_as_begun h n (x + 1) in
    let step = one_step (h x) (h (x + 1)) in
    let there : x + suc n ≡ x + 1 + n = omega arith in
    let last : one (h (x + suc n)) ≡ one (h (x + 1 + n)) = ap (λ y. one (h y)) there in
    omega (arith, rest, step, last)

-- a piece begins where the range begins, or where a record ends
begin_at : (here next : Bool) (a b : Option LabelView) (s : ℕ) → (here ≡ false → next ≡ true → s ≡ 1) →
    one (not (here && is_none a) && (next && is_none b)) ≤ run_ends_between same_label a b + s
begin_at false false a b s first = omega arith
begin_at false true a None s first = let is = first refl refl in omega arith
begin_at false true a (Some w) s first = omega arith
begin_at true false None b s first = omega arith
begin_at true false (Some v) b s first = omega arith
begin_at true true None b s first = omega arith
begin_at true true (Some v) None s first = omega arith
begin_at true true (Some v) (Some w) s first = omega arith

range_begins : (r : RangeView) (x : ℕ) → covers r x ≡ false → covers r (x + 1) ≡ true → one_right_below r.base x ≡ 1
range_begins r x out lies = let here : (x + 1 == r.base) ≡ true = grind (arith, nat_tests) in rw here refl

-- a piece at address 0 begins where the range begins
first_or_spike : (r : RangeView) (f : Labels) (n : ℕ) → one (covers r 0 && is_none (f 0)) + total (one_right_below r.base) 0 n ≤ 1
first_or_spike r f n = elim (cases_Bool (covers r 0)) as (λ _. one (covers r 0 && is_none (f 0)) + total (one_right_below r.base) 0 n ≤ 1) [
  | inl lies ↦
      let base : r.base ≡ 0 = grind (arith, nat_tests) in
      let none : total (one_right_below r.base) 0 n ≡ 0 = total-quiet (one_right_below r.base) 0 n
      (λ y above under. let past : (y + 1 == r.base) ≡ false = grind (arith, nat_tests) in rw past refl) in
      let few = one_at_most (covers r 0 && is_none (f 0)) in
      omega (arith, none, few)
  | inr out ↦ let few = spikes_few r.base 0 n in rw out (omega (arith, few))
]

pub few-pieces : (r : RangeView) (f : Labels) → end_of r ≤ 2 ^ 64 → IsEmptyFrom (2 ^ 64) f
    → uncovered_run_count r f ≤ length (records_for f) + 1
few-pieces r f ends none =
    let h : ℕ → Bool = λ x. covers r x && is_none (f x) in
    let known = records_for-runs f none in
    let count : length (records_for f) ≡ total (run_ends_at same_label f) 0 (2 ^ 64) =
    all_ends same_label same_label_decides_equality (records_for f) known.runs (λ x le. known.each x ∙ none x le)
    ∙ ap (λ (g : Labels). total (run_ends_at same_label g) 0 (2 ^ 64)) (value_at-records f none) in
    let is = pieces_are r f ends in
    let ended : total (run_ends_at same_label (gaps_in_range r plain_label f)) 0 (2 ^ 64) ≡ total (ends_at h) 0 (2 ^ 64) =
    total-alike (run_ends_at same_label (gaps_in_range r plain_label f)) (ends_at h) 0 (2 ^ 64)
    (λ y above under. edge_bare (h y) (h (y + 1))) in
    let begun = end_as_begun h (2 ^ 64) 0 in
    let few : total (begins_at h) 0 (2 ^ 64) ≤ total (λ y. run_ends_at same_label f y + one_right_below r.base y) 0 (2 ^ 64) =
    total-fewer (begins_at h) (λ y. run_ends_at same_label f y + one_right_below r.base y) 0 (2 ^ 64)
    (λ y above under. begin_at (covers r y) (covers r (y + 1)) (f y) (f (y + 1)) (one_right_below r.base y) (range_begins r y)) in
    let parts = total-add (run_ends_at same_label f) (one_right_below r.base) 0 (2 ^ 64) in
    let first = first_or_spike r f (2 ^ 64) in
    omega (arith, count, is, ended, begun, few, parts, first)

-- a range of which nothing is covered is one piece
pub one-piece : (r : RangeView) (f : Labels) → end_of r ≤ 2 ^ 64 → 0 < r.size → ((x : ℕ) → r.base ≤ x → x < end_of r → f x ≡ None) →
    uncovered_run_count r f ≡ 1
unfolding uncovered_run_count
one-piece r f ends some blank =
    let g = gaps_in_range r plain_label f in
    let whole : RunOf LabelView = record { base = r.base; size = r.size; value = plain_label } in
    let each : (x : ℕ) → value_at (whole ∷ []) x ≡ g x = λ x. elim (cases_Bool (covers r x)) as (λ _. value_at (whole ∷ []) x ≡ g x) [
      | inl lies ↦ rw (lies, blank x (grind (arith, nat_tests)) (grind (arith, nat_tests))) refl
      | inr out ↦ rw out refl
    ] in
    let none : IsEmptyFrom (2 ^ 64) g = λ x le. let out : covers r x ≡ false = grind (arith, nat_tests) in rw out refl in
    sym (ap length (records_for-is g (whole ∷ []) none (record { runs = (some, tt, tt); each = each })))
