-- Lemmas on records of whole frames.
use Rattle.std.proofs.Common.{◌≡◌, ℕ, zero, suc, ◌+◌, ◌-◌, ◌*◌, ◌/◌, ◌%◌, ◌<◌, ◌≤◌, Bool, ◌&&◌, Option, Some, None, List, [], ◌∷◌, length, get_or, if◌then◌else◌, refl, sym, ◌∙◌, ap, inl, inr, arith}
use Rattle.std.specs.Option.{is_some, is_none}
use Rattle.std.proofs.lemmas.Bool.Decides.{nat_tests}
use Rattle.std.proofs.lemmas.Bool.{cases_lt}
use Rattle.bm_base.specs.Each.{each_in}
use Rattle.bm_base.specs.Frames.{bytes_of_frame}
use Rattle.bm_base.proofs.EachLaws.{each_in-same}
use Rattle.address_runs.specs.Runs.{RunOf, run_end, lies_in, value_at, AreRuns}
use Rattle.address_runs.specs.Sweep.{StartAtOrPast}
use Rattle.address_runs.proofs.RunsLaws.{inside, past_end, none_below, rest_from, another_value_at_run_end}
use Rattle.memblock_model.specs.Labels.{LabelView, Labels}
use Rattle.memblock_frames.specs.Frames.{node_of_label, node_of_frame, is_unclaimed, free_node_in, frames_of_record}
use Rattle.memblock_frames.specs.HeadRecords.{AreWholeFrames}

lies_whole : (r : RunOf LabelView) (y : ℕ) → r.base % 4096 ≡ 0 → r.size % 4096 ≡ 0 → lies_in r y ≡ lies_in r (4096 * (y / 4096))
lies_whole r y base size = grind (arith, nat_tests)

-- all bytes of a frame have the same value
pub whole_value : (rs : List (RunOf LabelView)) (y : ℕ) → AreWholeFrames rs → value_at rs y ≡ value_at rs (4096 * (y / 4096))
whole_value [] y whole = refl
whole_value (r ∷ rs) y whole =
    rw (lies_whole r y whole.0 whole.1, whole_value rs y whole.2) refl

pub whole_at : (rs : List (RunOf LabelView)) (i : ℕ) (d : RunOf LabelView) → AreWholeFrames rs → i < length rs
    → ((get_or rs i d).base % 4096 ≡ 0) × ((get_or rs i d).size % 4096 ≡ 0)
whole_at [] i d whole few = absurd (omega arith)
whole_at (r ∷ rs) zero d whole few = (whole.0, whole.1)
whole_at (r ∷ rs) (suc i) d whole few = whole_at rs i d whole.2 (omega arith)

-- the first byte of each frame of such a record is in the record
pub first_byte : (r : RunOf LabelView) (x : ℕ) → 0 < r.size → r.base % 4096 ≡ 0 → r.size % 4096 ≡ 0
    → (frames_of_record r).first ≤ x → x < (frames_of_record r).end → (r.base ≤ 4096 * x) × (4096 * x < run_end r)
first_byte r x some base size from until = (omega arith, omega arith)

pub other_byte : (r : RunOf LabelView) (x : ℕ) → 0 < r.size → r.base % 4096 ≡ 0 → r.size % 4096 ≡ 0
    → r.base ≤ 4096 * x → 4096 * x < run_end r → ((frames_of_record r).first ≤ x) × (x < (frames_of_record r).end)
other_byte r x some base size from until = (omega arith, omega arith)

-- in memory of whole frames, a frame is free if its first byte is memory and none of its bytes is
-- reserved
pub free_by_first : (ms : List (RunOf LabelView)) (reserved : Labels) (x : ℕ) → AreWholeFrames ms
    → (if is_unclaimed reserved x then node_of_frame (value_at ms) x else None) ≡ free_node_in (value_at ms) reserved x
unfolding free_node_in is_unclaimed
free_by_first ms reserved x whole =
    let both : ℕ → Bool = λ y. is_some (value_at ms y) && is_none (reserved y) in
    let bare : ℕ → Bool = λ y. is_none (reserved y) in
    let first : Option LabelView = value_at ms (4096 * x) in
    let same : (y : ℕ) → 4096 * x ≤ y → y < 4096 * x + 4096 → value_at ms y ≡ first = λ y above below.
    whole_value ms y whole ∙ ap (value_at ms) (omega arith) in
    let Free : Option LabelView → Type 0 = λ v. value_at ms (4096 * x) ≡ v →
    (if each_in (bytes_of_frame x) bare then node_of_label v else None)
    ≡ (if each_in (bytes_of_frame x) both then node_of_label v else None) in
    let at : (v : Option LabelView) → Free v = λ v. elim v as Free [
      | None ↦ λ is. grind arith
      | Some label ↦ λ is.
          rw (each_in-same (bytes_of_frame x) bare both (λ y above below. rw (same y above below, is) refl)) refl
    ] in at first refl

-- a canonical list with the same value for all addresses of a frame has records of whole frames
pub whole_by_value : (rs : List (RunOf LabelView)) → AreRuns rs → ((x : ℕ) → value_at rs x ≡ value_at rs (4096 * (x / 4096)))
    → AreWholeFrames rs
whole_by_value [] runs same = tt
whole_by_value (r ∷ rs) runs same =
    let all : List (RunOf LabelView) = r ∷ rs in
    let start : StartAtOrPast r.base all = omega arith in
    let base : r.base % 4096 ≡ 0 = elim (cases_lt (4096 * (r.base / 4096)) r.base) [
      | inl lt ↦
          let here : value_at all r.base ≡ Some r.value = rw (inside r r.base (omega arith) (omega arith)) refl in
          absurd (cc (here, same r.base, none_below r.base (4096 * (r.base / 4096)) all runs start lt))
      | inr ge ↦ omega arith
    ] in
    let e : ℕ = run_end r in
    let end : e % 4096 ≡ 0 = elim (cases_lt (4096 * (e / 4096)) e) [
      | inl lt ↦
          let frame : 4096 * ((e - 1) / 4096) ≡ 4096 * (e / 4096) = omega (arith, lt) in
          let last : value_at all (e - 1) ≡ Some r.value = rw (inside r (e - 1) (omega arith) (omega arith)) refl in
          let next : value_at all e ≡ value_at rs e = rw (past_end r e (omega arith)) refl in
          absurd (another_value_at_run_end r rs runs
          (sym next ∙ same e ∙ sym (ap (value_at all) frame) ∙ sym (same (e - 1)) ∙ last))
      | inr ge ↦ omega (arith, ge)
    ] in
    let rest : (x : ℕ) → value_at rs x ≡ value_at rs (4096 * (x / 4096)) = λ x. elim (cases_lt x e) [
      | inl lt ↦
          none_below e x rs runs.2 (rest_from r rs runs) lt
          ∙ sym (none_below e (4096 * (x / 4096)) rs runs.2 (rest_from r rs runs) (omega arith))
      | inr ge ↦ rw (past_end r x ge, past_end r (4096 * (x / 4096)) (omega arith)) at (same x)
    ] in
    (base, omega arith, whole_by_value rs runs.2 rest)
