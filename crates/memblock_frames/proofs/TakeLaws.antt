-- Lemmas on what the first records of a list say of a frame, and what one more record adds.
use Rattle.std.proofs.Common.{◌≡◌, ℕ, ◌+◌, ◌-◌, ◌*◌, ◌/◌, ◌<◌, ◌≤◌, nat_le, nat_lt, true, false, ◌&&◌, List, [], ◌∷◌, length, get_or, take, if◌then◌else◌, refl, sym, ◌∙◌, ap, inl, inr, arith, add-one}
use Rattle.std.proofs.lemmas.Bool.Decides.{nat_tests}
use Rattle.std.proofs.lemmas.Bool.{cases_Bool, false_from_ne_true}
use Rattle.std.proofs.Math.Seq.{take-suc}
use Rattle.address_runs.specs.Runs.{RunOf, run_end, lies_in, value_at}
use Rattle.address_runs.proofs.RunsLaws.{inside}
use Rattle.address_runs.proofs.SweepLaws.{value_append_none, value_append_left}
use Rattle.memblock_model.specs.Labels.{LabelView}
use Rattle.memblock_frames.specs.declared.frames.RecordFrames.{RecordFrames}
use Rattle.memblock_frames.specs.Frames.{node_of_frame, frames_of_record}
use Rattle.memblock_frames.specs.HeadRecords.{AreAscendingBelow, AreWholeFrames}
use Rattle.memblock_frames.proofs.RecordLaws.{ascend_at, taken_none, in_order, frames_order}
use Rattle.memblock_frames.proofs.WholeLaws.{whole_at, first_byte, other_byte}

lies_parts : (r : RunOf LabelView) (y : ℕ) → lies_in r y ≡ true → (r.base ≤ y) × (y < run_end r)
lies_parts r y lies = grind (arith, nat_tests)

pub both_tests : (first x end : ℕ) → first ≤ x → x < end → (nat_le first x && nat_lt x end) ≡ true
both_tests first x end low high = grind (arith, nat_tests)

pub tests_both : (first x end : ℕ) → (nat_le first x && nat_lt x end) ≡ true → (first ≤ x) × (x < end)
tests_both first x end holds = grind (arith, nat_tests)

-- the values of the records up to one, with the frames of that one
pub node_more : (b : ℕ) (ms : List (RunOf LabelView)) (i x : ℕ) (d : RunOf LabelView) → AreAscendingBelow b ms → AreWholeFrames ms
    → i < length ms
    → node_of_frame (value_at (take (i + 1) ms)) x
    ≡ (if nat_le (frames_of_record (get_or ms i d)).first x
    && nat_lt x (frames_of_record (get_or ms i d)).end then (frames_of_record (get_or ms i d)).node
    else node_of_frame (value_at (take i ms)) x)
node_more b ms i x d ascend whole few =
    let r : RunOf LabelView = get_or ms i d in
    let some = (ascend_at b ms i d ascend few).0 in
    let sizes = whole_at ms i d whole few in
    rw (add-one, take-suc ms i d few) (elim (cases_Bool (lies_in r (4096 * x))) [
      | inl lies ↦
          let ends : (r.base ≤ 4096 * x) × (4096 * x < run_end r) = lies_parts r (4096 * x) lies in
          let frames = other_byte r x some sizes.0 sizes.1 ends.0 ends.1 in
          rw (
            value_append_none (take i ms) (r ∷ []) (4096 * x) (taken_none b ms i (4096 * x) d ascend few ends.0),
            lies,
            both_tests (frames_of_record r).first x (frames_of_record r).end frames.0 frames.1,
          ) refl
      | inr away ↦
          let test : (nat_le (frames_of_record r).first x && nat_lt x (frames_of_record r).end) ≡ false = false_from_ne_true _ (λ holds.
          let parts = tests_both (frames_of_record r).first x (frames_of_record r).end holds in
          let bytes = first_byte r x some sizes.0 sizes.1 parts.0 parts.1 in
          cc (sym (inside r (4096 * x) bytes.0 bytes.1) ∙ away)) in
          rw (value_append_left (take i ms) (r ∷ []) (4096 * x) (rw away refl), test) refl
    ])

-- the frames of a record: at least one, below the bound, in the order of the records
pub frames_below : (b m : ℕ) (ms : List (RunOf LabelView)) (i : ℕ) (d : RunOf LabelView) (fs : RecordFrames) → AreAscendingBelow b ms
    → i < length ms
    → fs ≡ frames_of_record (get_or ms i d) → b ≤ 4096 * m → fs.end ≤ m
frames_below b m ms i d fs ascend few is bound =
    let r : RunOf LabelView = get_or ms i d in
    let fits = ascend_at b ms i d ascend few in
    let end : fs.end ≡ (r.base + (r.size - 1)) / 4096 + 1 = ap (λ (g : RecordFrames). g.end) is in
    omega arith

pub frames_in_order : (b : ℕ) (ms : List (RunOf LabelView)) (i k : ℕ) (d : RunOf LabelView) (fs : RecordFrames) → AreAscendingBelow b ms
    → AreWholeFrames ms
    → i < k → k < length ms → fs ≡ frames_of_record (get_or ms i d) → fs.end ≤ (frames_of_record (get_or ms k d)).first
frames_in_order b ms i k d fs ascend whole order few is =
    let r : RunOf LabelView = get_or ms i d in
    let s : RunOf LabelView = get_or ms k d in
    let some = (ascend_at b ms i d ascend (omega arith)).0 in
    let sizes = whole_at ms i d whole (omega arith) in
    let apart = in_order b ms i k d ascend order few in
    let end : fs.end ≡ (r.base + (r.size - 1)) / 4096 + 1 = ap (λ (g : RecordFrames). g.end) is in
    omega arith

pub frames_some : (r : RunOf LabelView) (fs : RecordFrames) → fs ≡ frames_of_record r → fs.first ≤ fs.end
frames_some r fs is = omega (arith, frames_order r fs is)
