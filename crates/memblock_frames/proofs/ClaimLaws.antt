-- Lemmas on frames that overlap a record of a table, and frames that don't.
use Rattle.std.proofs.Common.{◌≡◌, ℕ, ◌+◌, ◌-◌, ◌*◌, ◌/◌, ◌<◌, ◌≤◌, max, true, false, Option, Some, None, List, length, get_or, drop, refl, sym, ◌∙◌, ap, add-one, arith, drop-cons}
use Rattle.std.specs.Option.{is_none}
use Rattle.std.proofs.lemmas.List.{at_drop_all}
use Rattle.bm_base.specs.Frames.{bytes_of_frame}
use Rattle.bm_base.proofs.EachLaws.{each_in-all, each_in-fails}
use Rattle.address_runs.specs.Runs.{RunOf, value_at}
use Rattle.address_runs.specs.Sweep.{StartAtOrPast}
use Rattle.address_runs.proofs.RunsLaws.{inside, past_end}
use Rattle.memblock_model.specs.Labels.{LabelView, Labels}
use Rattle.memblock_frames.specs.declared.frames.RecordFrames.{RecordFrames}
use Rattle.memblock_frames.specs.Frames.{frames_of_record, is_unclaimed, OverlapOnlyBelow}
use Rattle.memblock_frames.specs.HeadRecords.{AreAscendingBelow}
use Rattle.memblock_frames.proofs.RecordLaws.{ascend_at, ascend_drop, ascend_none}

-- a frame without a value for any of its bytes overlaps no record
pub unclaimed_bare : (f : Labels) (frame : ℕ) → ((y : ℕ) → 4096 * frame ≤ y → y < 4096 * frame + 4096 → f y ≡ None)
    → is_unclaimed f frame ≡ true
unfolding is_unclaimed
unclaimed_bare f frame bare =
    each_in-all (bytes_of_frame frame) (λ y. is_none (f y)) (λ y above below. ap (λ (o : Option LabelView). is_none o) (bare y above below))

-- a frame with a value for one of its bytes overlaps a record
pub claimed_byte : (f : Labels) (frame y : ℕ) (v : LabelView) → 4096 * frame ≤ y → y < 4096 * frame + 4096 → f y ≡ Some v
    → is_unclaimed f frame ≡ false
unfolding is_unclaimed
claimed_byte f frame y v above below is =
    each_in-fails (bytes_of_frame frame) (λ z. is_none (f z)) y above below (ap (λ (o : Option LabelView). is_none o) is)

-- records that have nothing from a frame on have nothing from a later frame on
pub passed_later : (rs : List (RunOf LabelView)) (i at later : ℕ) → at ≤ later → OverlapOnlyBelow rs i at → OverlapOnlyBelow rs i later
passed_later rs i at later order passed x above = passed x (omega arith)

pub passed_none : (rs : List (RunOf LabelView)) (at : ℕ) → OverlapOnlyBelow rs 0 at
passed_none rs at x above = refl

-- a record that ends below the frame can be skipped
pub passed_more : (b : ℕ) (rs : List (RunOf LabelView)) (i at : ℕ) (d : RunOf LabelView) (fs : RecordFrames) → AreAscendingBelow b rs
    → i < length rs
    → fs ≡ frames_of_record (get_or rs i d) → fs.end ≤ at → OverlapOnlyBelow rs i at → OverlapOnlyBelow rs (i + 1) at
passed_more b rs i at d fs ascend few is ends passed x above =
    let r : RunOf LabelView = get_or rs i d in
    let some = (ascend_at b rs i d ascend few).0 in
    let end : fs.end ≡ (r.base + (r.size - 1)) / 4096 + 1 = ap (λ (g : RecordFrames). g.end) is in
    rw (← passed x above, add-one, drop-cons rs i d few, past_end r x (omega arith)) refl

-- after the last record the table has no byte
pub unclaimed_end : (rs : List (RunOf LabelView)) (i at x : ℕ) → length rs ≤ i → OverlapOnlyBelow rs i at → at ≤ x
    → is_unclaimed (value_at rs) x ≡ true
unclaimed_end rs i at x all passed above =
    unclaimed_bare (value_at rs) x
    (λ y low high. sym (passed y (omega arith)) ∙ at_drop_all (λ (ss : List (RunOf LabelView)). value_at ss y) rs i all)

-- between the records so far and the next, the table has no byte of a frame
pub unclaimed_gap : (b : ℕ) (rs : List (RunOf LabelView)) (i at x : ℕ) (d : RunOf LabelView) (fs : RecordFrames) → AreAscendingBelow b rs
    → i < length rs → fs ≡ frames_of_record (get_or rs i d) → OverlapOnlyBelow rs i at → at ≤ x → x < fs.first
    → is_unclaimed (value_at rs) x ≡ true
unclaimed_gap b rs i at x d fs ascend few is passed above before =
    let r : RunOf LabelView = get_or rs i d in
    let first : fs.first ≡ r.base / 4096 = ap (λ (g : RecordFrames). g.first) is in
    let starts : StartAtOrPast r.base (drop i rs) = rw (drop-cons rs i d few) (omega arith) in
    unclaimed_bare (value_at rs) x (λ y from until.
    sym (passed y (omega arith)) ∙ ascend_none b r.base y (drop i rs) (ascend_drop b rs i ascend) starts (omega arith))

-- the table has a byte of each frame of the next record
pub claimed_by : (b : ℕ) (rs : List (RunOf LabelView)) (i at x : ℕ) (d : RunOf LabelView) (fs : RecordFrames) → AreAscendingBelow b rs
    → i < length rs
    → fs ≡ frames_of_record (get_or rs i d) → OverlapOnlyBelow rs i at → at ≤ x → fs.first ≤ x → x < fs.end
    → is_unclaimed (value_at rs) x ≡ false
claimed_by b rs i at x d fs ascend few is passed above from until =
    let r : RunOf LabelView = get_or rs i d in
    let some = (ascend_at b rs i d ascend few).0 in
    let first : fs.first ≡ r.base / 4096 = ap (λ (g : RecordFrames). g.first) is in
    let end : fs.end ≡ (r.base + (r.size - 1)) / 4096 + 1 = ap (λ (g : RecordFrames). g.end) is in
    let y : ℕ = max (4096 * x) r.base in
    claimed_byte (value_at rs) x y r.value (omega arith) (omega arith)
    (rw (← passed y (omega arith), drop-cons rs i d few, inside r y (omega arith) (omega arith)) refl)
