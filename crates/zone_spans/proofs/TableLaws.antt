-- Lemmas on the nodes of frames by the first records of a table, and by one more.
use Rattle.std.proofs.Common.{◌≡◌, ℕ, ◌+◌, ◌*◌, ◌<◌, Option, Some, None, List, length, get_or, take, refl, ap, arith}
use Rattle.std.proofs.lemmas.Bool.Decides.{nat_tests}
use Rattle.std.proofs.Math.Seq.{take-length}
use Rattle.address_runs.specs.Runs.{RunOf, value_at}
use Rattle.address_runs.specs.Edits.{IsEmptyFrom}
use Rattle.memblock_model.specs.Labels.{LabelView}
use Rattle.memblock_frames.specs.Frames.{valid_node, node_of_label, node_of_frame, frames_of_record}
use Rattle.memblock_frames.specs.HeadRecords.{AreAscendingBelow, AreWholeFrames}
use Rattle.memblock_frames.proofs.RecordLaws.{taken_none}
use Rattle.memblock_frames.proofs.WholeLaws.{whole_at}
use Rattle.memblock_frames.proofs.TakeLaws.{node_more}
use Rattle.zone_spans.specs.Slots.{frames_with_node_run}

-- the node of a record is below 1,024
pub low_node : (o : Option ℕ) (n : ℕ) → valid_node o ≡ Some n → n < 1024
low_node o n is = grind (arith, nat_tests)

-- the records before one have no frame at or above its first
pub nothing_taken : (b : ℕ) (ms : List (RunOf LabelView)) (i : ℕ) (d : RunOf LabelView) → AreAscendingBelow b ms → AreWholeFrames ms
    → i < length ms
    → IsEmptyFrom (frames_of_record (get_or ms i d)).first (node_of_frame (value_at (take i ms)))
nothing_taken b ms i d ascend whole few x above =
    let base = (whole_at ms i d whole few).0 in
    ap node_of_label (taken_none b ms i (4096 * x) d ascend few (omega (arith, above, base)))

-- a record with a node adds a run; one without changes nothing
pub taken_run : (b : ℕ) (ms : List (RunOf LabelView)) (i n : ℕ) (d : RunOf LabelView) → AreAscendingBelow b ms → AreWholeFrames ms
    → i < length ms
    → (frames_of_record (get_or ms i d)).node ≡ Some n
    → frames_with_node_run (frames_of_record (get_or ms i d)).first (frames_of_record (get_or ms i d)).end n
    (node_of_frame (value_at (take i ms)))
    ≡ node_of_frame (value_at (take (i + 1) ms))
taken_run b ms i n d ascend whole few is =
    let fs = frames_of_record (get_or ms i d) in
    let f = node_of_frame (value_at (take i ms)) in
    let same : (x : ℕ) → frames_with_node_run fs.first fs.end n f x ≡ node_of_frame (value_at (take (i + 1) ms)) x = λ x.
    grind (arith, node_more b ms i x d ascend whole few, is) in
    λ j x. same x j

pub taken_left : (b : ℕ) (ms : List (RunOf LabelView)) (i : ℕ) (d : RunOf LabelView) → AreAscendingBelow b ms → AreWholeFrames ms
    → i < length ms
    → (frames_of_record (get_or ms i d)).node ≡ None
    → node_of_frame (value_at (take i ms)) ≡ node_of_frame (value_at (take (i + 1) ms))
taken_left b ms i d ascend whole few is =
    let same : (x : ℕ) → node_of_frame (value_at (take i ms)) x ≡ node_of_frame (value_at (take (i + 1) ms)) x = λ x.
    grind (arith, nat_tests, node_more b ms i x d ascend whole few, is, nothing_taken b ms i d ascend whole few x) in
    λ j x. same x j

pub taken_all : (ms : List (RunOf LabelView)) (i : ℕ) → i ≡ length ms
    → node_of_frame (value_at (take i ms)) ≡ node_of_frame (value_at ms)
taken_all ms i all = rw (all, take-length ms) refl
