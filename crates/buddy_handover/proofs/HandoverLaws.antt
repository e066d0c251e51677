-- The steps of the handover: one range of unclaimed frames, and one record of memory.
use Rattle.std.proofs.Common.{◌≡◌, ℕ, ◌+◌, ◌*◌, ◌<◌, Some, None, List, length, get_or, take, arith}
use Rattle.std.proofs.lemmas.Bool.Decides.{nat_tests}
use Rattle.std.proofs.Math.Seq.{take-length}
use Rattle.address_runs.specs.Runs.{RunOf, value_at}
use Rattle.memblock_model.specs.Labels.{LabelView, Labels}
use Rattle.buddy_blocks.specs.Frames.{Frames}
use Rattle.memblock_frames.specs.Frames.{free_node_in, frames_of_record}
use Rattle.memblock_frames.specs.HeadRecords.{AreAscendingBelow, AreWholeFrames}
use Rattle.memblock_frames.proofs.RecordLaws.{taken_none}
use Rattle.memblock_frames.proofs.WholeLaws.{whole_at, free_by_first}
use Rattle.memblock_frames.proofs.TakeLaws.{node_more}
use Rattle.buddy_handover.specs.Handover.{free_unclaimed_frames, unclaimed_frames}

-- one more record of memory with a node frees its unclaimed frames
pub record_freed : (b : ℕ) (ms : List (RunOf LabelView)) (reserved : Labels) (i n : ℕ) (d : RunOf LabelView) (f g : Frames)
    → AreAscendingBelow b ms
    → AreWholeFrames ms → i < length ms → (frames_of_record (get_or ms i d)).node ≡ Some n
    → ((x : ℕ) → f x ≡ unclaimed_frames (value_at (take i ms)) reserved x)
    → ((x : ℕ) → g x ≡ free_unclaimed_frames (frames_of_record (get_or ms i d)).first (frames_of_record (get_or ms i d)).end n reserved f x)
    → (x : ℕ) → g x ≡ unclaimed_frames (value_at (take (i + 1) ms)) reserved x
record_freed b ms reserved i n d f g ascend whole few is known put x =
    let more = node_more b ms i x d ascend whole few in let was = known x in let now = put x in
    grind (arith, nat_tests, more, is, was, now)

-- one more record of memory without a node frees nothing
pub record_left : (b : ℕ) (ms : List (RunOf LabelView)) (reserved : Labels) (i : ℕ) (d : RunOf LabelView) (f : Frames)
    → AreAscendingBelow b ms
    → AreWholeFrames ms → i < length ms → (frames_of_record (get_or ms i d)).node ≡ None
    → ((x : ℕ) → f x ≡ unclaimed_frames (value_at (take i ms)) reserved x)
    → (x : ℕ) → f x ≡ unclaimed_frames (value_at (take (i + 1) ms)) reserved x
record_left b ms reserved i d f ascend whole few is known x =
    let more = node_more b ms i x d ascend whole few in
    let sizes = whole_at ms i d whole few in
    let base = sizes.0 in
    let none = taken_none b ms i (4096 * x) d ascend few in
    let was = known x in
    grind (arith, nat_tests, more, is, was, none, base)

-- after all records the free frames are those of both tables
pub all_handed : (ms : List (RunOf LabelView)) (reserved : Labels) (i : ℕ) (f : Frames) → AreWholeFrames ms → i ≡ length ms
    → ((x : ℕ) → f x ≡ unclaimed_frames (value_at (take i ms)) reserved x) → (x : ℕ) → f x ≡ free_node_in (value_at ms) reserved x
all_handed ms reserved i f whole all known x = rw (← free_by_first ms reserved x whole) (rw (all, take-length ms) at (known x))
