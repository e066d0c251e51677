-- Lemmas on checking a list of records one by one.
use Rattle.std.proofs.Common.{◌≡◌, ◌↔◌, ℕ, ◌+◌, ◌*◌, ◌%◌, ◌<◌, ◌≤◌, List, ◌∷◌, length, drop, arith, drop-cons, add-one, refl}
use Rattle.std.proofs.lemmas.List.{drop_all}
use Rattle.phys_store.specs.Bytes.{ExtentView, byte_of, bytes_at}
use Rattle.address_runs.specs.Runs.{RunOf, run_end}
use Rattle.address_runs.specs.Sweep.{StartAtOrPast}
use Rattle.memblock_model.specs.Labels.{LabelView}
use Rattle.memblock_ranges.specs.declared.region.Head.{Head}
use Rattle.memblock_ranges.specs.declared.region.Region.{Region}
use Rattle.memblock_ranges.specs.Encoding.{decode_region, decode_record}
use Rattle.memblock_ranges.specs.Tables.{records_of_head}
use Rattle.memblock_ranges.proofs.LentLaws.{count_is}
use Rattle.memblock_frames.specs.HeadRecords.{AreAscendingBelow, AreWholeFrames}
use Rattle.memblock_frames.proofs.RecordLaws.{record_by_bytes}

-- the list from an index on begins with the record that was read there
pub left_from : (s : List ExtentView) (h : Head) (i : ℕ) (g : Region) → i < h.count
    → g ≡ decode_region (bytes_at (byte_of s) (h.place + 24 * i) 24)
    → (r : RunOf LabelView) × (drop i (records_of_head s h) ≡ r ∷ drop (i + 1) (records_of_head s h)) × (r.base ≡ g.base)
    × (r.size ≡ g.size)
left_from s h i g few is =
    let r : RunOf LabelView = decode_record (bytes_at (byte_of s) (h.place + 24 * i) 24) in
    let long = count_is s h in
    (r, rw (add-one, drop-cons (records_of_head s h) i r (omega arith), record_by_bytes s h i r few) refl, rw is refl, rw is refl)

abbrev pub Ascends : ℕ → ℕ → List (RunOf LabelView) → Type 0
Ascends from b rs = StartAtOrPast from rs × AreAscendingBelow b rs

-- if a record is in its place, the list ascends exactly if the rest does
pub one_in_place : (b from i next : ℕ) (rs ss : List (RunOf LabelView)) (r : RunOf LabelView)
    → Ascends from b (drop i rs) ↔ AreAscendingBelow b rs
    → drop i rs ≡ r ∷ ss → from ≤ r.base → 0 < r.size → run_end r ≤ b → next ≡ run_end r → Ascends next b ss ↔ AreAscendingBelow b rs
one_in_place b from i next rs ss r known left above some low is = (
  (λ both. known.0 (rw left (above, (some, low, rw (← is) both.0, both.1)))),
  λ ascend. let whole = rw left at (known.1 ascend) in (rw is whole.1.2, whole.1.3),
)

-- if a record isn't in its place, the list doesn't ascend
pub out_of_place : (b from i : ℕ) (rs ss : List (RunOf LabelView)) (r : RunOf LabelView)
    → Ascends from b (drop i rs) ↔ AreAscendingBelow b rs
    → drop i rs ≡ r ∷ ss → (from ≤ r.base → 0 < r.size → run_end r ≤ b → ⊥) → AreAscendingBelow b rs → ⊥
out_of_place b from i rs ss r known left fails ascend =
    let whole = rw left at (known.1 ascend) in fails whole.0 whole.1.0 whole.1.1

-- if no record is left, the list ascends
pub all_in_place : (b from i : ℕ) (rs : List (RunOf LabelView)) → Ascends from b (drop i rs) ↔ AreAscendingBelow b rs → length rs ≤ i
    → AreAscendingBelow b rs
all_in_place b from i rs known all = known.0 (rw (drop_all i rs all) (tt, tt))

-- the same steps for records of whole frames
pub one_whole : (i : ℕ) (rs ss : List (RunOf LabelView)) (r : RunOf LabelView) → AreWholeFrames (drop i rs) ↔ AreWholeFrames rs
    → drop i rs ≡ r ∷ ss
    → r.base % 4096 ≡ 0 → r.size % 4096 ≡ 0 → AreWholeFrames ss ↔ AreWholeFrames rs
one_whole i rs ss r known left base size = (
  (λ rest. known.0 (rw left (base, size, rest))),
  λ whole. (rw left at (known.1 whole)).2,
)

pub not_whole : (i : ℕ) (rs ss : List (RunOf LabelView)) (r : RunOf LabelView) → AreWholeFrames (drop i rs) ↔ AreWholeFrames rs
    → drop i rs ≡ r ∷ ss
    → (r.base % 4096 ≡ 0 → r.size % 4096 ≡ 0 → ⊥) → AreWholeFrames rs → ⊥
not_whole i rs ss r known left fails whole =
    let parts = rw left at (known.1 whole) in fails parts.0 parts.1

pub all_whole : (i : ℕ) (rs : List (RunOf LabelView)) → AreWholeFrames (drop i rs) ↔ AreWholeFrames rs → length rs ≤ i → AreWholeFrames rs
all_whole i rs known all = known.0 (rw (drop_all i rs all) tt)
