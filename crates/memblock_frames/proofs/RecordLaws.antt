-- Lemmas on the records of an ascending list: each by its index, and the values below and above
-- them.
use Rattle.std.proofs.Common.{◌≡◌, ℕ, zero, suc, ◌+◌, ◌-◌, ◌*◌, ◌/◌, ◌^◌, ◌<◌, ◌≤◌, ◌==◌, nat_lt, Option, Some, None, List, [], ◌∷◌, length, get_or, take, drop, if◌then◌else◌, refl, ap, inl, inr, arith}
use Rattle.std.proofs.lemmas.Bool.{cases_Bool, eqb-true}
use Rattle.phys_store.specs.Bytes.{ExtentView, byte_of, bytes_at}
use Rattle.address_runs.specs.Runs.{RunOf, run_end, value_at}
use Rattle.address_runs.specs.Sweep.{StartAtOrPast}
use Rattle.address_runs.proofs.RunsLaws.{below, past_end}
use Rattle.memblock_model.specs.Labels.{LabelView}
use Rattle.memblock_ranges.specs.declared.region.Head.{Head}
use Rattle.memblock_ranges.specs.declared.region.Region.{Region}
use Rattle.memblock_ranges.specs.Encoding.{node_in, node_of_field, decode_region, decode_record}
use Rattle.memblock_ranges.specs.Tables.{records_of_head}
use Rattle.memblock_ranges.proofs.SpellLaws.{get-records_at}
use Rattle.memblock_ranges.proofs.LentLaws.{count_is}
use Rattle.memblock_frames.specs.declared.frames.RecordFrames.{RecordFrames}
use Rattle.memblock_frames.specs.Frames.{valid_node, frames_of_record}
use Rattle.memblock_frames.specs.HeadRecords.{AreAscendingBelow, HasRecords}

-- a record of a head, by its bytes
pub record_by_bytes : (s : List ExtentView) (h : Head) (i : ℕ) (d : RunOf LabelView) → i < h.count
    → get_or (records_of_head s h) i d ≡ decode_record (bytes_at (byte_of s) (h.place + 24 * i) 24)
record_by_bytes s h i d few = get-records_at (byte_of s) h.place h.count i d few

-- the node in a field, if it is below 1,024
pub field_below : (n : ℕ) → valid_node (node_of_field n) ≡ (if nat_lt n 1024 then Some n else None)
field_below n = elim (cases_Bool (n == 1024)) as (λ _. valid_node (node_of_field n) ≡ (if nat_lt n 1024 then Some n else None)) [
  | inl none ↦ rw (none, eqb-true n 1024 none) refl
  | inr some ↦ rw some refl
]

-- a record isn't empty, and ends at or below the bound
pub ascend_at : (b : ℕ) (rs : List (RunOf LabelView)) (i : ℕ) (d : RunOf LabelView) → AreAscendingBelow b rs → i < length rs
    → (0 < (get_or rs i d).size) × (run_end (get_or rs i d) ≤ b)
ascend_at b [] i d ascend few = absurd (omega arith)
ascend_at b (r ∷ rs) zero d ascend few = (ascend.0, ascend.1)
ascend_at b (r ∷ rs) (suc i) d ascend few = ascend_at b rs i d ascend.3 (omega arith)

pub ascend_drop : (b : ℕ) (rs : List (RunOf LabelView)) (i : ℕ) → AreAscendingBelow b rs → AreAscendingBelow b (drop i rs)
ascend_drop b rs zero ascend = ascend
ascend_drop b [] (suc i) ascend = tt
ascend_drop b (r ∷ rs) (suc i) ascend = ascend_drop b rs i ascend.3

-- below the first record the list has no value
pub ascend_none : (b at x : ℕ) (rs : List (RunOf LabelView)) → AreAscendingBelow b rs → StartAtOrPast at rs → x < at → value_at rs x ≡ None
ascend_none b at x [] ascend start lt = refl
ascend_none b at x (r ∷ rs) ascend start lt =
    rw (below r x (omega arith)) (ascend_none b (run_end r) x rs ascend.3 ascend.2 (omega arith))

-- a later record begins at or above the end of an earlier one
pub start_at : (b at : ℕ) (rs : List (RunOf LabelView)) (i : ℕ) (d : RunOf LabelView) → AreAscendingBelow b rs → StartAtOrPast at rs
    → i < length rs
    → at ≤ (get_or rs i d).base
start_at b at [] i d ascend start few = absurd (omega arith)
start_at b at (r ∷ rs) zero d ascend start few = start
start_at b at (r ∷ rs) (suc i) d ascend start few = omega (arith, start_at b (run_end r) rs i d ascend.3 ascend.2 (omega arith))

pub in_order : (b : ℕ) (rs : List (RunOf LabelView)) (i k : ℕ) (d : RunOf LabelView) → AreAscendingBelow b rs → i < k → k < length rs
    → run_end (get_or rs i d) ≤ (get_or rs k d).base
in_order b (r ∷ rs) zero (suc k) d ascend order few = start_at b (run_end r) rs k d ascend.3 ascend.2 (omega arith)
in_order b (r ∷ rs) (suc i) (suc k) d ascend order few = in_order b rs i k d ascend.3 (omega arith) (omega arith)
in_order b rs i k d ascend order few = absurd (omega arith)

-- from the first byte of a record on, the records before it have no value
pub taken_none : (b : ℕ) (rs : List (RunOf LabelView)) (i x : ℕ) (d : RunOf LabelView) → AreAscendingBelow b rs → i < length rs
    → (get_or rs i d).base ≤ x
    → value_at (take i rs) x ≡ None
taken_none b [] i x d ascend few above = absurd (omega arith)
taken_none b (r ∷ rs) zero x d ascend few above = refl
taken_none b (r ∷ rs) (suc i) x d ascend few above =
    let far = start_at b (run_end r) rs i d ascend.3 ascend.2 (omega arith) in
    rw (past_end r x (omega (arith, far, above))) (taken_none b rs i x d ascend.3 (omega arith) above)

-- the record that is read is that of the list
pub region_fits : (s : List ExtentView) (h : Head) (i : ℕ) (g : Region) → HasRecords s h (2 ^ 64) → i < h.count
    → g ≡ decode_region (bytes_at (byte_of s) (h.place + 24 * i) 24) → (0 < g.size) × (g.base + g.size ≤ 2 ^ 64)
region_fits s h i g known few is =
    let r = decode_record (bytes_at (byte_of s) (h.place + 24 * i) 24) in
    rw is (rw (record_by_bytes s h i r few) at (ascend_at (2 ^ 64) (records_of_head s h) i r known.ascend (omega (arith, count_is s h))))

pub region_frames : (s : List ExtentView) (h : Head) (i : ℕ) (g : Region) (node : Option ℕ) (d : RunOf LabelView) → i < h.count
    → g ≡ decode_region (bytes_at (byte_of s) (h.place + 24 * i) 24) → node ≡ (if nat_lt g.node 1024 then Some g.node else None)
    → record { first = g.base / 4096; end = (g.base + (g.size - 1)) / 4096 + 1; node = node }
    ≡ frames_of_record (get_or (records_of_head s h) i d)
region_frames s h i g node d few is told =
    rw (told, is, record_by_bytes s h i d few, field_below (node_in (bytes_at (byte_of s) (h.place + 24 * i) 24))) refl

pub ascend_higher : (b c : ℕ) (rs : List (RunOf LabelView)) → b ≤ c → AreAscendingBelow b rs → AreAscendingBelow c rs
ascend_higher b c [] order ascend = tt
ascend_higher b c (r ∷ rs) order ascend = (ascend.0, omega arith, ascend.2, ascend_higher b c rs order ascend.3)

pub records_higher : (s : List ExtentView) (h : Head) (b c : ℕ) → b ≤ c → HasRecords s h b → HasRecords s h c
records_higher s h b c order known =
    record { few = known.few; fits = known.fits; ascend = ascend_higher b c (records_of_head s h) order known.ascend }

-- a record has at least one frame
pub frames_order : (r : RunOf LabelView) (fs : RecordFrames) → fs ≡ frames_of_record r → fs.first < fs.end
frames_order r fs is =
    let first : fs.first ≡ r.base / 4096 = ap (λ (g : RecordFrames). g.first) is in
    let end : fs.end ≡ (r.base + (r.size - 1)) / 4096 + 1 = ap (λ (g : RecordFrames). g.end) is in
    omega arith
