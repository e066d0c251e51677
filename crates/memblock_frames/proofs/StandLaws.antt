-- Lemmas: the bytes in which a table is stored have the values of the table.
use Rattle.std.proofs.Common.{◌≡◌, ℕ, suc, ◌+◌, ◌-◌, ◌*◌, ◌/◌, ◌^◌, ◌<◌, ◌≤◌, ◌&&◌, Option, Some, None, List, [], ◌∷◌, length, get_or, refl, ◌∙◌, ap, inl, inr, arith, add-zero}
use Rattle.std.specs.Option.{is_some, is_none, unwrap_or}
use Rattle.std.proofs.lemmas.Bool.{cases_lt, cases_Bool}
use Rattle.bm_base.specs.Frames.{bytes_of_frame}
use Rattle.bm_base.proofs.EachLaws.{each_in-same}
use Rattle.phys_store.specs.Bytes.{ExtentView, byte_of, bytes_at}
use Rattle.address_runs.specs.Runs.{RunOf, run_end, lies_in, value_at, AreRuns}
use Rattle.address_runs.specs.Edits.{IsEmptyFrom}
use Rattle.address_runs.specs.Sweep.{StartAtOrPast}
use Rattle.address_runs.proofs.RunsLaws.{inside, past_end, rest_from}
use Rattle.memblock_model.specs.Labels.{LabelView}
use Rattle.memblock_ranges.specs.declared.region.Region.{Region}
use Rattle.memblock_ranges.specs.Encoding.{node_in, node_of_field, node_field, decode_region, region_of, records_at}
use Rattle.memblock_ranges.specs.Tables.{TableView, IsInStore, head_of, records_of_head}
use Rattle.memblock_frames.specs.Frames.{valid_node, node_of_label, node_of_frame, free_node_in}
use Rattle.memblock_frames.specs.HeadRecords.{AreAscendingBelow, HasRecords, AreWholeFrames}
use Rattle.memblock_frames.proofs.RecordLaws.{field_below}
use Rattle.memblock_frames.proofs.WholeLaws.{whole_by_value}

-- two lists whose records have the same addresses and the same nodes
abbrev Alike : List (RunOf LabelView) → List (RunOf LabelView) → Type 0
Alike [] [] = Unit {0}
Alike [] (s ∷ ss) = ⊥
Alike (r ∷ rs) [] = ⊥
Alike (r ∷ rs) (s ∷ ss) = (r.base ≡ s.base) × (r.size ≡ s.size) × (valid_node r.value.node ≡ valid_node s.value.node) × Alike rs ss

field_for : (o : Option ℕ) → valid_node (node_of_field (unwrap_or o 1024)) ≡ valid_node o
field_for None = refl
field_for (Some n) = field_below n

alike_from : (f : ℕ → ℕ) (a : ℕ) (rs : List (RunOf LabelView))
    → ((i : ℕ) (r : RunOf LabelView) → i < length rs → decode_region (bytes_at f (a + 24 * i) 24) ≡ region_of (get_or rs i r))
    → Alike (records_at f a (length rs)) rs
unfolding records_at
alike_from f a [] regions = tt
alike_from f a (r ∷ rs) regions =
    let first : decode_region (bytes_at f a 24) ≡ region_of r = rw add-zero at (regions 0 r (omega arith)) in
    let node : node_in (bytes_at f a 24) ≡ node_field r.value = ap (λ (g : Region). g.node) first in (
      ap (λ (g : Region). g.base) first,
      ap (λ (g : Region). g.size) first,
      ap (λ n. valid_node (node_of_field n)) node ∙ field_for r.value.node,
      alike_from f (a + 24) rs
          (λ i d few. ap (λ x. decode_region (bytes_at f x 24)) (omega arith) ∙ regions (suc i) d (omega arith)),
    )

-- if two lists are alike, they begin and end at the same addresses, and have values at the same
-- addresses
alike_starts : (at : ℕ) (rs ss : List (RunOf LabelView)) → Alike rs ss → StartAtOrPast at ss → StartAtOrPast at rs
alike_starts at [] [] alike start = tt
alike_starts at (r ∷ rs) (s ∷ ss) alike start = omega arith
alike_starts at rs ss alike start = absurd alike

alike_ascends : (b : ℕ) (rs ss : List (RunOf LabelView)) → Alike rs ss → AreAscendingBelow b ss → AreAscendingBelow b rs
alike_ascends b [] [] alike ascend = tt
alike_ascends b (r ∷ rs) (s ∷ ss) alike ascend = (
  omega arith,
  omega arith,
  alike_starts (run_end r) rs ss alike.3 (rw (alike.0, alike.1) ascend.2),
  alike_ascends b rs ss alike.3 ascend.3,
)
alike_ascends b rs ss alike ascend = absurd alike

-- two values of a byte are alike: both are present or both aren't, and they give the same node
pub record TellsAlike (u v : Option LabelView) : Type 0 where
  pub there : is_some u ≡ is_some v
  pub bare : is_none u ≡ is_none v
  pub node : node_of_label u ≡ node_of_label v

alike_tells : (x : ℕ) (rs ss : List (RunOf LabelView)) → Alike rs ss → TellsAlike (value_at rs x) (value_at ss x)
alike_tells x [] [] alike = record { there = refl; bare = refl; node = refl }
alike_tells x (r ∷ rs) (s ∷ ss) alike =
    let same : lies_in r x ≡ lies_in s x = rw (alike.0, alike.1) refl in
    elim (cases_Bool (lies_in s x)) [
      | inl lies ↦ rw (same, lies) (record { there = refl; bare = refl; node = alike.2 })
      | inr away ↦ rw (same, away) (alike_tells x rs ss alike.3)
    ]
alike_tells x rs ss alike = absurd alike

alike_stands : (t : TableView) (s : List ExtentView) → IsInStore t s → Alike (records_of_head s (head_of t)) t.records
alike_stands t s stands = alike_from (byte_of s) t.place t.records stands.regions

-- a canonical list ascends
runs_ascend : (b : ℕ) (rs : List (RunOf LabelView)) → AreRuns rs → IsEmptyFrom b (value_at rs) → AreAscendingBelow b rs
runs_ascend b [] runs none = tt
runs_ascend b (r ∷ rs) runs none =
    let low : run_end r ≤ b = elim (cases_lt b (run_end r)) [
      | inl lt ↦ absurd (cc (rw (inside r (run_end r - 1) (omega arith) (omega arith)) at (none (run_end r - 1) (omega arith))))
      | inr ge ↦ ge
    ] in (
      runs.0,
      low,
      rest_from r rs runs,
      runs_ascend b rs runs.2 (λ x high. rw (past_end r x (omega arith)) at (none x high)),
    )

pub stands_below : (t : TableView) (s : List ExtentView) (b : ℕ) → IsInStore t s → IsEmptyFrom b (value_at t.records)
    → HasRecords s (head_of t) b
stands_below t s b stands none = record {
  few = stands.few;
  fits = stands.fits;
  ascend = alike_ascends b (records_of_head s (head_of t)) t.records (alike_stands t s stands)
      (runs_ascend b t.records stands.records.runs none);
}

pub stands_ascending : (t : TableView) (s : List ExtentView) → IsInStore t s → HasRecords s (head_of t) (2 ^ 64)
stands_ascending t s stands = stands_below t s (2 ^ 64) stands stands.records.within

alike_whole : (rs ss : List (RunOf LabelView)) → Alike rs ss → AreWholeFrames ss → AreWholeFrames rs
alike_whole [] [] alike whole = tt
alike_whole (r ∷ rs) (s ∷ ss) alike whole = (omega arith, omega arith, alike_whole rs ss alike.3 whole.2)
alike_whole rs ss alike whole = absurd alike

-- if all addresses of a frame have the same value, the records that are read are whole frames
pub stands_whole : (t : TableView) (s : List ExtentView) → IsInStore t s
    → ((x : ℕ) → value_at t.records x ≡ value_at t.records (4096 * (x / 4096))) → AreWholeFrames (records_of_head s (head_of t))
stands_whole t s stands same =
    alike_whole (records_of_head s (head_of t)) t.records (alike_stands t s stands) (whole_by_value t.records stands.records.runs same)

pub stands_node : (t : TableView) (s : List ExtentView) (frame : ℕ) → IsInStore t s
    → node_of_frame (value_at (records_of_head s (head_of t))) frame ≡ node_of_frame (value_at t.records) frame
stands_node t s frame stands = (alike_tells (4096 * frame) (records_of_head s (head_of t)) t.records (alike_stands t s stands)).node

pub stands_free : (memory reserved : TableView) (s : List ExtentView) (frame : ℕ) → IsInStore memory s → IsInStore reserved s
    → free_node_in (value_at (records_of_head s (head_of memory))) (value_at (records_of_head s (head_of reserved))) frame
    ≡ free_node_in (value_at memory.records) (value_at reserved.records) frame
unfolding free_node_in
stands_free memory reserved s frame first second =
    let ms = records_of_head s (head_of memory) in
    let rs = records_of_head s (head_of reserved) in
    let each = each_in-same (bytes_of_frame frame) (λ x. is_some (value_at ms x) && is_none (value_at rs x))
    (λ x. is_some (value_at memory.records x) && is_none (value_at reserved.records x))
    (λ y above below. rw (
      (alike_tells y ms memory.records (alike_stands memory s first)).there,
      (alike_tells y rs reserved.records (alike_stands reserved s second)).bare,
    ) refl) in
    rw (each, stands_node memory s frame first) refl
