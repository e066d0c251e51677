-- Reading a table's records from the slice of its bytes.
use Rattle.std.proofs.Common.{◌≡◌, ℕ, zero, suc, ◌+◌, ◌-◌, ◌*◌, ◌<◌, ◌≤◌, List, ◌∷◌, length, get_or, take, drop, refl, sym, ◌∙◌, ap, subst, arith}
use Rattle.std.specs.Prelude.{slice_index}
use Rattle.std.specs.List.{slice_range}
use Rattle.std.proofs.lemmas.List.{get_or-take, get_or-drop, length-take-le, length-drop}
use Rattle.phys_store.specs.Bytes.{ExtentView, byte_of, bytes_at}
use Rattle.phys_store.proofs.ByteLists.{length-bytes_at, get-bytes_at, told_bytes}
use Rattle.address_runs.specs.Runs.{RunOf}
use Rattle.memblock_model.specs.Labels.{LabelView}
use Rattle.memblock_ranges.specs.declared.region.Head.{Head}
use Rattle.memblock_ranges.specs.Encoding.{flags_in, node_in, label_of, decode_region, region_of, decode_record, records_at, node_field, FitsRecord, IsRecord}
use Rattle.memblock_ranges.specs.Tables.{HasTable, AreRecords, records_of_head}
use Rattle.memblock_ranges.specs.RecordBytes.{records_in_bytes, AreRecordBytes}
use Rattle.memblock_ranges.proofs.SpellLaws.{length-records_at, get-records_at}
use Rattle.memblock_ranges.proofs.TableSpelling.{node_field-label_of, region_back}

-- a part of a slice of bytes is a slice of the same bytes
piece_at : (f : ℕ → ℕ) (a m x n : ℕ) → x + n ≤ m → bytes_at (slice_index (bytes_at f a m)) x n ≡ bytes_at f (a + x) n
piece_at f a m x n within =
    told_bytes f (a + x) n (bytes_at (slice_index (bytes_at f a m)) x n) (length-bytes_at (slice_index (bytes_at f a m)) x n)
    (λ k less. let there : a + (x + k) ≡ a + x + k = omega arith in
    get-bytes_at (slice_index (bytes_at f a m)) x n k less ∙ get-bytes_at f a m (x + k) (omega arith) ∙ ap f there)

runs_at : (f : ℕ → ℕ) (a m x count : ℕ) → x + 24 * count ≤ m
    → records_at (slice_index (bytes_at f a m)) x count ≡ records_at f (a + x) count
unfolding records_at
runs_at f a m x zero within = refl
runs_at f a m x (suc count) within =
    let there : a + (x + 24) ≡ a + x + 24 = omega arith in
    ap (λ (bs : List ℕ). decode_record bs ∷ records_at (slice_index (bytes_at f a m)) (x + 24) count) (piece_at f a m x 24 (omega arith))
    ∙ ap (λ (rs : List (RunOf LabelView)). decode_record (bytes_at f (a + x) 24) ∷ rs) (runs_at f a m (x + 24) count (omega arith)
    ∙ ap (λ (y : ℕ). records_at f y count) there)

-- the table's records are those of the slice of its bytes
pub lent_runs : (f : ℕ → ℕ) (a count : ℕ) → records_in_bytes (bytes_at f a (24 * count)) count ≡ records_at f a count
lent_runs f a count =
    let here : a + 0 ≡ a = omega arith in
    runs_at f a (24 * count) 0 count (omega arith) ∙ ap (λ (y : ℕ). records_at f y count) here

pub are_lent : (s : List ExtentView) (h : Head) → HasTable s h → AreRecords (records_of_head s h)
    → AreRecordBytes (bytes_at (byte_of s) h.place (24 * h.count)) h.count
are_lent s h table known = record {
  long = length-bytes_at (byte_of s) h.place (24 * h.count);
  small = omega (arith, table.few, table.fits);
  counted = length-records_at (slice_index (bytes_at (byte_of s) h.place (24 * h.count))) 0 h.count;
  each = λ i less. subst IsRecord (sym (piece_at (byte_of s) h.place (24 * h.count) (24 * i) 24 (omega arith))) (table.records i less);
  records = subst AreRecords (sym (lent_runs (byte_of s) h.place h.count)) known;
}

-- a part of a list of bytes is `bytes_at` of that list, from the part's first index on
pub slice_is : (bs : List ℕ) (from until n : ℕ) → until ≡ from + n → until ≤ length bs
    → slice_range bs from until ≡ bytes_at (slice_index bs) from n
slice_is bs from until n is within =
    let long : until - from ≡ n = omega arith in
    let rest = length-drop from bs in
    let size : length (take (until - from) (drop from bs)) ≡ n = length-take-le (until - from) (drop from bs) (omega arith) ∙ long in
    told_bytes (slice_index bs) from n (slice_range bs from until) size
    (λ k less. get_or-take (until - from) (drop from bs) k 0 (omega arith) ∙ get_or-drop from bs k 0)

-- the region at an index is that of the record there
pub record_is : (bs : List ℕ) (count i : ℕ) (r : RunOf LabelView) → AreRecordBytes bs count → i < count
    → decode_region (bytes_at (slice_index bs) (24 * i) 24) ≡ region_of (get_or (records_in_bytes bs count) i r)
record_is bs count i r lent less =
    let here : 0 + 24 * i ≡ 24 * i = omega arith in
    region_back (bytes_at (slice_index bs) (24 * i) 24) (lent.each i less)
    ∙ sym (ap region_of (get-records_at (slice_index bs) 0 count i r less
    ∙ ap (λ (y : ℕ). decode_record (bytes_at (slice_index bs) y 24)) here))

run_fits : (bs : List ℕ) → IsRecord bs → FitsRecord (decode_record bs)
run_fits bs known =
    let back = node_field-label_of (flags_in bs) (node_in bs) in
    record {
      small = known.within;
      node = omega (arith, back, known.node);
      back = ap (λ (flags : ℕ). label_of flags (node_field (label_of (flags_in bs) (node_in bs)))) (sym known.flags)
          ∙ ap (label_of (flags_in bs)) back;
    }

pub record_fits : (bs : List ℕ) (count i : ℕ) (r : RunOf LabelView) → AreRecordBytes bs count → i < count
    → FitsRecord (get_or (records_in_bytes bs count) i r)
record_fits bs count i r lent less =
    let here : 0 + 24 * i ≡ 24 * i = omega arith in
    subst FitsRecord
    (sym (get-records_at (slice_index bs) 0 count i r less ∙ ap (λ (y : ℕ). decode_record (bytes_at (slice_index bs) y 24)) here))
    (run_fits (bytes_at (slice_index bs) (24 * i) 24) (lent.each i less))

-- the number of a table's records is the count of its head
pub count_is : (s : List ExtentView) (h : Head) → length (records_of_head s h) ≡ h.count
count_is s h = length-records_at (byte_of s) h.place h.count
