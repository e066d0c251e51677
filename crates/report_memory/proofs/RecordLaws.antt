-- Lemmas on the lines of the records at a head, and of the records of a table that is stored in
-- the bytes.
use Rattle.std.proofs.Common.{◌≡◌, ℕ, suc, ◌+◌, ◌*◌, ◌<◌, List, [], ◌∷◌, ◌++◌, length, drop, get_or, refl, sym, ◌∙◌, ap, add-zero, arith}
use Rattle.phys_store.specs.Bytes.{ExtentView, byte_of, bytes_at}
use Rattle.address_runs.specs.Runs.{RunOf}
use Rattle.memblock_model.specs.Labels.{LabelView}
use Rattle.memblock_ranges.specs.declared.region.Head.{Head}
use Rattle.memblock_ranges.specs.declared.region.Region.{Region}
use Rattle.memblock_ranges.specs.Encoding.{records_at, decode_region, region_of, decode_record}
use Rattle.memblock_ranges.specs.Tables.{IsInStore, TableView, head_of, records_of_head}
use Rattle.memblock_ranges.proofs.LentLaws.{count_is}
use Rattle.memblock_frames.proofs.RecordLaws.{record_by_bytes}
use Rattle.report_memory.specs.Lines.{indexed_lines}
use Rattle.report_memory.specs.RecordsText.{record_line, records_text, region_line}
use Rattle.report_memory.proofs.LineLaws.{lines_at}

-- the line of the record at index i is the first of the lines that are left
pub next_line : (store : List ExtentView) (head : Head) (i : ℕ) (region : Region) → i < head.count
    → region ≡ decode_region (bytes_at (byte_of store) (head.place + 24 * i) 24)
    → indexed_lines record_line i (drop i (records_of_head store head))
    ≡ region_line i region ++ indexed_lines record_line (i + 1) (drop (i + 1) (records_of_head store head))
next_line store head i region within is =
    let r : RunOf LabelView = decode_record (bytes_at (byte_of store) (head.place + 24 * i) 24) in
    rw is (lines_at record_line (records_of_head store head) i r r (sym (record_by_bytes store head i r within))
    (omega (arith, count_is store head)))

-- the records of a table have the same lines as the records that are read from its bytes
lines_alike : (f : ℕ → ℕ) (a n : ℕ) (rs : List (RunOf LabelView))
    → ((i : ℕ) (r : RunOf LabelView) → i < length rs → decode_region (bytes_at f (a + 24 * i) 24) ≡ region_of (get_or rs i r))
    → indexed_lines record_line n (records_at f a (length rs)) ≡ indexed_lines record_line n rs
unfolding records_at
lines_alike f a n [] regions = refl
lines_alike f a n (r ∷ rs) regions =
    let first : decode_region (bytes_at f a 24) ≡ region_of r = rw add-zero at (regions 0 r (omega arith)) in
    let rest = lines_alike f (a + 24) (n + 1) rs
    (λ i d few. ap (λ x. decode_region (bytes_at f x 24)) (omega arith) ∙ regions (suc i) d (omega arith)) in
    ap (λ (g : Region). region_line n g ++ indexed_lines record_line (n + 1) (records_at f (a + 24) (length rs))) first
    ∙ ap (λ t. record_line n r ++ t) rest

pub standing_text : (t : TableView) (store : List ExtentView) → IsInStore t store
    → records_text (records_of_head store (head_of t)) ≡ records_text t.records
standing_text t store stands = lines_alike (byte_of store) t.place 0 t.records stands.regions
