-- The memory records as values: read from their bytes, and from the table that lies in these bytes.
use Rattle.std.proofs.Common.{◌≡◌, ◌∙◌, ℕ, suc, ◌+◌, ◌-◌, ◌*◌, ◌<◌, List, [], ◌∷◌, ◌++◌, map, length, get_or, refl, ap, sym, add-zero, append_assoc, arith}
use Rattle.std.proofs.lemmas.List.{append-nil}
use Rattle.phys_store.specs.Bytes.{ExtentView, byte_of, bytes_at}
use Rattle.address_runs.specs.Runs.{RunOf}
use Rattle.memblock_model.specs.Labels.{LabelView}
use Rattle.memblock_ranges.specs.declared.region.Region.{Region}
use Rattle.memblock_ranges.specs.Encoding.{decode_region, region_of}
use Rattle.memblock_ranges.specs.Tables.{IsInStore, TableView}
use Rattle.bootmem_c.specs.declared.values.MemoryRange.{MemoryRange}
use Rattle.bootmem_c.specs.Values.{record_value, region_value, regions_at}

-- the first of the remaining records is the record at index i
next : (f : ℕ → ℕ) (place count i : ℕ) → i < count
    → regions_at f (place + 24 * i) (count - i)
    ≡ region_value (decode_region (bytes_at f (place + 24 * i) 24)) ∷ regions_at f (place + 24 * (i + 1)) (count - (i + 1))
next f place count i within =
    let more : count - i ≡ suc (count - (i + 1)) = omega (arith, within) in
    let past : place + 24 * i + 24 ≡ place + 24 * (i + 1) = omega arith in
    ap (regions_at f (place + 24 * i)) more
    ∙ ap (λ (at : ℕ). region_value (decode_region (bytes_at f (place + 24 * i) 24)) ∷ regions_at f at (count - (i + 1))) past

-- adding the value of the next record to the values so far
pub one_more : (f : ℕ → ℕ) (place count i : ℕ) (before after : List MemoryRange) (one : MemoryRange) (region : Region) → i < count
    → region ≡ decode_region (bytes_at f (place + 24 * i) 24) → one ≡ region_value region → after ≡ before ++ one ∷ []
    → before ++ regions_at f (place + 24 * i) (count - i) ≡ regions_at f place count
    → after ++ regions_at f (place + 24 * (i + 1)) (count - (i + 1)) ≡ regions_at f place count
one_more f place count i before after one region within is of grew so_far =
    let first : one ≡ region_value (decode_region (bytes_at f (place + 24 * i) 24)) = of ∙ ap region_value is in
    let rest = regions_at f (place + 24 * (i + 1)) (count - (i + 1)) in
    ap (λ (values : List MemoryRange). values ++ rest) grew ∙ append_assoc before (one ∷ []) rest
    ∙ ap (λ (m : MemoryRange). before ++ (m ∷ rest)) first
    ∙ ap (λ (values : List MemoryRange). before ++ values) (sym (next f place count i within)) ∙ so_far

-- after the last record the values are those of all records
pub no_more : (f : ℕ → ℕ) (place count i : ℕ) (values : List MemoryRange) → i ≡ count
    → values ++ regions_at f (place + 24 * i) (count - i) ≡ regions_at f place count → values ≡ regions_at f place count
no_more f place count i values end so_far =
    let none : count - i ≡ 0 = omega (arith, end) in
    sym (append-nil values) ∙ sym (ap (λ (n : ℕ). values ++ regions_at f (place + 24 * i) n) none) ∙ so_far

-- the values of a table's records are those of the records in its bytes
alike : (f : ℕ → ℕ) (place : ℕ) (rs : List (RunOf LabelView))
    → ((i : ℕ) (r : RunOf LabelView) → i < length rs → decode_region (bytes_at f (place + 24 * i) 24) ≡ region_of (get_or rs i r))
    → regions_at f place (length rs) ≡ map record_value rs
alike f place [] regions = refl
alike f place (r ∷ rs) regions =
    let first : decode_region (bytes_at f place 24) ≡ region_of r = rw add-zero at (regions 0 r (omega arith)) in
    let rest = alike f (place + 24) rs
    (λ i d few. ap (λ x. decode_region (bytes_at f x 24)) (omega arith) ∙ regions (suc i) d (omega arith)) in
    ap (λ (g : Region). region_value g ∷ regions_at f (place + 24) (length rs)) first
    ∙ ap (λ (values : List MemoryRange). record_value r ∷ values) rest

pub standing_values : (t : TableView) (store : List ExtentView) → IsInStore t store
    → regions_at (byte_of store) t.place (length t.records) ≡ map record_value t.records
standing_values t store stands = alike (byte_of store) t.place t.records stands.regions
