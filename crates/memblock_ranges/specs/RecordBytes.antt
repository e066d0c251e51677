-- The records of a table, computed from a slice of its bytes.
use Rattle.std.specs.Prelude.{◌≡◌, ℕ, ◌*◌, ◌^◌, ◌<◌, List, length, slice_index}
use Rattle.phys_store.specs.Bytes.{bytes_at}
use Rattle.address_runs.specs.Runs.{RunOf}
use Rattle.memblock_model.specs.Labels.{LabelView}
use Rattle.memblock_ranges.specs.Encoding.{IsRecord, records_at}
use Rattle.memblock_ranges.specs.Tables.{AreRecords}

-- the runs of the first `count` records in the bytes
abbrev pub records_in_bytes : List ℕ → ℕ → List (RunOf LabelView)
records_in_bytes bs count = records_at (slice_index bs) 0 count

-- the bytes are exactly those of `count` valid records in ascending order
pub record AreRecordBytes (bs : List ℕ) (count : ℕ) : Type 0 where
  pub long : length bs ≡ 24 * count
  pub small : 24 * count < 2 ^ 64
  pub counted : length (records_in_bytes bs count) ≡ count
  pub each : (i : ℕ) → i < count → IsRecord (bytes_at (slice_index bs) (24 * i) 24)
  pub records : AreRecords (records_in_bytes bs count)
