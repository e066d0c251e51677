use Rattle.std.proofs.Common.{ℕ, ◌-◌, ◌<◌, ◌≤◌, map, length}
use Rattle.phys_store.specs.Bytes.{end_of_extent}
use Rattle.phys_store.specs.Extents.{extent_view, nth_extent}
use Rattle.phys_store.proofs.extents.first_extent_ending_at_or_above.Given as goal

-- the extents before `low` end below the address, and the one at `high` doesn't
abbrev pub invariant-loop-low : goal.invariant-loop-low
invariant-loop-low l = record {
  order : l.low ≤ l.high;
  most : l.high ≤ length l.extents;
  below : (i : ℕ) → i < l.low → end_of_extent (nth_extent (map extent_view l.extents) i) < l.address;
  reaches : l.high < length l.extents → l.address ≤ end_of_extent (nth_extent (map extent_view l.extents) l.high);
}

abbrev pub decreases-loop-low : goal.decreases-loop-low
decreases-loop-low l = l.high - l.low
