use Rattle.std.proofs.Common.{ℕ, ◌-◌, ◌^◌, ◌<◌, ◌≤◌, ◌||◌, IsTrue, map, length}
use Rattle.bm_base.specs.Range.{end_of, covers}
use Rattle.phys_store.specs.Bytes.{end_of_extent, is_prepared_at}
use Rattle.phys_store.specs.Extents.{extent_view, nth_extent}
use Rattle.phys_store.proofs.prepare.touched_extents.Given as goal

-- the extents so far are joined to the range
abbrev pub invariant-loop-after : goal.invariant-loop-after
invariant-loop-after l = record {
  order : l.first ≤ l.after;
  most : l.after ≤ length l.extents;
  least : l.low ≤ l.fn.range.base;
  end : end_of l.fn.range ≤ l.high;
  small : l.high < 2 ^ 64;
  below : (i : ℕ) → i < l.first → end_of_extent (nth_extent (map extent_view l.extents) i) < l.low;
  low : (i : ℕ) → l.first ≤ i → i < l.after → l.low ≤ (nth_extent (map extent_view l.extents) i).base;
  high : (i : ℕ) → l.first ≤ i → i < l.after → end_of_extent (nth_extent (map extent_view l.extents) i) ≤ l.high;
  ready : (x : ℕ) → l.low ≤ x → x < l.high → IsTrue (covers l.fn.range x || is_prepared_at (map extent_view l.extents) x);
}

abbrev pub decreases-loop-after : goal.decreases-loop-after
decreases-loop-after l = length l.extents - l.after
