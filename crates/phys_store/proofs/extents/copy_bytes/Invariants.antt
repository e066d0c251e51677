use Rattle.std.proofs.Common.{◌+◌, ◌-◌, ◌≤◌, map}
use Rattle.phys_store.specs.Bytes.{byte_of, WritesBytes}
use Rattle.phys_store.specs.Extents.{extent_view, AreSortedAndApart}
use Rattle.phys_store.proofs.extents.copy_bytes.Given as goal

-- the bytes that have been copied so far
abbrev pub invariant-loop-done : goal.invariant-loop-done
invariant-loop-done l = record {
  most : l.done ≤ l.count;
  apart : AreSortedAndApart 0 (map extent_view l.extents);
  wrote : WritesBytes (map extent_view l.fn.extents) (map extent_view l.extents) l.to l.done (λ k.
      byte_of (map extent_view l.fn.extents) (l.from + k));
}

abbrev pub decreases-loop-done : goal.decreases-loop-done
decreases-loop-done l = l.count - l.done
