use Rattle.std.proofs.Common.{◌≡◌, ℕ, ◌-◌, ◌<◌, ◌≤◌, ◌++◌, ◌∷◌, [], drop, map, length, get_or, vec_len}
use Rattle.phys_store.specs.Bytes.{end_of_extent, byte_of}
use Rattle.phys_store.specs.Extents.{extent_view}
use Rattle.phys_store.proofs.prepare.copy_into_extent.Given as goal

-- the bytes of the extents from index `i` on have been copied
abbrev pub invariant-loop-i : goal.invariant-loop-i
invariant-loop-i l = record {
  most : l.i ≤ length l.others;
  base : l.extent.base ≡ l.fn.extent.base;
  front : l.extent.front ≡ l.fn.extent.front;
  count : vec_len l.extent.bytes ≡ vec_len l.fn.extent.bytes;
  told : (x : ℕ) → l.fn.extent.base ≤ x → x < end_of_extent (extent_view l.fn.extent) →
      get_or (extent_view l.extent).bytes (x - l.fn.extent.base) 0
      ≡ byte_of (drop l.i (map extent_view l.others) ++ extent_view l.fn.extent ∷ []) x;
}

abbrev pub decreases-loop-i : goal.decreases-loop-i
decreases-loop-i l = l.i
