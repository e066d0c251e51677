-- How the store keeps the bytes of its prepared addresses: as extents, each as long as possible. A
-- range that was prepared in parts is therefore in one extent.
use Rattle.std.specs.Prelude.{ℕ, ◌+◌, ◌-◌, ◌^◌, ◌<◌, ◌≤◌, List, [], ◌∷◌, ◌++◌, take, drop, length, slice_index_or}
use Rattle.phys_store.specs.declared.extents.Extent.{Extent}
use Rattle.phys_store.specs.Bytes.{ExtentView, end_of_extent, byte_of, bytes_at}

-- an extent, as contracts see it, without the spare room before its first byte
abbrev pub extent_view : Extent → ExtentView
extent_view e = record { base = e.base; bytes = drop e.front e.bytes.items }

-- the extents begin at or above address `e` and are in ascending order. None is empty, none touches
-- the next, and none ends above 2^64 - 1.
abbrev pub AreSortedAndApart : ℕ → List ExtentView → Type 0
AreSortedAndApart e [] = Unit {0}
AreSortedAndApart e (p ∷ ps) =
    (e ≤ p.base) × (0 < length p.bytes) × (p.base + length p.bytes < 2 ^ 64) × AreSortedAndApart (end_of_extent p + 1) ps

-- the extent with index `i`
abbrev pub nth_extent : List ExtentView → ℕ → ExtentView
nth_extent ps i = slice_index_or ps i (record { base = 0; bytes = [] })

-- the extents with the indices from `first` to just before `after` are those that overlap or touch
-- the addresses from `from` to below `to`, and they lie within these addresses
pub record AreTouchedExtents (ps : List ExtentView) (first after from to : ℕ) : Type 0 where
  pub order : first ≤ after
  pub most : after ≤ length ps
  pub below : (i : ℕ) → i < first → end_of_extent (nth_extent ps i) < from
  pub low : (i : ℕ) → first ≤ i → i < after → from ≤ (nth_extent ps i).base
  pub high : (i : ℕ) → first ≤ i → i < after → end_of_extent (nth_extent ps i) ≤ to
  pub above : (i : ℕ) → after ≤ i → i < length ps → to < (nth_extent ps i).base

-- one extent with the addresses from `from` to below `to`: each byte is that of the given extents,
-- or 0 if none of them has its address
abbrev pub extent_with_bytes_of : List ExtentView → ℕ → ℕ → ExtentView
extent_with_bytes_of ps from to = record { base = from; bytes = bytes_at (byte_of ps) from (to - from) }

-- the list with the extents from `first` to just before `after` replaced by one, which has the
-- addresses from `from` to below `to`
abbrev pub merge_extents : List ExtentView → ℕ → ℕ → ℕ → ℕ → List ExtentView
merge_extents ps first after from to =
    take first ps ++ extent_with_bytes_of (take (after - first) (drop first ps)) from to ∷ drop after ps
