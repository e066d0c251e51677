use Rattle.std.proofs.Common.{◌≡◌, ℕ, ◌+◌, ◌<◌, get_or, map}
use Rattle.phys_store.specs.Bytes.{byte_of}
use Rattle.phys_store.specs.Extents.{extent_view}
use Rattle.phys_store.proofs.extents.read.Given as goal

-- the bytes that have been read so far
abbrev pub invariant-loop-k : goal.invariant-loop-k
invariant-loop-k l = (j : ℕ) → j < l.k → get_or l.into j 0 ≡ byte_of (map extent_view l.extents) (l.at + j)
