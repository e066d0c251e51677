-- Address ranges, as contracts see them.
use Rattle.std.specs.Prelude.{ℕ, ◌+◌, Bool, ◌&&◌, nat_le, nat_lt, IsTrue}

-- what contracts see of a `Range`: its first address and its size in bytes
pub record RangeView : Type 0 where
  pub base : ℕ
  pub size : ℕ

-- the address right after the last byte
abbrev pub end_of : RangeView → ℕ
end_of r = r.base + r.size

-- whether the address lies in the range
abbrev pub covers : RangeView → ℕ → Bool
covers r x = nat_le r.base x && nat_lt x (r.base + r.size)

-- some address lies in both ranges
abbrev pub Meet : RangeView → RangeView → Type 0
Meet r s = (x : ℕ) × IsTrue (covers r x && covers s x)
