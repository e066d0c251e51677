-- What contracts say of the ranges that the lines of a report state: they ascend and are disjoint.
use Rattle.std.specs.Prelude.{ℕ, ◌≤◌, List, [], ◌∷◌}
use Rattle.bm_base.specs.Range.{RangeView, end_of}

-- the first range of the list, if there is one, begins at or above `at`
abbrev pub StartFrom : ℕ → List RangeView → Type 0
StartFrom at [] = Unit {0}
StartFrom at (r ∷ rs) = at ≤ r.base

-- the list is ascending and disjoint: each range begins at or above the end of the one before it
abbrev pub AscendApart : List RangeView → Type 0
AscendApart [] = Unit {0}
AscendApart (r ∷ rs) = StartFrom (end_of r) rs × AscendApart rs
