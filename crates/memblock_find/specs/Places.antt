-- The addresses at which a query fits, in a part of memory: none of them, the highest or the
-- lowest.
use Rattle.std.specs.Prelude.{◌≡◌, ℕ, ◌+◌, ◌%◌, ◌≤◌, ◌<◌, Bool, true, false, ◌&&◌, Option}
use Rattle.memblock_model.specs.Labels.{LabelView, Labels}
use Rattle.memblock_model.specs.Search.{is_allowed_node, is_allowed_mirror, fits_in}
use Rattle.memblock_model.specs.declared.query.Query.{Query}

-- `a` is a multiple of `align`, and the `size` bytes from `a` on lie between the addresses `low`
-- and `high`
pub record FitsBetween (low high size align a : ℕ) : Type 0 where
  pub aligned : a % align ≡ 0
  pub above : low ≤ a
  pub below : a + size ≤ high

-- whether a search may return memory with this label. If `mirror` is true, the memory must be
-- mirrored. If a node is given, the memory must be on that node.
abbrev pub is_allowed_label : Bool → Option ℕ → Option LabelView → Bool
is_allowed_label mirror node carried = is_allowed_node node carried && is_allowed_mirror mirror carried

-- no range at which the query fits ends above `from` and at or below `until`
abbrev pub NoPlaceEndsBetween : Bool → Labels → Labels → Query → ℕ → ℕ → Type 0
NoPlaceEndsBetween mirror memory reserved q from until =
    (b : ℕ) → fits_in mirror memory reserved q b ≡ true → b + q.size ≤ until → b + q.size ≤ from

-- the query fits at no address from `from` to just below `until`
abbrev pub NoPlaceBeginsBetween : Bool → Labels → Labels → Query → ℕ → ℕ → Type 0
NoPlaceBeginsBetween mirror memory reserved q from until = (b : ℕ) → fits_in mirror memory reserved q b ≡ true → from ≤ b → until ≤ b

-- no address from `from` to just below `until` is memory that the search may return
abbrev pub NoAddressIsAllowed : Bool → Labels → Option ℕ → ℕ → ℕ → Type 0
NoAddressIsAllowed mirror memory node from until = (x : ℕ) → from ≤ x → x < until → is_allowed_label mirror node (memory x) ≡ false

-- the query fits at address `a`, and no range at which it fits begins above `a` and ends at or
-- below `until`
pub record IsHighestPlaceEndingBy (mirror : Bool) (memory reserved : Labels) (q : Query) (until a : ℕ) : Type 0 where
  pub fits : fits_in mirror memory reserved q a ≡ true
  pub last : (b : ℕ) → fits_in mirror memory reserved q b ≡ true → b + q.size ≤ until → b ≤ a

-- the query fits at address `a`, and at no address from `from` to just below `a`
pub record IsLowestPlaceFrom (mirror : Bool) (memory reserved : Labels) (q : Query) (from a : ℕ) : Type 0 where
  pub fits : fits_in mirror memory reserved q a ≡ true
  pub first : (b : ℕ) → fits_in mirror memory reserved q b ≡ true → from ≤ b → a ≤ b
