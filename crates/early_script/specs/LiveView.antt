-- The live IDs of the script in ascending order, each with its range.
use Rattle.std.specs.Prelude.{ℕ, ◌<◌, Bool, is_some, Option, List, [], ◌∷◌}
use Rattle.std.specs.Ordering.{nat_cmp}
use Rattle.std.specs.Map.{lookup, remove_entry}
use Rattle.std.specs.BTreeMap.{insert_entry, is_at}
use Rattle.bm_base.specs.Range.{RangeView}

abbrev pub LiveView : Type 0
LiveView = List (ℕ × RangeView)

-- the range of the ID, if it is live
abbrev pub range_of_id : LiveView → ℕ → Option RangeView
range_of_id ids id = lookup (is_at (nat_cmp id)) ids

abbrev pub is_live : LiveView → ℕ → Bool
is_live ids id = is_some (range_of_id ids id)

-- the live IDs after the ID got the range; it replaces an older range of the ID
abbrev pub with_range : LiveView → ℕ → RangeView → LiveView
with_range ids id range = insert_entry nat_cmp ids id range

-- the live IDs without `id`
abbrev pub without_id : LiveView → ℕ → LiveView
without_id ids id = remove_entry (is_at (nat_cmp id)) ids

-- no live ID has an empty range
abbrev pub RangesHaveBytes : LiveView → Type 0
RangesHaveBytes [] = Unit {0}
RangesHaveBytes (e ∷ es) = (0 < e.1.size) × RangesHaveBytes es
