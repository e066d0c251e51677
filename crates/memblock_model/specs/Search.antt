-- The addresses at which a query fits, and the address that a search returns
-- (`memblock_find_in_range_node`): the highest or the lowest (`__memblock_find_range_top_down`,
-- `__memblock_find_range_bottom_up`), in mirrored memory first (`choose_memblock_flags`).
use Rattle.std.specs.Prelude.{ℕ, zero, suc, ◌+◌, ◌%◌, ◌^◌, ◌==◌, Bool, true, false, ◌&&◌, nat_le, is_some, is_none, if◌then◌else◌, Option, Some, None, List}
use Rattle.std.specs.Option.{option_or}
use Rattle.address_runs.specs.Edits.{agree}
use Rattle.bm_base.specs.Each.{each_in}
use Rattle.bm_base.specs.declared.range.TheConstants.{FRAME_SIZE}
use Rattle.memblock_model.specs.Labels.{LabelView, Labels}
use Rattle.memblock_model.specs.Same.{same_node_or_none, same_label}
use Rattle.memblock_model.specs.Items.{upward_of}
use Rattle.memblock_model.specs.Tables.{table_of}
use Rattle.memblock_model.specs.declared.query.Query.{Query}
use Rattle.memblock_model.specs.declared.query.Mode.{Mode}
use Rattle.memblock_model.specs.declared.owner.Which.TheVariants as which
use Rattle.memblock_model.specs.declared.item.Item.{Item}

-- the greatest number below n that passes the test
unfoldable pub last_below : (ℕ → Bool) → ℕ → Option ℕ
last_below p zero = None
last_below p (suc n) = if p n then Some n else last_below p n

-- the least number below n that passes the test
unfoldable pub first_below : (ℕ → Bool) → ℕ → Option ℕ
first_below p zero = None
first_below p (suc n) = option_or (first_below p n) (if p n then Some n else None)

-- of the numbers below n that pass the test, the least if the flag is true (the search goes up),
-- else the greatest
abbrev pub outermost_below : Bool → (ℕ → Bool) → ℕ → Option ℕ
outermost_below true p n = first_below p n
outermost_below false p n = last_below p n

-- whether a search for memory of this node may return a byte with this label. A search without a
-- node may return any byte.
abbrev pub is_allowed_node : Option ℕ → Option LabelView → Bool
is_allowed_node None carried = true
is_allowed_node (Some node) None = false
is_allowed_node (Some node) (Some label) = same_node_or_none label.node (Some node)

-- whether a search may return a byte with this label: any byte if the flag is false, only a
-- mirrored one if it is true
abbrev pub is_allowed_mirror : Bool → Option LabelView → Bool
is_allowed_mirror false carried = true
is_allowed_mirror true None = false
is_allowed_mirror true (Some label) = label.mirror

-- whether a range of the query's size fits at address `a`. The address is aligned, at or above
-- `lo`, and not in the first 4 KiB frame. The range ends at or below `hi`. All its bytes are
-- unclaimed memory with one label. That label has the query's node, if there is one, and is
-- mirrored if `mirror` is true.
unfoldable pub fits_in : Bool → Labels → Labels → Query → ℕ → Bool
fits_in mirror memory reserved q a =
    (a % q.align == 0) && nat_le q.lo a && nat_le FRAME_SIZE a && nat_le (a + q.size) q.hi
    && is_some (memory a) && is_allowed_node q.node (memory a) && is_allowed_mirror mirror (memory a)
    && each_in (record { base = a; size = q.size }) (λ x. agree same_label (memory x) (memory a) && is_none (reserved x))

-- the greatest address at which the query fits, or the least if the search goes up
unfoldable pub outermost_fit : Mode → Labels → Labels → Query → Option ℕ
outermost_fit mode memory reserved q = outermost_below mode.up (fits_in mode.mirror memory reserved q) (2 ^ 64)

-- the greatest (or, if `up`, least) address at which the query fits in mirrored memory or, if it
-- fits nowhere there, in any memory
unfoldable pub best_place_in : Bool → Labels → Labels → Query → Option ℕ
best_place_in up memory reserved q =
    option_or (outermost_fit (record { mirror = true; up = up }) memory reserved q)
    (outermost_fit (record { mirror = false; up = up }) memory reserved q)

-- `fits_in`, `outermost_fit` and `best_place_in` with the tables and the search direction that the
-- items give
unfoldable pub fits : List Item → Query → Bool → ℕ → Bool
fits items q mirror a = fits_in mirror (table_of which.Memory items) (table_of which.Reserved items) q a

unfoldable pub top_place : List Item → Query → Bool → Option ℕ
top_place items q mirror =
    outermost_fit (record { mirror = mirror; up = upward_of items }) (table_of which.Memory items) (table_of which.Reserved items) q

unfoldable pub best_place : List Item → Query → Option ℕ
best_place items q = best_place_in (upward_of items) (table_of which.Memory items) (table_of which.Reserved items) q
