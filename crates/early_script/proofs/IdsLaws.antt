-- No live ID has an empty range, whatever changes.
use Rattle.std.proofs.Common.{◌≡◌, ℕ, ◌<◌, Bool, true, false, cond, Option, Some, [], ◌∷◌, subst}
use Rattle.std.specs.Ordering.{nat_cmp, match_ordering, is_eq}
use Rattle.std.specs.declared.cmp.Ordering.{Ordering}
use Rattle.std.specs.declared.cmp.Ordering.TheVariants.{Less, Equal, Greater}
use Rattle.bm_base.specs.Range.{RangeView}
use Rattle.early_script.specs.LiveView.{LiveView, range_of_id, with_range, without_id, RangesHaveBytes}

with_at : (o : Ordering) (id : ℕ) (range : RangeView) (e : ℕ × RangeView) (es more : LiveView) → 0 < range.size → RangesHaveBytes (e ∷ es) →
    RangesHaveBytes more → RangesHaveBytes (match_ordering o ((id, range) ∷ e ∷ es) ((e.0, range) ∷ es) (e ∷ more))
with_at Less id range e es more some known rest = (some, known)
with_at Equal id range e es more some known rest = (some, known.1)
with_at Greater id range e es more some known rest = (known.0, rest)

pub bytes-with : (ids : LiveView) (id : ℕ) (range : RangeView) → 0 < range.size → RangesHaveBytes ids
    → RangesHaveBytes (with_range ids id range)
bytes-with [] id range some known = (some, tt)
bytes-with (e ∷ es) id range some known =
    with_at (nat_cmp id e.0) id range e es (with_range es id range) some known (bytes-with es id range some known.1)

without_at : (here : Bool) (e : ℕ × RangeView) (es more : LiveView) → RangesHaveBytes (e ∷ es) → RangesHaveBytes more
    → RangesHaveBytes (cond here es (e ∷ more))
without_at true e es more known rest = known.1
without_at false e es more known rest = (known.0, rest)

pub bytes-without : (ids : LiveView) (id : ℕ) → RangesHaveBytes ids → RangesHaveBytes (without_id ids id)
bytes-without [] id known = tt
bytes-without (e ∷ es) id known = without_at (is_eq (nat_cmp id e.0)) e es (without_id es id) known (bytes-without es id known.1)

found_at : (here : Bool) (first range : RangeView) (rest : Option RangeView) → 0 < first.size → (rest ≡ Some range → 0 < range.size) →
    cond here (Some first) rest ≡ Some range → 0 < range.size
found_at true first range rest some later found = let same : first ≡ range = cc in subst (λ (r : RangeView). 0 < r.size) same some
found_at false first range rest some later found = later found

pub bytes-found : (ids : LiveView) (id : ℕ) (range : RangeView) → RangesHaveBytes ids → range_of_id ids id ≡ Some range → 0 < range.size
bytes-found [] id range known found = absurd (cc found)
bytes-found (e ∷ es) id range known found =
    found_at (is_eq (nat_cmp id e.0)) e.1 range (range_of_id es id) known.0 (bytes-found es id range known.1) found
