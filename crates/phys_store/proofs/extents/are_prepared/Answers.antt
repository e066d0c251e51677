use Rattle.std.proofs.Common.{◌≡◌, Some, map, ap, subst, arith}
use Rattle.std.proofs.lemmas.Bool.{leb-true, le-leb, false≢true}
use Rattle.std.specs.List.{position}
use Rattle.bm_base.specs.Range.{RangeView}
use Rattle.phys_store.specs.Bytes.{is_in_extent}
use Rattle.phys_store.specs.Extents.{extent_view}
use Rattle.phys_store.proofs.Lookup.{Holds, holds_one, whole, read-at, none_ready}
use Rattle.phys_store.proofs.extents.are_prepared.Goals as goal
use Rattle.phys_store.proofs.extents.are_prepared.Goals.{In-Some}

-- the extent that has the first address of the range
has_base : (c : In-Some) → Holds c.args.extents.now c.args.range.base 0 c.in-Some.ensures.0 c.in-Some.extent.now
has_base c =
    let (i, found, is) = c.in-Some.ensures in
    let base : c.range.inside.base ≡ c.args.range.base = ap (λ (r : RangeView). r.base) c.range.view_is in
    holds_one c.args.extents.now c.args.range.base i c.in-Some.extent.now c.requires
    (subst (λ a. position (λ d. is_in_extent (extent_view d) a) c.args.extents.now ≡ Some i) base found) is

pub overflow_sub-result : goal.overflow_sub-result
overflow_sub-result c = let h = has_base (goal.at.overflow_sub-result c).In-Some in omega (arith, h.low, c.end.ensures.value)

pub returns-in-Some : goal.returns-in-Some
returns-in-Some c =
    let e = c.in-Some.extent.now in
    let i = c.in-Some.ensures.0 in
    let h = has_base (goal.at.returns-in-Some c).In-Some in
    let ps = map extent_view c.args.extents.now in (
      λ yes x low below. let ends = leb-true _ _ yes in
          (read-at 0 ps i (extent_view e) x c.requires h.count h.there
          (omega (arith, h.low)) (omega (arith, h.low, h.inner, ends, c.end.ensures.value, c.size_of_extent.ensures))).1,
      λ ready. let ends = whole 0 ps i
          (extent_view e) c.args.range.base c.args.range.size c.requires h.count h.there h.low h.inner ready in
          le-leb _ _ (omega (arith, h.low, ends, c.end.ensures.value, c.size_of_extent.ensures)),
    )

pub returns-in-None : goal.returns-in-None
returns-in-None c =
    rw (← c.range.view_is) (
      λ no x low below. absurd (false≢true no),
      λ ready. absurd (c.if-range-eq0.false
          (none_ready c.args.extents.now c.range.inside.base c.range.inside.size c.in-None.ensures ready)),
    )
