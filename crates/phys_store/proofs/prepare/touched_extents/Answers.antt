use Rattle.std.proofs.Common.{◌≡◌, ◌<◌, ◌≤◌, map, min, max, ap, sym, ◌∙◌, subst, ◌^◌, arith}
use Rattle.std.proofs.lemmas.List.{length-map}
use Rattle.bm_base.specs.Range.{RangeView}
use Rattle.phys_store.specs.declared.extents.Extent.{Extent}
use Rattle.phys_store.specs.Bytes.{ExtentView, end_of_extent}
use Rattle.phys_store.specs.Extents.{extent_view, nth_extent}
use Rattle.phys_store.proofs.Joining.{nth_piece, nth_extent-fits, Hull, hull_more, hull_joins}
use Rattle.phys_store.proofs.prepare.touched_extents.Goals as goal
use Rattle.phys_store.proofs.prepare.touched_extents.Goals.{After-index-extents-after}

-- the extents so far, and the addresses that they make up
so_far : (c : After-index-extents-after)
    → Hull (map extent_view c.args.extents.now) c.args.range c.first_extent_ending_at_or_above-first.result
    c.loop-after.after c.loop-after.low c.loop-after.high
so_far c =
    let i = c.loop-after.invariant in record {
      order = i.order;
      most = omega (arith, length-map c.args.extents.now extent_view, i.most);
      least = i.least;
      end = i.end;
      small = i.small;
      below = i.below;
      low = i.low;
      high = i.high;
      ready = i.ready;
    }

pub end_of_extent-requires : goal.end_of_extent-requires
end_of_extent-requires c =
    let es = c.args.extents.now in
    let b = c.loop-after.after in
    let i = c.loop-after.invariant in
    let long = length-map es extent_view in
    let is = nth_piece es b c.index-extents-after-in-loop-after.result c.loop-after-test.true c.index-extents-after-in-loop-after.is in
    subst (λ (q : ExtentView). end_of_extent q < 2 ^ 64) is
    (nth_extent-fits (map extent_view es) b c.requires (omega (arith, long, c.loop-after-test.true)))

pub loop-after-preserved : goal.loop-after-preserved
loop-after-preserved c =
    let es = c.args.extents.now in
    let b = c.loop-after.after in
    let i = c.loop-after.invariant in
    let long = length-map es extent_view in
    let h = so_far (goal.at.loop-after-preserved c).After-index-extents-after in
    let e = c.index-extents-after-in-loop-after.result in
    let is = nth_piece es b e c.loop-after-test.true c.index-extents-after-in-loop-after.is in
    let first = nth_piece es b c.index-extents-after.result c.loop-after-test.true c.index-extents-after.is in
    let base : c.range.inside.base ≡ c.args.range.base = ap (λ (r : RangeView). r.base) c.range.view_is in
    let touches : (nth_extent (map extent_view es) b).base ≤ c.loop-after.high = rw first
    (subst (λ (d : Extent). d.base ≤ c.loop-after.high) (sym c.index-extents-after.is) c.if-extents-after.true) in
    let reach : c.args.range.base ≤ end_of_extent
    (nth_extent (map extent_view es) c.first_extent_ending_at_or_above-first.result) = rw (← base)
    (c.first_extent_ending_at_or_above-first.ensures.reaches (omega (arith, i.order, c.loop-after-test.true))) in
    let low : min c.loop-after.low (nth_extent (map extent_view es) b).base ≡ c.min-low.result = rw is (sym c.min-low.ensures) in
    let high : max c.loop-after.high (end_of_extent (nth_extent (map extent_view es) b)) ≡ c.max-high.result = rw is
    (ap (max c.loop-after.high) (sym c.end_of_extent.ensures) ∙ sym c.max-high.ensures) in
    let more = rw (low, high) at
    (hull_more (map extent_view es) c.args.range c.first_extent_ending_at_or_above-first.result b c.loop-after.low
    c.loop-after.high
    c.requires (omega (arith, long, c.loop-after-test.true)) reach touches h) in
    record {
      order = more.order;
      most = omega arith;
      least = more.least;
      end = more.end;
      small = more.small;
      below = more.below;
      low = more.low;
      high = more.high;
      ready = more.ready;
    }

pub returns-else-extents-after-clause-joins : goal.returns-else-extents-after-clause-joins
returns-else-extents-after-clause-joins c =
    let es = c.args.extents.now in
    let b = c.loop-after.after in
    let h = so_far (goal.at.returns-else-extents-after-clause-joins c).After-index-extents-after in
    hull_joins (map extent_view es) c.args.range c.first_extent_ending_at_or_above-first.result b c.loop-after.low c.loop-after.high
    c.requires h
    (λ count. let first = nth_piece es b c.index-extents-after.result c.loop-after-test.true c.index-extents-after.is in
    rw first (subst (λ (d : Extent). c.loop-after.high < d.base) (sym c.index-extents-after.is) c.if-extents-after.false))
