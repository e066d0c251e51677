use Rattle.std.proofs.Common.{◌+◌, ◌-◌, ◌/◌, ◌<◌, ◌^◌, length, map, subst, arith}
use Rattle.std.proofs.lemmas.List.{length-map}
use Rattle.phys_store.specs.Bytes.{ExtentView, end_of_extent}
use Rattle.phys_store.specs.Extents.{extent_view, nth_extent}
use Rattle.phys_store.proofs.Joining.{nth_piece, nth_extent-fits, ends_rise}
use Rattle.phys_store.proofs.extents.first_extent_ending_at_or_above.Goals as goal

pub end_of_extent-requires : goal.end_of_extent-requires
end_of_extent-requires c =
    let es = c.args.extents.now in
    let i = c.loop-low.low + (c.loop-low.high - c.loop-low.low) / 2 in
    let count : i < length es = omega (arith, c.loop-low-test.true, c.loop-low.invariant.most) in
    let is = nth_piece es i c.index-extents-middle.result count c.index-extents-middle.is in
    subst (λ (q : ExtentView). end_of_extent q < 2 ^ 64) is
    (nth_extent-fits (map extent_view es) i c.requires (omega (arith, length-map es extent_view, count)))

pub loop-low-preserved-then-end_of_extent-address : goal.loop-low-preserved-then-end_of_extent-address
loop-low-preserved-then-end_of_extent-address c =
    let es = c.args.extents.now in
    let v = c.loop-low.invariant in
    let i = c.loop-low.low + (c.loop-low.high - c.loop-low.low) / 2 in
    let count : i < length es = omega (arith, c.loop-low-test.true, v.most) in
    let e = c.index-extents-middle.result in
    let is = nth_piece es i e count c.index-extents-middle.is in
    let ends : end_of_extent (extent_view e) < c.args.address = omega (arith, c.if-end_of_extent-address.true, c.end_of_extent.ensures) in
    let here : end_of_extent (nth_extent (map extent_view es) i) < c.args.address = rw is ends in
    record {
      order = omega (arith, c.loop-low-test.true);
      most = v.most;
      below = λ k less. let rise = ends_rise (map extent_view es) k i c.requires (omega (arith, less))
          (omega (arith, length-map es extent_view, count)) in
          omega (arith, rise, here);
      reaches = v.reaches;
    }
