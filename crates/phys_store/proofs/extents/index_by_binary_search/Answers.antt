use Rattle.std.proofs.Common.{sym, ◌∙◌, ap, arith}
use Rattle.phys_store.specs.Bytes.{ExtentView, is_in_extent}
use Rattle.phys_store.proofs.Joining.{nth_piece}
use Rattle.phys_store.proofs.Search.{first_has, first_has_not}
use Rattle.phys_store.proofs.extents.index_by_binary_search.Goals.{else-i-extents-via-then-i-extents+else-is_in_extent, else-i-extents-via-else-i-extents}
use Rattle.phys_store.proofs.extents.index_by_binary_search.Goals as goal

pub returns-then-is_in_extent : goal.returns-then-is_in_extent
returns-then-is_in_extent c =
    first_has c.args.extents.now c.args.address c.first_extent_ending_at_or_above-i.result c.index-extents-i.result
    c.first_extent_ending_at_or_above-i.ensures.below
    c.if-i-extents.true c.index-extents-i.is (sym c.is_in_extent.ensures ∙ c.if-is_in_extent.true)

pub returns-else-i-extents : goal.returns-else-i-extents
returns-else-i-extents c =
    let es = c.args.extents.now in
    let i = c.first_extent_ending_at_or_above-i.result in
    let f = c.first_extent_ending_at_or_above-i.ensures in
    first_has_not es c.args.address i c.requires f.below f.reaches (elim c.else-i-extents.branch [
      | else-i-extents-via-then-i-extents+else-is_in_extent w ↦ λ count.
          let is = nth_piece es i w.index-extents-i.result count w.index-extents-i.is in
          ap (λ (q : ExtentView). is_in_extent q c.args.address) is ∙ sym w.is_in_extent.ensures ∙ w.if-is_in_extent.false
      | else-i-extents-via-else-i-extents w ↦ λ count. absurd (omega (arith, count, w.if-i-extents.false))
    ])
