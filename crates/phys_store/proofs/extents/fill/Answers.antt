use Rattle.std.proofs.Common.{◌≡◌, ◌+◌, ◌-◌, length, get_or, set, map, refl, sym, ◌∙◌, ap, subst, arith}
use Rattle.std.specs.Vec.{with_items}
use borrow.Rule.Slice.PartMut.{put_mid}
use Rattle.bm_base.specs.Range.{RangeView}
use Rattle.phys_store.specs.declared.extents.Extent.{Extent}
use Rattle.phys_store.specs.Bytes.{ArePrepared, WritesBytes}
use Rattle.phys_store.specs.Extents.{extent_view, AreSortedAndApart}
use Rattle.phys_store.proofs.Lookup.{Holds, holds, none_ready}
use Rattle.phys_store.proofs.Writes.{wrote-mid, wrote-none, filled}
use Rattle.phys_store.proofs.extents.fill.Goals as goal
use Rattle.phys_store.proofs.extents.fill.Goals.{After-index-extents-i, After-fill}

-- the extent that has the range
has_range : (c : After-index-extents-i) → Holds c.args.extents.now c.range.inside.base c.range.inside.size c.in-Some.i
    (get_or c.args.extents.now c.in-Some.i c.index-extents-i.result)
has_range c =
    holds c.args.extents.now c.range.inside.base c.range.inside.size c.in-Some.i
    (get_or c.args.extents.now c.in-Some.i c.index-extents-i.result) c.requires.apart
    (subst (λ (r : RangeView). ArePrepared (map extent_view c.args.extents.now) r.base r.size) (sym c.range.view_is) c.requires.prepared)
    (sym c.index_of_extent.ensures ∙ c.in-Some.is) (ap (λ (d : Extent). get_or c.args.extents.now c.in-Some.i d) c.index-extents-i.is)

pub overflow_sub-from : goal.overflow_sub-from
overflow_sub-from c = (has_range (goal.at.overflow_sub-from c).After-index-extents-i).low

pub overflow_add-from : goal.overflow_add-from
overflow_add-from c =
    let h = has_range (goal.at.overflow_add-from c).After-index-extents-i in omega (arith, h.room, h.most)

pub overflow_add-from-in-Some : goal.overflow_add-from-in-Some
overflow_add-from-in-Some c =
    let h = has_range (goal.at.overflow_add-from-in-Some c).After-index-extents-i in omega (arith, h.room, h.most)

pub slice_bounds-fill-end : goal.slice_bounds-fill-end
slice_bounds-fill-end c =
    let h = has_range (goal.at.slice_bounds-fill-end c).After-index-extents-i in omega (arith, h.room, c.deref_mut.ensures.len, h.len)

-- the same extent with the bytes filled
abbrev filled_in : After-fill → Extent
filled_in c =
    let e = get_or c.args.extents.now c.in-Some.i c.index-extents-i.result in
    let k = e.front + (c.range.inside.base - e.base) in
    record {
      base = e.base;
      front = e.front;
      bytes = with_items e.bytes (put_mid k (k + c.range.inside.size - k) c.deref_mut.result.now c.fill.new.self);
    }

all_filled : (c : After-fill) → Holds c.args.extents.now c.range.inside.base c.range.inside.size c.in-Some.i
    (get_or c.args.extents.now c.in-Some.i c.index-extents-i.result) →
    AreSortedAndApart 0 (map extent_view (set c.args.extents.now c.in-Some.i (filled_in c)))
    × WritesBytes (map extent_view c.args.extents.now)
    (map extent_view (set c.args.extents.now c.in-Some.i (filled_in c))) c.range.inside.base
    c.range.inside.size (λ _. c.args.byte)
all_filled c h =
    let e = get_or c.args.extents.now c.in-Some.i c.index-extents-i.result in
    let k = e.front + (c.range.inside.base - e.base) in
    let m = k + c.range.inside.size - k in
    let xs = c.deref_mut.result.now in
    let count : m ≡ c.range.inside.size = omega arith in
    let bytes = filled k m xs c.fill.new.self c.args.byte (omega (arith, ap length c.deref_mut.ensures.value, h.room))
    (c.fill.ensures.after (λ y same. same)) in
    wrote-mid c.args.extents.now c.range.inside.base c.range.inside.size c.in-Some.i e (λ _. c.args.byte) k m xs c.fill.new.self
    c.requires.apart h refl count c.deref_mut.ensures.value (bytes.0 ∙ count) (λ j below. bytes.1 j (omega (arith, below, count)))

pub returns-in-Some-clause-apart : goal.returns-in-Some-clause-apart
returns-in-Some-clause-apart c =
    let at = goal.at.returns-in-Some-clause-apart c in (all_filled at.After-fill (has_range at.After-index-extents-i)).0

pub returns-in-Some-clause-wrote : goal.returns-in-Some-clause-wrote
returns-in-Some-clause-wrote c =
    let at = goal.at.returns-in-Some-clause-wrote c in
    rw (← c.range.view_is) (all_filled at.After-fill (has_range at.After-index-extents-i)).1

pub returns-in_default-clause-wrote : goal.returns-in_default-clause-wrote
returns-in_default-clause-wrote c =
    let ready = subst (λ (r : RangeView). ArePrepared (map extent_view c.args.extents.now) r.base r.size)
    (sym c.range.view_is) c.requires.prepared in
    rw (← c.range.view_is) (wrote-none (map extent_view c.args.extents.now) c.range.inside.base c.range.inside.size (λ _. c.args.byte)
    (none_ready c.args.extents.now c.range.inside.base c.range.inside.size (sym c.index_of_extent.ensures ∙ c.in_default.is) ready))
