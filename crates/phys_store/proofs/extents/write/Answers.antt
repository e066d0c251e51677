use Rattle.std.proofs.Common.{ℕ, ◌+◌, ◌-◌, List, length, get_or, set, map, refl, sym, ◌∙◌, ap, arith}
use Rattle.std.specs.Vec.{with_items}
use borrow.Rule.Slice.PartMut.{put_mid}
use Rattle.phys_store.specs.declared.extents.Extent.{Extent}
use Rattle.phys_store.specs.Bytes.{WritesBytes}
use Rattle.phys_store.specs.Extents.{extent_view, AreSortedAndApart}
use Rattle.phys_store.proofs.Lookup.{Holds, holds, none_ready}
use Rattle.phys_store.proofs.Writes.{wrote-mid, wrote-none}
use Rattle.phys_store.proofs.extents.write.Goals as goal
use Rattle.phys_store.proofs.extents.write.Goals.{After-index-extents-i, After-copy_from_slice}

-- the extent that has the addresses
has_place : (c : After-index-extents-i) → Holds c.args.extents.now c.args.at (length c.args.bytes.now) c.in-Some.i
    (get_or c.args.extents.now c.in-Some.i c.index-extents-i.result)
has_place c =
    holds c.args.extents.now c.args.at (length c.args.bytes.now) c.in-Some.i
    (get_or c.args.extents.now c.in-Some.i c.index-extents-i.result) c.requires.apart c.requires.prepared
    (sym c.index_of_extent.ensures ∙ c.in-Some.is) (ap (λ (d : Extent). get_or c.args.extents.now c.in-Some.i d) c.index-extents-i.is)

pub overflow_sub-from : goal.overflow_sub-from
overflow_sub-from c = (has_place (goal.at.overflow_sub-from c).After-index-extents-i).low

pub overflow_add-from : goal.overflow_add-from
overflow_add-from c =
    let h = has_place (goal.at.overflow_add-from c).After-index-extents-i in omega (arith, h.room, h.most)

pub overflow_add-from-in-Some : goal.overflow_add-from-in-Some
overflow_add-from-in-Some c =
    let h = has_place (goal.at.overflow_add-from-in-Some c).After-index-extents-i in omega (arith, h.room, h.most)

pub slice_bounds-copy_from_slice-end : goal.slice_bounds-copy_from_slice-end
slice_bounds-copy_from_slice-end c =
    let h = has_place (goal.at.slice_bounds-copy_from_slice-end c).After-index-extents-i in
    omega (arith, h.room, c.deref_mut.ensures.len, h.len)

-- the same extent with the bytes written
abbrev written_in : After-copy_from_slice → Extent
written_in c =
    let e = get_or c.args.extents.now c.in-Some.i c.index-extents-i.result in
    let k = e.front + (c.args.at - e.base) in
    record {
      base = e.base;
      front = e.front;
      bytes = with_items e.bytes (put_mid k (k + length c.args.bytes.now - k) c.deref_mut.result.now c.copy_from_slice.new.self);
    }

written : (c : After-copy_from_slice) → Holds c.args.extents.now c.args.at (length c.args.bytes.now) c.in-Some.i
    (get_or c.args.extents.now c.in-Some.i c.index-extents-i.result) →
    AreSortedAndApart 0 (map extent_view (set c.args.extents.now c.in-Some.i (written_in c)))
    × WritesBytes (map extent_view c.args.extents.now) (map extent_view (set c.args.extents.now c.in-Some.i (written_in c))) c.args.at
    (length c.args.bytes.now) (λ j. get_or c.args.bytes.now j 0)
written c h =
    let e = get_or c.args.extents.now c.in-Some.i c.index-extents-i.result in
    let k = e.front + (c.args.at - e.base) in
    wrote-mid c.args.extents.now c.args.at (length c.args.bytes.now) c.in-Some.i e
    (λ j. get_or c.args.bytes.now j 0) k (k + length c.args.bytes.now - k) c.deref_mut.result.now c.copy_from_slice.new.self
    c.requires.apart h refl (omega arith) c.deref_mut.ensures.value (ap length c.copy_from_slice.ensures.after)
    (λ j below. ap (λ (zs : List ℕ). get_or zs j 0) c.copy_from_slice.ensures.after)

pub returns-in-Some-clause-apart : goal.returns-in-Some-clause-apart
returns-in-Some-clause-apart c =
    let at = goal.at.returns-in-Some-clause-apart c in (written at.After-copy_from_slice (has_place at.After-index-extents-i)).0

pub returns-in-Some-clause-wrote : goal.returns-in-Some-clause-wrote
returns-in-Some-clause-wrote c =
    let at = goal.at.returns-in-Some-clause-wrote c in (written at.After-copy_from_slice (has_place at.After-index-extents-i)).1

pub returns-in_default-clause-wrote : goal.returns-in_default-clause-wrote
returns-in_default-clause-wrote c =
    let n = length c.args.bytes.now in
    let none = none_ready c.args.extents.now c.args.at n (sym c.index_of_extent.ensures ∙ c.in_default.is) c.requires.prepared in
    wrote-none (map extent_view c.args.extents.now) c.args.at n (λ j. get_or c.args.bytes.now j 0) none
