use Rattle.std.proofs.Common.{◌≡◌, ◌+◌, ◌-◌, min, max, Some, None, get_or, set, map, refl, sym, ◌∙◌, ap, subst, arith}
use Rattle.std.specs.List.{position}
use Rattle.phys_store.specs.declared.extents.Extent.{Extent}
use Rattle.phys_store.specs.Bytes.{is_in_extent, byte_of, WritesBytes}
use Rattle.phys_store.specs.Extents.{extent_view, AreSortedAndApart}
use Rattle.phys_store.proofs.Lookup.{Holds, holds, none_ready}
use Rattle.phys_store.proofs.Writes.{wrote-copied, wrote-none}
use Rattle.phys_store.proofs.extents.move_bytes.Goals as goal
use Rattle.phys_store.proofs.extents.move_bytes.Goals.{After-index-extents-i, After-copy_within}

-- the extent that has both ranges
has_both : (c : After-index-extents-i) → Holds c.args.extents.now (min c.args.from c.args.to)
    (max c.args.from c.args.to - min c.args.from c.args.to + c.args.count) c.in-Some.i
    (get_or c.args.extents.now c.in-Some.i c.index-extents-i.result)
has_both c =
    holds c.args.extents.now (min c.args.from c.args.to) (max c.args.from c.args.to - min c.args.from c.args.to + c.args.count)
    c.in-Some.i (get_or c.args.extents.now c.in-Some.i c.index-extents-i.result) c.requires.apart c.requires.prepared
    (subst (λ m. position (λ d. is_in_extent (extent_view d) m) c.args.extents.now ≡ Some c.in-Some.i) c.min.ensures
    (sym c.index_of_extent.ensures ∙ c.in-Some.is)) (ap (λ (d : Extent). get_or c.args.extents.now c.in-Some.i d) c.index-extents-i.is)

pub overflow_sub-source : goal.overflow_sub-source
overflow_sub-source c = let h = has_both (goal.at.overflow_sub-source c).After-index-extents-i in omega (arith, h.low)

pub overflow_sub-target : goal.overflow_sub-target
overflow_sub-target c = let h = has_both (goal.at.overflow_sub-target c).After-index-extents-i in omega (arith, h.low)

pub overflow_add-source : goal.overflow_add-source
overflow_add-source c =
    let h = has_both (goal.at.overflow_add-source c).After-index-extents-i in omega (arith, h.low, h.room, h.most)

pub overflow_add-source-in-Some : goal.overflow_add-source-in-Some
overflow_add-source-in-Some c =
    let h = has_both (goal.at.overflow_add-source-in-Some c).After-index-extents-i in omega (arith, h.low, h.room, h.most)

pub overflow_add-target : goal.overflow_add-target
overflow_add-target c =
    let h = has_both (goal.at.overflow_add-target c).After-index-extents-i in omega (arith, h.low, h.room, h.most)

pub copy_within-requires-clause-in_bounds : goal.copy_within-requires-clause-in_bounds
copy_within-requires-clause-in_bounds c =
    let h = has_both (goal.at.copy_within-requires-clause-in_bounds c).After-index-extents-i in omega (arith, h.low, h.room, h.len)

pub copy_within-requires-clause-dest_in_bounds : goal.copy_within-requires-clause-dest_in_bounds
copy_within-requires-clause-dest_in_bounds c =
    let h = has_both (goal.at.copy_within-requires-clause-dest_in_bounds c).After-index-extents-i in omega (arith, h.low, h.room, h.len)

-- the same extent with the bytes copied
abbrev copied_in : After-copy_within → Extent
copied_in c =
    let e = get_or c.args.extents.now c.in-Some.i c.index-extents-i.result in
    record { base = e.base; front = e.front; bytes = c.copy_within.new.self }

copied : (c : After-copy_within) → Holds c.args.extents.now (min c.args.from c.args.to)
    (max c.args.from c.args.to - min c.args.from c.args.to + c.args.count) c.in-Some.i
    (get_or c.args.extents.now c.in-Some.i c.index-extents-i.result) →
    AreSortedAndApart 0 (map extent_view (set c.args.extents.now c.in-Some.i (copied_in c)))
    × WritesBytes (map extent_view c.args.extents.now)
    (map extent_view (set c.args.extents.now c.in-Some.i (copied_in c))) c.args.to c.args.count
    (λ k. byte_of (map extent_view c.args.extents.now) (c.args.from + k))
copied c h =
    let e = get_or c.args.extents.now c.in-Some.i c.index-extents-i.result in
    let by = c.copy_within.ensures.by_index in
    let source = e.front + (c.args.from - e.base) in
    wrote-copied c.args.extents.now (min c.args.from c.args.to)
    (max c.args.from c.args.to - min c.args.from c.args.to + c.args.count) c.in-Some.i e (copied_in c) c.args.from c.args.to c.args.count
    source (e.front + (c.args.to - e.base)) (source + c.args.count - source) c.requires.apart h (omega arith) (omega arith) (omega arith)
    (omega arith) refl refl (omega (arith, (copied_in c).bytes.ok.0, e.bytes.ok.0, c.copy_within.ensures.len)) refl refl (omega arith)
    by.0 by.1 by.2

pub returns-in-Some-clause-apart : goal.returns-in-Some-clause-apart
returns-in-Some-clause-apart c =
    let at = goal.at.returns-in-Some-clause-apart c in (copied at.After-copy_within (has_both at.After-index-extents-i)).0

pub returns-in-Some-clause-wrote : goal.returns-in-Some-clause-wrote
returns-in-Some-clause-wrote c =
    let at = goal.at.returns-in-Some-clause-wrote c in (copied at.After-copy_within (has_both at.After-index-extents-i)).1

pub returns-in_default-clause-wrote : goal.returns-in_default-clause-wrote
returns-in_default-clause-wrote c =
    let from = c.args.from in
    let to = c.args.to in
    let es = c.args.extents.now in
    let none = subst (λ m. position (λ d. is_in_extent (extent_view d) m) es ≡ None) c.min.ensures (sym c.index_of_extent.ensures
    ∙ c.in_default.is) in
    let n = none_ready es (min from to) (max from to - min from to + c.args.count) none c.requires.prepared in
    wrote-none (map extent_view es) to c.args.count (λ k. byte_of (map extent_view es) (from + k)) (omega (arith, n))
