use Rattle.std.proofs.Common.{◌≡◌, ◌+◌, ◌-◌, length, get_or, take, drop, map, refl, sym, ◌∙◌, ap, arith}
use Rattle.std.proofs.lemmas.List.{get_or-take, get_or-drop, length-take, length-drop}
use Rattle.phys_store.specs.Bytes.{byte_of, bytes_at}
use Rattle.phys_store.specs.Extents.{extent_view}
use Rattle.phys_store.proofs.Lookup.{Holds, holds, read-at, none_ready}
use Rattle.phys_store.proofs.ByteLists.{told_bytes}
use Rattle.phys_store.proofs.extents.slice.Goals as goal
use Rattle.phys_store.proofs.extents.slice.Goals.{In-Some}

-- the extent that has the addresses
has_all : (c : In-Some) → Holds c.args.extents.now c.args.at c.args.count c.in-Some.ensures.0 c.in-Some.extent.now
has_all c =
    let (i, found, is) = c.in-Some.ensures in
    holds c.args.extents.now c.args.at c.args.count i c.in-Some.extent.now c.requires.apart c.requires.prepared found is

pub overflow_sub-from : goal.overflow_sub-from
overflow_sub-from c = (has_all (goal.at.overflow_sub-from c).In-Some).low

pub overflow_add-result : goal.overflow_add-result
overflow_add-result c = let h = has_all (goal.at.overflow_add-result c).In-Some in omega (arith, h.room, h.most)

pub overflow_add-from : goal.overflow_add-from
overflow_add-from c = let h = has_all (goal.at.overflow_add-from c).In-Some in omega (arith, h.room, h.most)

pub slice_bounds-result-end : goal.slice_bounds-result-end
slice_bounds-result-end c =
    let h = has_all (goal.at.slice_bounds-result-end c).In-Some in omega (arith, h.room, c.deref.ensures.len, h.len)

pub returns-in-Some : goal.returns-in-Some
returns-in-Some c =
    let e = c.in-Some.extent.now in
    let i = c.in-Some.ensures.0 in
    let h = has_all (goal.at.returns-in-Some c).In-Some in
    let m = e.front + (c.args.at - e.base) in
    let n = m + c.args.count - m in
    let ps = map extent_view c.args.extents.now in
    let xs = c.deref.result.now in
    let value : xs ≡ e.bytes.items = c.deref.ensures.value in
    let long : length xs ≡ length e.bytes.items = ap length value in
    told_bytes (byte_of ps) c.args.at c.args.count (take n (drop m xs))
    (length-take n (drop m xs) ∙ omega (arith, length-drop m xs, long, h.room))
    (λ k below.
    get_or-take n (drop m xs) k 0 (omega arith) ∙ get_or-drop m xs k 0 ∙ ap (λ ys. get_or ys (m + k) 0) value
    ∙ ap (λ j. get_or e.bytes.items j 0) (omega (arith, h.low)) ∙ sym (get_or-drop e.front e.bytes.items (c.args.at + k - e.base) 0)
    ∙ sym (read-at 0 ps i (extent_view e) (c.args.at + k) c.requires.apart h.count h.there (omega (arith, h.low))
    (omega (arith, h.high))).0)

pub returns-in-None : goal.returns-in-None
unfolding bytes_at
returns-in-None c =
    rw (none_ready c.args.extents.now c.args.at c.args.count c.in-None.ensures c.requires.prepared) refl
