use Rattle.std.proofs.Common.{◌≡◌, ℕ, ◌+◌, ◌-◌, ◌<◌, ◌≤◌, ◌++◌, ◌∷◌, [], List, length, get_or, drop, map, subst, sym, ◌∙◌, ap, arith}
use Rattle.std.proofs.lemmas.List.{length-map, length-drop, with_items_is}
use borrow.Rule.Slice.PartMut.{put_mid}
use Rattle.phys_store.specs.Bytes.{ExtentView, end_of_extent, byte_of}
use Rattle.phys_store.specs.Extents.{extent_view, nth_extent}
use Rattle.phys_store.proofs.ByteLists.{told_bytes}
use Rattle.phys_store.proofs.Joining.{nth_piece}
use Rattle.phys_store.proofs.Writes.{length-mid}
use Rattle.phys_store.proofs.Widening.{absorbed, same_piece}
use Rattle.phys_store.proofs.prepare.copy_into_extent.Goals as goal
use Rattle.phys_store.proofs.prepare.copy_into_extent.Goals.{After-index-others-i}

-- the next of the other extents lies in the extent
record LiesIn (c : After-index-others-i) : Type 0 where
  count : c.loop-i.i - 1 < length c.args.others.now
  is : nth_extent (map extent_view c.args.others.now) (c.loop-i.i - 1) ≡ extent_view c.index-others-i.result
  low : c.args.extent.now.base ≤ c.index-others-i.result.base
  high : end_of_extent (extent_view c.index-others-i.result) ≤ end_of_extent (extent_view c.args.extent.now)
  long : length (drop c.args.extent.now.front c.args.extent.now.bytes.items)
      ≡ length c.args.extent.now.bytes.items - c.args.extent.now.front
  room : c.args.extent.now.front + (c.index-others-i.result.base - c.args.extent.now.base)
      + length (extent_view c.index-others-i.result).bytes
      ≤ length c.args.extent.now.bytes.items

lies_in : (c : After-index-others-i) → LiesIn c
lies_in c =
    let i : ℕ = c.loop-i.i - 1 in
    let w = c.args.extent.now in
    let count : i < length c.args.others.now = omega (arith, c.loop-i-test.true, c.loop-i.invariant.most) in
    let is : nth_extent (map extent_view c.args.others.now) i ≡ extent_view c.index-others-i.result =
    nth_piece c.args.others.now i c.index-others-i.result count c.index-others-i.is in
    let low = subst (λ (q : ExtentView). w.base ≤ q.base) is (c.requires.low i count) in
    let high = subst (λ (q : ExtentView). end_of_extent q ≤ end_of_extent (extent_view w)) is (c.requires.high i count) in
    let long = length-drop w.front w.bytes.items in
    record {
      count = count;
      is = is;
      low = low;
      high = high;
      long = long;
      room = omega (arith, low, high, long, c.requires.some);
    }

pub overflow_sub-from : goal.overflow_sub-from
overflow_sub-from c =
    let d = lies_in (goal.at.overflow_sub-from c).After-index-others-i in omega (arith, d.low, c.loop-i.invariant.base)

pub overflow_add-from : goal.overflow_add-from
overflow_add-from c =
    let v = c.loop-i.invariant in
    let d = lies_in (goal.at.overflow_add-from c).After-index-others-i in
    omega (arith, d.room, v.base, v.front, c.args.extent.now.bytes.ok.0)

pub overflow_add-from-in-loop-i : goal.overflow_add-from-in-loop-i
overflow_add-from-in-loop-i c =
    let v = c.loop-i.invariant in
    let d = lies_in (goal.at.overflow_add-from-in-loop-i c).After-index-others-i in
    omega (arith, d.room, v.base, v.front, c.args.extent.now.bytes.ok.0, ap length c.bytes_of_extent-bytes.ensures)

pub slice_bounds-copy_from_slice-end : goal.slice_bounds-copy_from_slice-end
slice_bounds-copy_from_slice-end c =
    let v = c.loop-i.invariant in
    let d = lies_in (goal.at.slice_bounds-copy_from_slice-end c).After-index-others-i in
    let long = ap length c.bytes_of_extent-bytes.ensures in
    omega (arith, d.room, v.base, v.front, v.count, c.args.extent.now.bytes.ok.0, long, c.deref_mut.ensures.len)

pub loop-i-preserved : goal.loop-i-preserved
loop-i-preserved c =
    let there = lies_in (goal.at.loop-i-preserved c).After-index-others-i in
    let es = c.args.others.now in
    let i = c.loop-i.i - 1 in
    let d = c.index-others-i.result in
    let w = c.args.extent.now in
    let v = c.loop-i.invariant in
    let count : i < length es = there.count in
    let is = there.is in
    let ps = map extent_view es in
    let e = c.loop-i.extent in
    let f : ℕ = e.front in
    let k : ℕ = f + (d.base - e.base) in
    let m : ℕ = k + length c.bytes_of_extent-bytes.result.now - k in
    let xs : List ℕ = c.deref_mut.result.now in
    let ys : List ℕ = c.copy_from_slice.new.self in
    let value : xs ≡ e.bytes.items = c.deref_mut.ensures.value in
    let ys_is : ys ≡ (extent_view d).bytes = c.copy_from_slice.ensures.after ∙ c.bytes_of_extent-bytes.ensures in
    let size : m ≡ length (extent_view d).bytes = omega (arith, ap length c.bytes_of_extent-bytes.ensures) in
    let all : length xs ≡ f + (end_of_extent (extent_view w) - w.base) =
    omega (arith, ap length value, e.bytes.ok.0, w.bytes.ok.0, v.count, v.front, there.long, c.requires.some) in
    let next : i + 1 ≡ c.loop-i.i = omega (arith, c.loop-i-test.true) in
    let at : k ≡ f + ((nth_extent ps i).base - w.base) =
    ap (λ b. f + (d.base - b)) v.base ∙ ap (λ (q : ExtentView). f + (q.base - w.base)) (sym is) in
    let put = length-mid k m xs ys (ap length ys_is ∙ sym size) (omega (arith, all, size, there.low, there.high, v.base)) in
    record {
      most = omega (arith, count);
      base = v.base;
      front = v.front;
      count = v.count;
      told = λ x least below.
          ap (λ (zs : List ℕ). get_or (drop f zs) (x - w.base) 0) (with_items_is e.bytes (put_mid k m xs ys)
          (put ∙ ap length value ∙ sym e.bytes.ok.0))
          ∙ absorbed ps (extent_view w ∷ []) i w.base (end_of_extent (extent_view w)) f k m xs ys
          (omega (arith, count, length-map es extent_view)) all
          (c.requires.low i count) (c.requires.high i count) at (size ∙ ap (λ (q : ExtentView). length q.bytes) (sym is))
          (ys_is ∙ ap (λ (q : ExtentView). q.bytes) (sym is))
          (λ y from to. ap (λ (zs : List ℕ). get_or (drop f zs) (y - w.base) 0) value ∙ v.told y from to
          ∙ ap (λ n. byte_of (drop n ps ++ extent_view w ∷ []) y) (sym next))
          x least below;
    }

pub returns : goal.returns
returns c =
    let w = c.args.extent.now in
    let e = c.loop-i.extent in
    let v = c.loop-i.invariant in
    let ps = map extent_view c.args.others.now in
    let none : c.loop-i.i ≡ 0 = omega (arith, c.loop-i-test.false) in
    same_piece e.base w.base (drop e.front e.bytes.items) _ v.base
    (told_bytes (byte_of (ps ++ extent_view w ∷ [])) w.base (end_of_extent (extent_view w) - w.base) (drop e.front e.bytes.items)
    (length-drop e.front e.bytes.items ∙ omega (arith, v.front, v.count, e.bytes.ok.0, w.bytes.ok.0, length-drop w.front w.bytes.items))
    (λ k below. ap (λ j. get_or (drop e.front e.bytes.items) j 0) (omega arith)
    ∙ v.told (w.base + k) (omega arith) (omega (arith, below))
    ∙ ap (λ n. byte_of (drop n ps ++ extent_view w ∷ []) (w.base + k)) none))
