use Rattle.std.proofs.Common.{rules, ◌≡◌, ℕ, ◌-◌, ◌<◌, ◌≤◌, List, [], ◌∷◌, ◌++◌, length, set, take, drop, map, refl, ◌∙◌, ap, arith}
use Rattle.std.proofs.Math.Seq.{map-set_same}
use Rattle.std.proofs.lemmas.List.{get_or-set_same, set-set}
use Rattle.phys_store.specs.declared.extents.Extent.{Extent}
use Rattle.phys_store.specs.Bytes.{ExtentView, end_of_extent}
use Rattle.phys_store.specs.Extents.{extent_view, nth_extent, extent_with_bytes_of}
use Rattle.phys_store.proofs.Widening.{IsKept, kept_piece, united, others_in, past_covering}
use Rattle.phys_store.proofs.prepare.merge_touched_extents.Goals as goal
use Rattle.phys_store.proofs.prepare.merge_touched_extents.Goals.{After-index_mut, After-replace-whole}

-- the extent that is kept
kept : (c : After-index_mut) → IsKept c.args.extents.now.items c.index_mut.result.now c.largest-kept.result c.args.low c.args.high
kept c =
    kept_piece c.args.extents.now.items c.index_mut.result.now c.args.first c.args.after c.largest-kept.result c.args.low c.args.high
    c.requires.apart c.requires.joins c.largest-kept.ensures.least c.largest-kept.ensures.below c.index_mut.ensures.value

-- the empty extent that takes its place in the list meanwhile
abbrev left : After-replace-whole → Extent
left c = record { base = c.args.low; front = 0; bytes = c.new.result }

record IsOut (c : After-replace-whole) : Type 0 where
  some : 0 < length (extent_view c.replace-whole.result).bytes
  order : c.args.low ≤ c.args.high
  after : set (set c.args.extents.now.items c.largest-kept.result c.widen.new.extent) c.largest-kept.result c.replace-whole.new.dest
      ≡ set (set c.args.extents.now.items c.largest-kept.result c.widen.new.extent) c.largest-kept.result (left c)
  empty : length (extent_view (left c)).bytes ≡ 0
  is : c.replace-whole.result ≡ c.widen.new.extent
  base : c.replace-whole.result.base ≡ c.args.low
  end : end_of_extent (extent_view c.replace-whole.result) ≡ c.args.high

out : (c : After-replace-whole) → IsKept c.args.extents.now.items c.index_mut.result.now c.largest-kept.result c.args.low c.args.high
    → IsOut c
out c k =
    let p = c.index_mut.result.now in
    let es = c.args.extents.now.items in
    let w = c.widen.new.extent in
    let is : c.replace-whole.result ≡ w = c.replace-whole.ensures.value ∙ c.index_mut-2.ensures.value
    ∙ get_or-set_same es c.largest-kept.result w c.index_mut-2.result.now k.count in
    let wide : extent_view w ≡ extent_with_bytes_of (extent_view p ∷ []) c.args.low c.args.high = c.in_ok-widen.ensures.ok in
    let order : c.args.low ≤ c.args.high = omega (arith, k.low, k.high) in
    let base : c.replace-whole.result.base ≡ c.args.low = ap (λ (d : Extent). d.base) is ∙ ap (λ (q : ExtentView). q.base) wide in
    let end : end_of_extent (extent_view c.replace-whole.result) ≡ c.args.high = ap (λ (d : Extent). end_of_extent (extent_view d)) is
    ∙ ap end_of_extent wide ∙ past_covering (extent_view p ∷ []) c.args.low c.args.high order in
    record {
      some = omega (arith, base, end, k.some, k.low, k.high);
      order = order;
      after = ap (set (set es c.largest-kept.result w) c.largest-kept.result) c.replace-whole.ensures.after;
      empty = ap length c.new.ensures.items;
      is = is;
      base = base;
      end = end;
    }

-- the other extents lie in the kept one
lie_in : (c : After-replace-whole) → IsOut c → (ds : List Extent) →
    ds ≡ set (set c.args.extents.now.items c.largest-kept.result c.widen.new.extent) c.largest-kept.result c.replace-whole.new.dest →
    let others = take (c.args.after - c.args.first) (drop c.args.first ds) in (i : ℕ) → i < length others →
    (c.replace-whole.result.base ≤ (nth_extent (map extent_view others) i).base)
    × (end_of_extent (nth_extent (map extent_view others) i) ≤ end_of_extent (extent_view c.replace-whole.result))
lie_in c o ds same i less =
    let es = c.args.extents.now.items in
    let k : ℕ = c.largest-kept.result in
    let between = others_in es ds (left c) c.args.first c.args.after k c.args.low c.args.high c.requires.joins o.order
    c.largest-kept.ensures.below (same ∙ o.after ∙ set-set es k c.widen.new.extent (left c)) refl o.empty i less in
    (omega (arith, o.base, between.0), omega (arith, o.end, between.1))

pub widen-requires-clause-some : goal.widen-requires-clause-some
widen-requires-clause-some c = (kept (goal.at.widen-requires-clause-some c).After-index_mut).some

pub widen-requires-clause-low : goal.widen-requires-clause-low
widen-requires-clause-low c = (kept (goal.at.widen-requires-clause-low c).After-index_mut).low

pub widen-requires-clause-high : goal.widen-requires-clause-high
widen-requires-clause-high c = (kept (goal.at.widen-requires-clause-high c).After-index_mut).high

pub returns-in_err-widen-clause-err : goal.returns-in_err-widen-clause-err
returns-in_err-widen-clause-err c =
    let es = c.args.extents.now.items in
    let k : ℕ = c.largest-kept.result in
    let p = c.index_mut.result.now in
    let same : map extent_view (set es k c.widen.new.extent) ≡ map extent_view es =
    map-set_same extent_view es k c.widen.new.extent p (c.in_err-widen.ensures.err ∙ ap extent_view c.index_mut.ensures.value) in
    search (rules, same)

pub copy_into_extent-requires-clause-some : goal.copy_into_extent-requires-clause-some
copy_into_extent-requires-clause-some c =
    let at = goal.at.copy_into_extent-requires-clause-some c in (out at.After-replace-whole (kept at.After-index_mut)).some

pub copy_into_extent-requires-clause-low : goal.copy_into_extent-requires-clause-low
copy_into_extent-requires-clause-low c =
    let at = goal.at.copy_into_extent-requires-clause-low c in
    let o = out at.After-replace-whole (kept at.After-index_mut) in
    λ i less. (lie_in at.After-replace-whole o c.deref-2.result.now c.deref-2.ensures.value i less).0

pub copy_into_extent-requires-clause-high : goal.copy_into_extent-requires-clause-high
copy_into_extent-requires-clause-high c =
    let at = goal.at.copy_into_extent-requires-clause-high c in
    let o = out at.After-replace-whole (kept at.After-index_mut) in
    λ i less. (lie_in at.After-replace-whole o c.deref-2.result.now c.deref-2.ensures.value i less).1

pub returns-clause-ok : goal.returns-clause-ok
returns-clause-ok c =
    let at = goal.at.returns-clause-ok c in
    let o = out at.After-replace-whole (kept at.After-index_mut) in
    let es = c.args.extents.now.items in
    let k : ℕ = c.largest-kept.result in
    let p = c.index_mut.result.now in
    let w = c.widen.new.extent in
    let whole = c.replace-whole.result in
    let others = map extent_view (take (c.args.after - c.args.first) (drop c.args.first c.deref-2.result.now)) in
    let made : extent_view c.copy_into_extent.new.extent ≡ extent_with_bytes_of (others ++ extent_view w ∷ []) c.args.low c.args.high =
    c.copy_into_extent.ensures
    ∙ ap (λ (d : Extent). extent_with_bytes_of (others ++ extent_view d ∷ []) whole.base (end_of_extent (extent_view whole))) o.is
    ∙ ap (λ m. extent_with_bytes_of (others ++ extent_view w ∷ []) m (end_of_extent (extent_view whole))) o.base
    ∙ ap (λ m. extent_with_bytes_of (others ++ extent_view w ∷ []) c.args.low m) o.end in
    united es (set (set es k w) k c.replace-whole.new.dest) c.deref-2.result.now c.replace.new.extents.items p w
    (left at.After-replace-whole) c.copy_into_extent.new.extent c.args.first c.args.after k
    c.args.low c.args.high c.requires.apart c.requires.joins o.order c.largest-kept.ensures.least c.largest-kept.ensures.below
    c.index_mut.ensures.value o.after c.deref-2.ensures.value c.in_ok-widen.ensures.ok o.empty made c.replace.ensures
