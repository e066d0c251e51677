use Rattle.std.proofs.Common.{ℕ, ◌<◌, ◌≤◌, ◌||◌, List, map, subst, IsTrue}
use Rattle.std.proofs.lemmas.Bool.{false≢true}
use Rattle.bm_base.specs.Range.{covers}
use Rattle.phys_store.specs.declared.extents.Extent.{Extent}
use Rattle.phys_store.specs.Bytes.{is_prepared_at, ArePrepared}
use Rattle.phys_store.specs.Extents.{extent_view, AreTouchedExtents}
use Rattle.phys_store.proofs.Joining.{Prepared, prepared}
use Rattle.phys_store.proofs.prepare.prepare.Goals as goal
use Rattle.phys_store.proofs.prepare.prepare.Goals.{In_ok-merge_or_insert}

-- the range is prepared once its extents are joined
done : (c : In_ok-merge_or_insert)
    → Prepared (map extent_view c.args.extents.now.items) (map extent_view c.merge_or_insert.new.extents.items) c.args.range
done c =
    let ps = map extent_view c.args.extents.now.items in
    let h = c.touched_extents-reach.result in
    let not_ready =
    subst (λ (ds : List Extent). ArePrepared (map extent_view ds) c.args.range.base c.args.range.size → ⊥) c.deref.ensures.value
    (λ (ready : ArePrepared (map extent_view c.deref.result.now) c.args.range.base c.args.range.size). false≢true
    (c.if-are_prepared.ensures.1 ready)) in
    let joins : AreTouchedExtents ps h.first h.after h.low h.high = subst
    (λ (ds : List Extent). AreTouchedExtents (map extent_view ds) h.first h.after h.low h.high) c.deref-2.ensures.value
    c.touched_extents-reach.ensures.joins in
    let ready = subst (λ (ds : List Extent). (x : ℕ) → h.low ≤ x → x < h.high →
    IsTrue (covers c.args.range x || is_prepared_at (map extent_view ds) x)) c.deref-2.ensures.value
    c.touched_extents-reach.ensures.ready in
    prepared ps (map extent_view c.merge_or_insert.new.extents.items) c.args.range h.first h.after h.low h.high c.requires joins
    c.touched_extents-reach.ensures.low c.touched_extents-reach.ensures.high c.touched_extents-reach.ensures.small not_ready ready
    c.in_ok-merge_or_insert.ensures.ok

pub returns-clause-apart : goal.returns-clause-apart
returns-clause-apart c = (done (goal.at.returns-clause-apart c).In_ok-merge_or_insert).apart

pub returns-clause-bytes : goal.returns-clause-bytes
returns-clause-bytes c = (done (goal.at.returns-clause-bytes c).In_ok-merge_or_insert).bytes

pub returns-clause-ready : goal.returns-clause-ready
returns-clause-ready c = (done (goal.at.returns-clause-ready c).In_ok-merge_or_insert).ready
