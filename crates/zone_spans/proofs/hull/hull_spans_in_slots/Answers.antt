use Rattle.std.proofs.Common.{◌≡◌, ◌∙◌, sym, refl, arith, append-nil, add-zero}
use Rattle.bm_base.specs.declared.zone.Zone.TheVariants as zone
use Rattle.zone_spans.specs.Spans.{span_of}
use Rattle.zone_spans.specs.Hull.{hull_spans_from, hull_spans_of}
use Rattle.zone_spans.proofs.HullLaws.{hull_spans_by_slots, hull_spans_more}
use Rattle.zone_spans.proofs.hull.hull_spans_in_slots.Goals as goal

pub loop-node-init : goal.loop-node-init
unfolding hull_spans_of
loop-node-init c f told = rw c.new-spans.ensures.items refl

pub loop-node-preserved : goal.loop-node-preserved
loop-node-preserved c f told =
    let n = c.loop-node.node in
    let dma : c.slot_at-dma.result ≡ span_of f n zone.Dma = c.slot_at-dma.ensures ∙ rw add-zero at (told n zone.Dma) in
    let dma32 : c.slot_at-dma32.result ≡ span_of f n zone.Dma32 = c.slot_at-dma32.ensures ∙ told n zone.Dma32 in
    let normal : c.slot_at-normal.result ≡ span_of f n zone.Normal = c.slot_at-normal.ensures ∙ told n zone.Normal in
    let same = hull_spans_by_slots f n _ _ _ dma dma32 normal in
    rw (c.in_ok-add_zone_parts_of_hull.ensures, same)
    (sym (hull_spans_more f n c.loop-node.spans.items c.loop-node-test.true) ∙ c.loop-node.invariant f told)

pub returns : goal.returns
unfolding hull_spans_from
returns c f told =
    let all : c.loop-node.node ≡ 1024 = omega arith in
    sym (append-nil c.loop-node.spans.items) ∙ rw all at (c.loop-node.invariant f told)
