-- The hull of a node from its three slots of spans, once all records of memory were read.
use Rattle.std.specs.Prelude.{ℕ, Option, Some, None, List, ◌++◌, option_to_list}
use Rattle.bm_base.specs.declared.zone.Zone.TheVariants as zone
use Rattle.zone_spans.specs.declared.span.Span.{Span}
use Rattle.zone_spans.specs.declared.hull.HullFrames.{HullFrames}
use Rattle.zone_spans.specs.Hull.{span_in_hull}

-- the hull extended to the end of the span, whose frames are above all frames of the hull
abbrev pub hull_with_span : Option HullFrames → Option Span → Option HullFrames
hull_with_span None None = None
hull_with_span None (Some s) = Some (record { first = s.start; end = s.end })
hull_with_span (Some h) None = Some h
hull_with_span (Some h) (Some s) = Some (record { first = h.first; end = s.end })

-- the hull of a node by the spans of its zones Dma, Dma32 and Normal
abbrev pub hull_of_slots : Option Span → Option Span → Option Span → Option HullFrames
hull_of_slots dma dma32 normal = hull_with_span (hull_with_span (hull_with_span None dma) dma32) normal

-- the number of the node's frames in the zone, from the slot of this node and zone
abbrev pub present_in_slot : Option Span → ℕ
present_in_slot None = 0
present_in_slot (Some s) = s.present

-- the spans of the zones of a node by the node's hull, from its three slots
abbrev pub hull_spans_of_slots : ℕ → Option Span → Option Span → Option Span → List Span
hull_spans_of_slots n dma dma32 normal =
    let hull = hull_of_slots dma dma32 normal in
    option_to_list (span_in_hull n zone.Dma (present_in_slot dma) hull)
    ++ (option_to_list (span_in_hull n zone.Dma32 (present_in_slot dma32) hull)
    ++ option_to_list (span_in_hull n zone.Normal (present_in_slot normal) hull))
