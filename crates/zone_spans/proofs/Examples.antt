-- Worked examples with a few frames.
use Rattle.std.proofs.Common.{◌≡◌, nat_le, nat_lt, ◌&&◌, true, false, Some, None, Option, [], ◌∷◌, if◌then◌else◌, refl}
use Rattle.bm_base.specs.declared.zone.Zone.TheVariants as zone
use Rattle.buddy_blocks.specs.Frames.{Frames}
use Rattle.zone_spans.specs.declared.span.Span.{Span}
use Rattle.zone_spans.specs.declared.hull.HullFrames.{HullFrames}
use Rattle.zone_spans.specs.Spans.{is_in_node_zone, with_frames, span_below, count_below_in_zone}
use Rattle.zone_spans.specs.Hull.{clamp_to_zone, hull_below, span_in_hull, populated_spans}
use Rattle.zone_spans.specs.Slots.{zone_index, frames_with_node_run, slot_after}

-- frames 1 and 3 are memory of node 7
abbrev holed : Frames
holed x = if (nat_le 1 x && nat_lt x 2) then Some 7 else (if (nat_le 3 x && nat_lt x 4) then Some 7 else None)

abbrev both : Span
both = record { node = 7; zone = zone.Dma; start = 1; end = 4; present = 2 }

-- the hole is inside the span, but isn't counted
span_examples : (is_in_node_zone holed 7 zone.Dma 3 ≡ true) × (is_in_node_zone holed 7 zone.Dma 2 ≡ false)
    × (is_in_node_zone holed 7 zone.Dma32 3 ≡ false)
    × (is_in_node_zone holed 6 zone.Dma 3 ≡ false)
    × (with_frames 7 zone.Dma 1 1 None ≡ record { node = 7; zone = zone.Dma; start = 1; end = 2; present = 1 })
    × (with_frames 7 zone.Dma 3 1 (Some (record { node = 7; zone = zone.Dma; start = 1; end = 2; present = 1 })) ≡ both)
    × (span_below holed 7 zone.Dma 5 ≡ Some both) × (span_below holed 7 zone.Dma32 5 ≡ None)
    × (span_below holed 7 zone.Dma 1 ≡ None)
    × (count_below_in_zone holed 7 zone.Dma 5 ≡ 2) × (count_below_in_zone holed 7 zone.Dma 2 ≡ 1)
unfolding span_below count_below_in_zone
span_examples = (refl, refl, refl, refl, refl, refl, refl, refl, refl, refl, refl)

place_examples : (zone_index zone.Dma ≡ 0) × (zone_index zone.Dma32 ≡ 1) × (zone_index zone.Normal ≡ 2)
    × (frames_with_node_run 4 6 7 holed 5 ≡ Some 7) × (frames_with_node_run 4 6 7 holed 6 ≡ None)
    × (frames_with_node_run 4 6 8 holed 3 ≡ Some 7)
    × (slot_after 7 zone.Dma 1 2 None 21 ≡ Some (record { node = 7; zone = zone.Dma; start = 1; end = 2; present = 1 }))
    × (slot_after 7 zone.Dma 1 2 None 22 ≡ None)
place_examples = (refl, refl, refl, refl, refl, refl, refl, refl)

-- frames 1 and 3 are memory of node 7, and frame 2 is memory of node 8
abbrev by_turns : Frames
by_turns x = if (nat_le 2 x && nat_lt x 3) then Some 8 else holed x

-- two nodes that take turns: frame 2 is inside the hull of each; node 6 has no memory, so no hull
hull_examples : (hull_below by_turns 7 5 ≡ Some (record { first = 1; end = 4 }))
    × (hull_below by_turns 8 5 ≡ Some (record { first = 2; end = 3 }))
    × (hull_below by_turns 7 3 ≡ Some (record { first = 1; end = 2 }))
    × (hull_below by_turns 6 5 ≡ None)
    × (span_in_hull 6 zone.Dma 0 None ≡ None)
unfolding hull_below
hull_examples = (refl, refl, refl, refl, refl)

-- node 0 of `examples/kernel-high-nodes`, and of `examples/srat-order`
abbrev across_all : Option HullFrames
across_all = Some (record { first = 1; end = 1123141 })

abbrev below_1_gib : Option HullFrames
below_1_gib = Some (record { first = 1; end = 262144 })

-- a hull is cut at 16 MiB and 4 GiB, also if a zone has none of the node's frames; a zone that the
-- hull doesn't touch has no span, also if the hull ends at its border
part_examples : (span_in_hull 0 zone.Dma 3995 across_all
    ≡ Some (record { node = 0; zone = zone.Dma; start = 1; end = 4096; present = 3995 }))
    × (span_in_hull 0 zone.Dma32 0 across_all ≡ Some (record { node = 0; zone = zone.Dma32; start = 4096; end = 1048576; present = 0 }))
    × (span_in_hull 0 zone.Normal 74565 across_all
    ≡ Some (record { node = 0; zone = zone.Normal; start = 1048576; end = 1123141; present = 74565 }))
    × (span_in_hull 0 zone.Dma32 258048 below_1_gib
    ≡ Some (record { node = 0; zone = zone.Dma32; start = 4096; end = 262144; present = 258048 }))
    × (span_in_hull 0 zone.Normal 0 below_1_gib ≡ None)
    × (span_in_hull 0 zone.Dma32 0 (Some (record { first = 1; end = 4096 })) ≡ None)
    × (span_in_hull 0 zone.Dma 0 (Some (record { first = 4096; end = 4097 })) ≡ None)
    × (span_in_hull 0 zone.Dma 1 (Some (record { first = 4095; end = 4097 }))
    ≡ Some (record { node = 0; zone = zone.Dma; start = 4095; end = 4096; present = 1 }))
part_examples = (refl, refl, refl, refl, refl, refl, refl, refl)

clamp_examples : (clamp_to_zone zone.Dma32 4095 ≡ 4096) × (clamp_to_zone zone.Dma32 4097 ≡ 4097)
    × (clamp_to_zone zone.Dma32 1048577 ≡ 1048576)
    × (clamp_to_zone zone.Normal 1048575 ≡ 1048576)
clamp_examples = (refl, refl, refl, refl)

-- a zone without frames isn't populated
populated_examples : populated_spans (record both { present = 0 } ∷ both ∷ []) ≡ both ∷ []
populated_examples = refl
