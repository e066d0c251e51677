-- Zones by the hull of their node: a zone spans from the node's first memory frame to its last, as
-- far as that is inside the zone's borders (`zone_spanned_pages_in_node`).
use Rattle.std.specs.Prelude.{◌≡◌, ◌^◌, ℕ, zero, suc, ◌+◌, ◌<◌, ◌≤◌, Bool, true, nat_lt, min, max, if◌then◌else◌, Option, Some, None, List, [], ◌++◌, option_to_list}
use Rattle.std.specs.List.{filter}
use Rattle.bm_base.specs.declared.zone.Zone.{Zone}
use Rattle.bm_base.specs.declared.zone.Zone.TheVariants as zone
use Rattle.bm_base.specs.declared.zone.TheConstants.{MAX_DMA_FRAME, MAX_DMA32_FRAME}
use Rattle.bm_base.specs.Zones.{zone_of}
use Rattle.buddy_blocks.specs.Frames.{Frames}
use Rattle.buddy_blocks.specs.BlockList.{is_node}
use Rattle.bm_base.specs.declared.zone.TheConstants.{MAX_NODES}
use Rattle.zone_spans.specs.declared.span.Span.{Span}
use Rattle.zone_spans.specs.declared.hull.HullFrames.{HullFrames}
use Rattle.zone_spans.specs.declared.rule.ZoneRule.{ZoneRule}
use Rattle.zone_spans.specs.declared.rule.ZoneRule.TheVariants as rules
use Rattle.zone_spans.specs.Spans.{is_in_node_zone, span_of, spans_of, count_below_in_zone}

-- the first frame of the zone (`arch_zone_lowest_possible_pfn`)
abbrev pub zone_start : Zone → ℕ
zone_start zone.Dma = 0
zone_start zone.Dma32 = MAX_DMA_FRAME
zone_start zone.Normal = MAX_DMA32_FRAME

-- one more than the last frame of the zone (`arch_zone_highest_possible_pfn`); zone Normal has all
-- frames from 4 GiB on
abbrev pub zone_end : Zone → ℕ
zone_end zone.Dma = MAX_DMA_FRAME
zone_end zone.Dma32 = MAX_DMA32_FRAME
zone_end zone.Normal = 2 ^ 52

-- the frame if it is inside the zone's borders, else the border next to it (`clamp`)
abbrev pub clamp_to_zone : Zone → ℕ → ℕ
clamp_to_zone z x = min (max x (zone_start z)) (zone_end z)

-- the hull extended by frame `m`, which is above all frames of the hull
abbrev pub hull_with_frame : ℕ → Option HullFrames → HullFrames
hull_with_frame m None = record { first = m; end = m + 1 }
hull_with_frame m (Some h) = record { first = h.first; end = m + 1 }

-- the hull of the node's frames below `m`: from the first of them to the last; None if there are
-- none (`get_pfn_range_for_nid`)
unfoldable pub hull_below : Frames → ℕ → ℕ → Option HullFrames
hull_below f n zero = None
hull_below f n (suc m) = if is_node (f m) n then Some (hull_with_frame m (hull_below f n m)) else hull_below f n m

-- the span of a zone of a node with this hull: the hull with both ends clamped to the zone; None
-- if no frame of the hull is in the zone
abbrev pub span_in_hull : ℕ → Zone → ℕ → Option HullFrames → Option Span
span_in_hull n z present None = None
span_in_hull n z present (Some h) =
    if nat_lt (clamp_to_zone z h.first) (clamp_to_zone z h.end)
    then Some (record { node = n; zone = z; start = clamp_to_zone z h.first; end = clamp_to_zone z h.end; present = present })
    else None

-- the span of a node and a zone by the node's hull; `present` counts the node's frames in the zone
unfoldable pub hull_span_of : Frames → ℕ → Zone → Option Span
hull_span_of f n z = span_in_hull n z (count_below_in_zone f n z (2 ^ 52)) (hull_below f n (2 ^ 52))

-- the spans of the zones of one node by the node's hull, from Dma to Normal
abbrev pub hull_spans_of_node : Frames → ℕ → List Span
hull_spans_of_node f n =
    option_to_list (hull_span_of f n zone.Dma)
    ++ (option_to_list (hull_span_of f n zone.Dma32) ++ option_to_list (hull_span_of f n zone.Normal))

-- the spans of the `k` nodes from `n` on, by their hulls
unfoldable pub hull_spans_from : Frames → ℕ → ℕ → List Span
hull_spans_from f n zero = []
hull_spans_from f n (suc k) = hull_spans_of_node f n ++ hull_spans_from f (n + 1) k

-- all spans by the hulls of nodes, sorted by node and then by zone
unfoldable pub hull_spans_of : Frames → List Span
hull_spans_of f = hull_spans_from f 0 MAX_NODES

-- the span of a node and a zone by a rule
abbrev pub span_by : ZoneRule → Frames → ℕ → Zone → Option Span
span_by rules.Frames f n z = span_of f n z
span_by rules.NodeHull f n z = hull_span_of f n z

-- all spans by a rule, sorted by node and then by zone
abbrev pub spans_by : ZoneRule → Frames → List Span
spans_by rules.Frames f = spans_of f
spans_by rules.NodeHull f = hull_spans_of f

-- whether at least one frame of the zone is memory of the node (`populated_zone`)
abbrev pub is_populated : Span → Bool
is_populated s = nat_lt 0 s.present

-- the spans of the zones that have memory
abbrev pub populated_spans : List Span → List Span
populated_spans spans = filter is_populated spans

-- the node has a memory frame at or below this one, and one at or above it
pub record IsInHull (f : Frames) (n x : ℕ) : Type 0 where
  pub low : ℕ
  pub low_below : low ≤ x
  pub low_is : is_node (f low) n ≡ true
  pub high : ℕ
  pub high_above : x ≤ high
  pub high_fits : high < 2 ^ 52
  pub high_is : is_node (f high) n ≡ true

-- `s` is the span of node `n` in zone `z` by the node's hull
pub record IsHullSpan (f : Frames) (n : ℕ) (z : Zone) (s : Span) : Type 0 where
  pub node : s.node ≡ n
  pub zone : s.zone ≡ z
  pub some : s.start < s.end
  -- the span is inside the zone's borders
  pub start : zone_start z ≤ s.start
  pub end : s.end ≤ zone_end z
  pub inside : (x : ℕ) → s.start ≤ x → x < s.end → (zone_of x ≡ z) × IsInHull f n x
  -- no frame of the zone that is inside the node's hull is left out
  pub all : (x : ℕ) → zone_of x ≡ z → IsInHull f n x → (s.start ≤ x) × (x < s.end)
  -- the span has the node's frames in the zone, and `present` is their number
  pub memory : (x : ℕ) → x < 2 ^ 52 → is_in_node_zone f n z x ≡ true → (s.start ≤ x) × (x < s.end)
  pub present : s.present ≡ count_below_in_zone f n z (2 ^ 52)
