-- The slots for spans, which are filled while the records of memory are read. Each node has three
-- slots, one for each zone.
use Rattle.std.specs.Prelude.{◌≡◌, ℕ, ◌+◌, ◌-◌, ◌*◌, ◌==◌, ◌≤◌, ◌&&◌, nat_le, nat_lt, if◌then◌else◌, Option, Some, None, List, [], ◌∷◌, ◌++◌, get_or, option_to_list}
use Rattle.bm_base.specs.declared.zone.Zone.{Zone}
use Rattle.bm_base.specs.declared.zone.Zone.TheVariants as zone
use Rattle.buddy_blocks.specs.Frames.{Frames}
use Rattle.zone_spans.specs.declared.span.Span.{Span}
use Rattle.zone_spans.specs.Spans.{span_of, with_frames}

abbrev pub zone_index : Zone → ℕ
zone_index zone.Dma = 0
zone_index zone.Dma32 = 1
zone_index zone.Normal = 2

-- each slot has the span of its node and zone
abbrev pub SlotsHoldSpans : Frames → List (Option Span) → Type 0
SlotsHoldSpans f slots = (n : ℕ) (z : Zone) → get_or slots (3 * n + zone_index z) None ≡ span_of f n z

-- no span in the slots has more than `at` memory frames, which is true as long as all frames that
-- were added are below frame `at`
abbrev pub SpansHaveAtMost : ℕ → List (Option Span) → Type 0
SpansHaveAtMost at slots = (i : ℕ) (s : Span) → get_or slots i None ≡ Some s → s.present ≤ at

-- the node of each frame after the frames from `first` to below `end` were given the node `n`; the
-- others are unchanged
abbrev pub frames_with_node_run : ℕ → ℕ → ℕ → Frames → Frames
frames_with_node_run first end n f x = if nat_le first x && nat_lt x end then Some n else f x

-- the content of slot `i`, which was `held`, after the frames from `start` to below `end` of node
-- `n` and zone `z` were added
abbrev pub slot_after : ℕ → Zone → ℕ → ℕ → Option Span → ℕ → Option Span
slot_after n z start end held i = if i == 3 * n + zone_index z then Some (with_frames n z start (end - start) held) else held

-- the spans in the slots, in the order of the slots
abbrev pub spans_in_slots : List (Option Span) → List Span
spans_in_slots [] = []
spans_in_slots (s ∷ ss) = option_to_list s ++ spans_in_slots ss
