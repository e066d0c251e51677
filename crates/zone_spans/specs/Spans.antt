-- Defines the range of frames that the memory of a node spans in a zone, frame by frame
-- (`zone_spanned_pages_in_node`, `zone_absent_pages_in_node`).
use Rattle.std.specs.Prelude.{◌≡◌, ◌^◌, ℕ, zero, suc, ◌+◌, ◌-◌, ◌<◌, ◌≤◌, Bool, true, ◌&&◌, if◌then◌else◌, Option, Some, None, List, [], ◌++◌, option_to_list}
use Rattle.bm_base.specs.declared.zone.Zone.{Zone}
use Rattle.bm_base.specs.declared.zone.Zone.TheVariants as zone
use Rattle.bm_base.specs.Zones.{zone_of}
use Rattle.buddy_blocks.specs.Frames.{Frames}
use Rattle.buddy_blocks.specs.BlockList.{is_node, is_same_zone}
use Rattle.bm_base.specs.declared.zone.TheConstants.{MAX_NODES}
use Rattle.zone_spans.specs.declared.span.Span.{Span}

-- whether frame `x` is memory of node `n` and in zone `z`
abbrev pub is_in_node_zone : Frames → ℕ → Zone → ℕ → Bool
is_in_node_zone f n z x = is_node (f x) n && is_same_zone (zone_of x) z

-- the span extended by `count` frames from frame `first` on, which are above all frames of the
-- span
abbrev pub with_frames : ℕ → Zone → ℕ → ℕ → Option Span → Span
with_frames n z first count None = record { node = n; zone = z; start = first; end = first + count; present = count }
with_frames n z first count (Some s) = record { node = n; zone = z; start = s.start; end = first + count; present = s.present + count }

-- the span of node `n` in zone `z`, among the frames below `m`; None if none of these frames is of
-- that node and zone
unfoldable pub span_below : Frames → ℕ → Zone → ℕ → Option Span
span_below f n z zero = None
span_below f n z (suc m) = if is_in_node_zone f n z m then Some (with_frames n z m 1 (span_below f n z m)) else span_below f n z m

-- the span of node `n` in zone `z`, among all frames: each address of 64 bits is in a frame below
-- 2^52
unfoldable pub span_of : Frames → ℕ → Zone → Option Span
span_of f n z = span_below f n z (2 ^ 52)

-- the spans of one node, from zone Dma to Normal
abbrev pub spans_of_node : Frames → ℕ → List Span
spans_of_node f n =
    option_to_list (span_of f n zone.Dma) ++ (option_to_list (span_of f n zone.Dma32) ++ option_to_list (span_of f n zone.Normal))

-- the spans of the `k` nodes from `n` on
unfoldable pub spans_from : Frames → ℕ → ℕ → List Span
spans_from f n zero = []
spans_from f n (suc k) = spans_of_node f n ++ spans_from f (n + 1) k

-- all spans, sorted by node and then by zone
unfoldable pub spans_of : Frames → List Span
spans_of f = spans_from f 0 MAX_NODES

-- the number of frames below `m` that are of node `n` and in zone `z`
unfoldable pub count_below_in_zone : Frames → ℕ → Zone → ℕ → ℕ
count_below_in_zone f n z zero = 0
count_below_in_zone f n z (suc m) = (if is_in_node_zone f n z m then 1 else 0) + count_below_in_zone f n z m

-- `s` is the span of the frames of node `n` in zone `z`, among the frames below `m`
pub record IsSpan (f : Frames) (n : ℕ) (z : Zone) (m : ℕ) (s : Span) : Type 0 where
  pub node : s.node ≡ n
  pub zone : s.zone ≡ z
  pub some : s.start < s.end
  pub first : is_in_node_zone f n z s.start ≡ true
  pub last : is_in_node_zone f n z (s.end - 1) ≡ true
  pub within : s.end ≤ m
  pub all : (x : ℕ) → x < m → is_in_node_zone f n z x ≡ true → (s.start ≤ x) × (x < s.end)
  pub present : s.present ≡ count_below_in_zone f n z m
