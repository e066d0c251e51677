-- Lemmas on the spans by each rule.
use Rattle.std.proofs.Common.{◌≡◌, ◌^◌, ℕ, zero, suc, ◌+◌, ◌<◌, ◌≤◌, Bool, true, false, Option, Some, None, ◌++◌, if◌then◌else◌, refl, arith}
use Rattle.std.specs.Option.{option_to_list}
use Rattle.std.proofs.lemmas.Bool.{false_from_ne_true}
use Rattle.std.proofs.lemmas.Bool.Decides.{nat_tests}
use Rattle.std.proofs.lemmas.List.Elements.{filter-append}
use Rattle.bm_base.specs.declared.zone.Zone.{Zone}
use Rattle.bm_base.specs.declared.zone.Zone.TheVariants as zone
use Rattle.buddy_blocks.specs.Frames.{Frames}
use Rattle.bm_base.specs.declared.zone.TheConstants.{MAX_NODES}
use Rattle.zone_spans.specs.declared.rule.ZoneRule.{ZoneRule}
use Rattle.zone_spans.specs.declared.rule.ZoneRule.TheVariants as rules
use Rattle.zone_spans.specs.declared.span.Span.{Span}
use Rattle.zone_spans.specs.Spans.{is_in_node_zone, with_frames, span_below, span_of, spans_of_node, spans_from, spans_of, count_below_in_zone}
use Rattle.zone_spans.specs.Hull.{span_by, is_populated, populated_spans}
use Rattle.zone_spans.proofs.SpanLaws.{is_span, no_span}
use Rattle.zone_spans.proofs.HullLaws.{is_hull_span, no_hull_span, node_and_zone, own_frame}

pub span_has_frames : (rule : ZoneRule) (f : Frames) (n : ℕ) (z : Zone) (s : Span) (x : ℕ) → span_by rule f n z ≡ Some s → x < 2 ^ 52
    → is_in_node_zone f n z x ≡ true
    → (s.start ≤ x) × (x < s.end)
span_has_frames rules.Frames f n z s x is below here = (is_span f n z s is).all x below here
span_has_frames rules.NodeHull f n z s x is below here = (is_hull_span f n z s is).memory x below here

pub span_counts_frames : (rule : ZoneRule) (f : Frames) (n : ℕ) (z : Zone) (s : Span) → span_by rule f n z ≡ Some s
    → s.present ≡ count_below_in_zone f n z (2 ^ 52)
span_counts_frames rules.Frames f n z s is = (is_span f n z s is).present
span_counts_frames rules.NodeHull f n z s is = (is_hull_span f n z s is).present

pub no_span_no_frames : (rule : ZoneRule) (f : Frames) (n : ℕ) (z : Zone) (x : ℕ) → span_by rule f n z ≡ None → x < 2 ^ 52
    → is_in_node_zone f n z x ≡ false
no_span_no_frames rules.Frames f n z x none below = no_span f n z x none below
no_span_no_frames rules.NodeHull f n z x none below =
    false_from_ne_true (is_in_node_zone f n z x) (λ here.
    let parts = node_and_zone f n z x here in
    no_hull_span f n z x none parts.1 (own_frame f n x below parts.0))

-- a span by the rule of frames has at least one frame
populated_with : (n : ℕ) (z : Zone) (m : ℕ) (o : Option Span) → is_populated (with_frames n z m 1 o) ≡ true
populated_with n z m None = refl
populated_with n z m (Some s) = grind (arith, nat_tests)

populated_step : (n : ℕ) (z : Zone) (m : ℕ) (b : Bool) (o : Option Span) → populated_spans (option_to_list o) ≡ option_to_list o
    → populated_spans (option_to_list (if b then Some (with_frames n z m 1 o) else o))
    ≡ option_to_list (if b then Some (with_frames n z m 1 o) else o)
populated_step n z m true o before = rw (populated_with n z m o) refl
populated_step n z m false o before = before

populated_below : (f : Frames) (n : ℕ) (z : Zone) (m : ℕ)
    → populated_spans (option_to_list (span_below f n z m)) ≡ option_to_list (span_below f n z m)
unfolding span_below
populated_below f n z zero = refl
populated_below f n z (suc m) = populated_step n z m (is_in_node_zone f n z m) (span_below f n z m) (populated_below f n z m)

populated_span : (f : Frames) (n : ℕ) (z : Zone) → populated_spans (option_to_list (span_of f n z)) ≡ option_to_list (span_of f n z)
unfolding span_of
populated_span f n z = populated_below f n z (2 ^ 52)

populated_node : (f : Frames) (n : ℕ) → populated_spans (spans_of_node f n) ≡ spans_of_node f n
populated_node f n =
    let dma = option_to_list (span_of f n zone.Dma) in
    let dma32 = option_to_list (span_of f n zone.Dma32) in
    let normal = option_to_list (span_of f n zone.Normal) in
    rw (
      filter-append is_populated dma (dma32 ++ normal),
      filter-append is_populated dma32 normal,
      populated_span f n zone.Dma,
      populated_span f n zone.Dma32,
      populated_span f n zone.Normal,
    ) refl

populated_from : (f : Frames) (n k : ℕ) → populated_spans (spans_from f n k) ≡ spans_from f n k
unfolding spans_from
populated_from f n zero = refl
populated_from f n (suc k) =
    rw (filter-append is_populated (spans_of_node f n) (spans_from f (n + 1) k), populated_node f n, populated_from f (n + 1) k) refl

pub all_populated : (f : Frames) → populated_spans (spans_of f) ≡ spans_of f
unfolding spans_of
all_populated f = populated_from f 0 MAX_NODES
