-- Lemmas on the span of the frames below one, step by step and as a whole.
use Rattle.std.proofs.Common.{◌≡◌, ◌^◌, ℕ, zero, suc, ◌+◌, ◌<◌, ◌≤◌, Bool, true, false, if◌then◌else◌, Option, Some, None, refl, ap, add-one, add-suc, add-zero, arith}
use Rattle.std.specs.Option.{MatchOption}
use Rattle.bm_base.specs.declared.zone.Zone.{Zone}
use Rattle.buddy_blocks.specs.Frames.{Frames}
use Rattle.zone_spans.specs.declared.span.Span.{Span}
use Rattle.zone_spans.specs.Spans.{is_in_node_zone, with_frames, span_below, span_of, count_below_in_zone, IsSpan}

-- two functions with the same frames of the node and the zone have the same span
pub same_below : (f g : Frames) (n : ℕ) (z : Zone) (m : ℕ) → ((x : ℕ) → x < m → is_in_node_zone f n z x ≡ is_in_node_zone g n z x)
    → span_below f n z m ≡ span_below g n z m
unfolding span_below
same_below f g n z zero same = refl
same_below f g n z (suc m) same = rw (same m (omega arith), same_below f g n z m (λ x lt. same x (omega arith))) refl

-- frames of another node or zone change nothing
pub skip : (f : Frames) (n : ℕ) (z : Zone) (m k : ℕ) → ((x : ℕ) → m ≤ x → x < m + k → is_in_node_zone f n z x ≡ false)
    → span_below f n z (m + k) ≡ span_below f n z m
unfolding span_below
skip f n z m zero none = rw add-zero refl
skip f n z m (suc k) none =
    rw (add-suc, none (m + k) (omega arith) (omega arith)) (skip f n z m k (λ x above below. none x above (omega arith)))

-- one more frame after some
one_more : (n : ℕ) (z : Zone) (m k : ℕ) (o : Option Span)
    → with_frames n z (m + k) 1 (Some (with_frames n z m k o)) ≡ with_frames n z m (suc k) o
one_more n z m k o = grind arith

-- consecutive frames of the node and the zone
pub grow : (f : Frames) (n : ℕ) (z : Zone) (m k : ℕ) → ((x : ℕ) → m ≤ x → x < m + suc k → is_in_node_zone f n z x ≡ true)
    → span_below f n z (m + suc k) ≡ Some (with_frames n z m (suc k) (span_below f n z m))
unfolding span_below
grow f n z m zero all = rw (add-one, all m (omega arith) (omega arith)) refl
grow f n z m (suc k) all =
    let here = all (m + suc k) (omega arith) (omega arith) in
    let rest = grow f n z m k (λ x above below. all x above (omega arith)) in
    rw (add-suc m (suc k), here, rest) (ap (λ (s : Span). Some s) (one_more n z m (suc k) (span_below f n z m)))

-- what the span states of all frames below m; without a span there are none
abbrev pub IsToldBelow : Frames → ℕ → Zone → ℕ → Option Span → Type 0
IsToldBelow f n z m o =
    MatchOption o (((x : ℕ) → x < m → is_in_node_zone f n z x ≡ false) × (count_below_in_zone f n z m ≡ 0)) (λ s. IsSpan f n z m s)

told_next : (f : Frames) (n : ℕ) (z : Zone) (m : ℕ) (b : Bool) (o : Option Span) → is_in_node_zone f n z m ≡ b → IsToldBelow f n z m o
    → IsToldBelow f n z (suc m) (if b then Some (with_frames n z m 1 o) else o)
unfolding count_below_in_zone
told_next f n z m true None here told = grind (arith, told.0)
told_next f n z m true (Some s) here told = grind (arith, told.all)
told_next f n z m false None out told = grind (arith, told.0)
told_next f n z m false (Some s) out told = grind (arith, told.all)

pub told_below : (f : Frames) (n : ℕ) (z : Zone) (m : ℕ) → IsToldBelow f n z m (span_below f n z m)
unfolding span_below count_below_in_zone
told_below f n z zero = ((λ x below. absurd (omega arith)), refl)
told_below f n z (suc m) = told_next f n z m (is_in_node_zone f n z m) (span_below f n z m) refl (told_below f n z m)

pub is_span : (f : Frames) (n : ℕ) (z : Zone) (s : Span) → span_of f n z ≡ Some s → IsSpan f n z (2 ^ 52) s
unfolding span_of
is_span f n z s is = rw is at (told_below f n z (2 ^ 52))

pub no_span : (f : Frames) (n : ℕ) (z : Zone) (x : ℕ) → span_of f n z ≡ None → x < 2 ^ 52 → is_in_node_zone f n z x ≡ false
unfolding span_of
no_span f n z x is low = (rw is at (told_below f n z (2 ^ 52))).0 x low
