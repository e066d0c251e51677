-- Lemmas on the hull of a node: what it states of each frame, and that the spans of the node's
-- three zones give it.
use Rattle.std.proofs.Common.{◌≡◌, ◌^◌, ℕ, zero, suc, ◌+◌, ◌-◌, ◌<◌, ◌≤◌, Bool, true, false, ◌||◌, if◌then◌else◌, Option, Some, None, List, ◌++◌, refl, sym, ◌∙◌, ap, append_assoc, arith}
use Rattle.std.specs.Option.{MatchOption}
use Rattle.std.proofs.lemmas.Bool.Decides.{nat_tests}
use Rattle.bm_base.specs.declared.zone.Zone.{Zone}
use Rattle.bm_base.specs.declared.zone.Zone.TheVariants as zone
use Rattle.bm_base.specs.Zones.{zone_of}
use Rattle.buddy_blocks.specs.Frames.{Frames}
use Rattle.buddy_blocks.specs.BlockList.{is_node}
use Rattle.buddy_blocks.proofs.CountLaws.{zone_is}
use Rattle.zone_spans.specs.declared.span.Span.{Span}
use Rattle.zone_spans.specs.declared.hull.HullFrames.{HullFrames}
use Rattle.zone_spans.specs.Spans.{is_in_node_zone, span_of, count_below_in_zone}
use Rattle.zone_spans.specs.Hull.{zone_start, zone_end, hull_with_frame, hull_below, span_in_hull, hull_span_of, hull_spans_of_node, hull_spans_from, IsInHull, IsHullSpan}
use Rattle.zone_spans.specs.HullSlots.{hull_with_span, hull_of_slots, present_in_slot, hull_spans_of_slots}
use Rattle.zone_spans.proofs.SpanLaws.{IsToldBelow, told_below}

-- from the first to the last of the numbers below m that pass a test
pub record IsHull (p : ℕ → Bool) (m : ℕ) (h : HullFrames) : Type 0 where
  pub some : h.first < h.end
  pub first : p h.first ≡ true
  pub last : p (h.end - 1) ≡ true
  pub within : h.end ≤ m
  pub all : (x : ℕ) → x < m → p x ≡ true → (h.first ≤ x) × (x < h.end)

abbrev pub IsHullIfSome : (ℕ → Bool) → ℕ → Option HullFrames → Type 0
IsHullIfSome p m o = MatchOption o ((x : ℕ) → x < m → p x ≡ false) (λ h. IsHull p m h)

-- the frames of the node
abbrev pub is_of_node : Frames → ℕ → ℕ → Bool
is_of_node f n x = is_node (f x) n

hull_next : (f : Frames) (n m : ℕ) (b : Bool) (o : Option HullFrames) → is_node (f m) n ≡ b → IsHullIfSome (is_of_node f n) m o
    → IsHullIfSome (is_of_node f n) (suc m) (if b then Some (hull_with_frame m o) else o)
hull_next f n m true None here told = grind (arith, told)
hull_next f n m true (Some h) here told = grind (arith, told.all)
hull_next f n m false None out told = grind (arith, told)
hull_next f n m false (Some h) out told = grind (arith, told.all)

pub is_hull_below : (f : Frames) (n m : ℕ) → IsHullIfSome (is_of_node f n) m (hull_below f n m)
unfolding hull_below
is_hull_below f n zero = λ x below. absurd (omega arith)
is_hull_below f n (suc m) = hull_next f n m (is_node (f m) n) (hull_below f n m) refl (is_hull_below f n m)

-- there is one hull
pub same_hull : (p : ℕ → Bool) (m : ℕ) (a b : Option HullFrames) → IsHullIfSome p m a → IsHullIfSome p m b → a ≡ b
same_hull p m None None one two = refl
same_hull p m None (Some k) one two = grind (arith, one k.first)
same_hull p m (Some h) None one two = grind (arith, two h.first)
same_hull p m (Some h) (Some k) one two =
    grind (arith, one.all k.first, one.all (k.end - 1), two.all h.first, two.all (h.end - 1))

-- the span of a node and a zone is the hull of their frames
slot_is : (f : Frames) (n : ℕ) (z : Zone) (m : ℕ) (o : Option Span) → IsToldBelow f n z m o
    → IsHullIfSome (is_in_node_zone f n z) m (hull_with_span None o)
slot_is f n z m None told = told.0
slot_is f n z m (Some s) told =
    record { some = told.some; first = told.first; last = told.last; within = told.within; all = told.all }

-- the hull of the numbers that pass one of two tests, of which those of the second are above
hull_joined : (p q r : ℕ → Bool) (m b : ℕ) (o : Option HullFrames) (s : Option Span) → IsHullIfSome p m o
    → IsHullIfSome q m (hull_with_span None s)
    → ((x : ℕ) → p x ≡ true → x < b) → ((x : ℕ) → q x ≡ true → b ≤ x) → ((x : ℕ) → r x ≡ (p x || q x))
    → IsHullIfSome r m (hull_with_span o s)
hull_joined p q r m b None None one two low high either = λ x below. rw (either x, one x below, two x below) refl
hull_joined p q r m b None (Some s) one two low high either =
    record {
      some = two.some;
      first = grind (arith, either s.start, two.first);
      last = grind (arith, either (s.end - 1), two.last);
      within = two.within;
      all = λ x below is. grind (arith, either x, one x below, two.all x);
    }
hull_joined p q r m b (Some h) None one two low high either =
    record {
      some = one.some;
      first = grind (arith, either h.first, one.first);
      last = grind (arith, either (h.end - 1), one.last);
      within = one.within;
      all = λ x below is. grind (arith, either x, two x below, one.all x);
    }
hull_joined p q r m b (Some h) (Some s) one two low high either =
    let below_b = low (h.end - 1) one.last in
    let above_b = high s.start two.first in
    let order : h.end ≤ s.start = omega (arith, below_b, above_b) in
    record {
      some = omega (arith, one.some, two.some, order);
      first = grind (arith, either h.first, one.first);
      last = grind (arith, either (s.end - 1), two.last);
      within = two.within;
      all = λ x below is. grind (arith, either x, one.all x, two.all x, order, one.some, two.some);
    }

-- the frames of the node in a zone below 4 GiB
abbrev is_of_node_low : Frames → ℕ → ℕ → Bool
is_of_node_low f n x = is_in_node_zone f n zone.Dma x || is_in_node_zone f n zone.Dma32 x

-- the spans of the node's zones give its hull
pub hull_by_slots : (f : Frames) (n : ℕ)
    → hull_of_slots (span_of f n zone.Dma) (span_of f n zone.Dma32) (span_of f n zone.Normal) ≡ hull_below f n (2 ^ 52)
unfolding span_of
hull_by_slots f n =
    let m : ℕ = 2 ^ 52 in
    let dma = slot_is f n zone.Dma m (span_of f n zone.Dma) (told_below f n zone.Dma m) in
    let dma32 = slot_is f n zone.Dma32 m (span_of f n zone.Dma32) (told_below f n zone.Dma32 m) in
    let normal = slot_is f n zone.Normal m (span_of f n zone.Normal) (told_below f n zone.Normal m) in
    let low = hull_joined (is_in_node_zone f n zone.Dma) (is_in_node_zone f n zone.Dma32) (is_of_node_low f n) m 4096
    (hull_with_span None (span_of f n zone.Dma)) (span_of f n zone.Dma32) dma dma32
    (λ x is. grind (arith, nat_tests)) (λ x is. grind (arith, nat_tests)) (λ x. refl) in
    let all = hull_joined (is_of_node_low f n) (is_in_node_zone f n zone.Normal) (is_of_node f n) m 1048576
    (hull_with_span (hull_with_span None (span_of f n zone.Dma)) (span_of f n zone.Dma32)) (span_of f n zone.Normal) low normal
    (λ x is. grind (arith, nat_tests)) (λ x is. grind (arith, nat_tests)) (λ x. grind (arith, nat_tests)) in
    same_hull (is_of_node f n) m _ _ all (is_hull_below f n m)

-- the number of frames in a slot
present_told : (f : Frames) (n : ℕ) (z : Zone) (m : ℕ) (o : Option Span) → IsToldBelow f n z m o
    → present_in_slot o ≡ count_below_in_zone f n z m
present_told f n z m None told = sym told.1
present_told f n z m (Some s) told = told.present

present_by_slot : (f : Frames) (n : ℕ) (z : Zone) → present_in_slot (span_of f n z) ≡ count_below_in_zone f n z (2 ^ 52)
unfolding span_of
present_by_slot f n z = present_told f n z (2 ^ 52) (span_of f n z) (told_below f n z (2 ^ 52))

pub hull_spans_by_slots : (f : Frames) (n : ℕ) (dma dma32 normal : Option Span) → dma ≡ span_of f n zone.Dma
    → dma32 ≡ span_of f n zone.Dma32
    → normal ≡ span_of f n zone.Normal → hull_spans_of_slots n dma dma32 normal ≡ hull_spans_of_node f n
unfolding hull_span_of
hull_spans_by_slots f n dma dma32 normal one two three =
    rw (one, two, three, hull_by_slots f n, present_by_slot f n zone.Dma, present_by_slot f n zone.Dma32, present_by_slot f n zone.Normal)
    refl

-- the spans of one more node
pub hull_spans_more : (f : Frames) (n : ℕ) (xs : List Span) → n < 1024
    → xs ++ hull_spans_from f n (1024 - n) ≡ (xs ++ hull_spans_of_node f n) ++ hull_spans_from f (n + 1) (1024 - (n + 1))
unfolding hull_spans_from
hull_spans_more f n xs few =
    let k : ℕ = 1024 - (n + 1) in
    let more : 1024 - n ≡ suc k = omega (arith, few) in
    ap (λ j. xs ++ hull_spans_from f n j) more ∙ sym (append_assoc xs (hull_spans_of_node f n) (hull_spans_from f (n + 1) k))

-- a frame of the node and the zone
pub node_and_zone : (f : Frames) (n : ℕ) (z : Zone) (x : ℕ) → is_in_node_zone f n z x ≡ true
    → (is_node (f x) n ≡ true) × (zone_of x ≡ z)
node_and_zone f n z x is = grind (arith, zone_is (zone_of x) z)

-- a frame of the node is inside its hull
pub own_frame : (f : Frames) (n x : ℕ) → x < 2 ^ 52 → is_node (f x) n ≡ true → IsInHull f n x
own_frame f n x below is =
    record {
      low = x;
      low_below = omega arith;
      low_is = is;
      high = x;
      high_above = omega arith;
      high_fits = below;
      high_is = is;
    }

-- the clamped ends are inside the zone's borders, and a frame between the ends is between the
-- clamped ones exactly if it is in the zone
part_is : (n : ℕ) (z : Zone) (c : ℕ) (h : HullFrames) (s : Span) → h.end ≤ 2 ^ 52 → span_in_hull n z c (Some h) ≡ Some s
    → (s.node ≡ n) × (s.zone ≡ z) × (s.start < s.end) × (zone_start z ≤ s.start) × (s.end ≤ zone_end z) × (s.present ≡ c)
    × ((x : ℕ) → s.start ≤ x → x < s.end → (zone_of x ≡ z) × (h.first ≤ x) × (x < h.end))
    × ((x : ℕ) → zone_of x ≡ z → h.first ≤ x → x < h.end → (s.start ≤ x) × (x < s.end))
part_is n zone.Dma c h s fits is = grind (arith, nat_tests)
part_is n zone.Dma32 c h s fits is = grind (arith, nat_tests)
part_is n zone.Normal c h s fits is = grind (arith, nat_tests)

-- if no frame of the hull is in the zone there is no span
no_part : (n : ℕ) (z : Zone) (c : ℕ) (h : HullFrames) (x : ℕ) → h.end ≤ 2 ^ 52 → span_in_hull n z c (Some h) ≡ None → zone_of x ≡ z
    → h.first ≤ x → x < h.end → ⊥
no_part n zone.Dma c h x fits none here low high = grind (arith, nat_tests)
no_part n zone.Dma32 c h x fits none here low high = grind (arith, nat_tests)
no_part n zone.Normal c h x fits none here low high = grind (arith, nat_tests)

-- a frame is inside the hull exactly if the node has frames on both sides
in_hull : (f : Frames) (n : ℕ) (h : HullFrames) (x : ℕ) → IsHull (is_of_node f n) (2 ^ 52) h → h.first ≤ x → x < h.end
    → IsInHull f n x
in_hull f n h x hull low high =
    record {
      low = h.first;
      low_below = low;
      low_is = hull.first;
      high = h.end - 1;
      high_above = omega (arith, high);
      high_fits = omega (arith, hull.within, hull.some);
      high_is = hull.last;
    }

hull_has : (f : Frames) (n : ℕ) (h : HullFrames) (x : ℕ) → IsHull (is_of_node f n) (2 ^ 52) h → IsInHull f n x
    → (h.first ≤ x) × (x < h.end)
hull_has f n h x hull inside =
    let low = (hull.all inside.low (omega (arith, inside.low_below, inside.high_above, inside.high_fits)) inside.low_is).0 in
    let high = (hull.all inside.high inside.high_fits inside.high_is).1 in
    (omega (arith, low, inside.low_below), omega (arith, high, inside.high_above))

hull_span_told : (f : Frames) (n : ℕ) (z : Zone) (o : Option HullFrames) (s : Span) → IsHullIfSome (is_of_node f n) (2 ^ 52) o
    → span_in_hull n z (count_below_in_zone f n z (2 ^ 52)) o ≡ Some s → IsHullSpan f n z s
hull_span_told f n z None s told is = grind arith
hull_span_told f n z (Some h) s told is =
    let part = part_is n z (count_below_in_zone f n z (2 ^ 52)) h s told.within is in
    let all : (x : ℕ) → zone_of x ≡ z → IsInHull f n x → (s.start ≤ x) × (x < s.end) = λ x here inside.
    let ends = hull_has f n h x told inside in part.7 x here ends.0 ends.1 in
    record {
      node = part.0;
      zone = part.1;
      some = part.2;
      start = part.3;
      end = part.4;
      inside = λ x low high. let ends = part.6 x low high in (ends.0, in_hull f n h x told ends.1 ends.2);
      all = all;
      memory = λ x below is.
          let parts = node_and_zone f n z x is in all x parts.1 (own_frame f n x below parts.0);
      present = part.5;
    }

pub is_hull_span : (f : Frames) (n : ℕ) (z : Zone) (s : Span) → hull_span_of f n z ≡ Some s → IsHullSpan f n z s
unfolding hull_span_of
is_hull_span f n z s is = hull_span_told f n z (hull_below f n (2 ^ 52)) s (is_hull_below f n (2 ^ 52)) is

no_hull_told : (f : Frames) (n : ℕ) (z : Zone) (o : Option HullFrames) (x : ℕ) → IsHullIfSome (is_of_node f n) (2 ^ 52) o
    → span_in_hull n z (count_below_in_zone f n z (2 ^ 52)) o ≡ None → zone_of x ≡ z → IsInHull f n x → ⊥
no_hull_told f n z None x told none here inside = grind (arith, told inside.high, inside.high_fits, inside.high_is)
no_hull_told f n z (Some h) x told none here inside =
    let ends = hull_has f n h x told inside in
    no_part n z (count_below_in_zone f n z (2 ^ 52)) h x told.within none here ends.0 ends.1

pub no_hull_span : (f : Frames) (n : ℕ) (z : Zone) (x : ℕ) → hull_span_of f n z ≡ None → zone_of x ≡ z → IsInHull f n x → ⊥
unfolding hull_span_of
no_hull_span f n z x none here inside = no_hull_told f n z (hull_below f n (2 ^ 52)) x (is_hull_below f n (2 ^ 52)) none here inside
