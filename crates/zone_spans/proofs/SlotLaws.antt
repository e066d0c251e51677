-- Lemmas on the slots of spans: what frames of one node and zone change, and the list of their
-- content.
use Rattle.std.proofs.Common.{◌≡◌, ◌^◌, ℕ, zero, suc, ◌+◌, ◌-◌, ◌*◌, ◌<◌, ◌≤◌, Option, Some, None, List, [], ◌∷◌, ◌++◌, length, get_or, drop, refl, sym, ◌∙◌, ap, arith, append_assoc, add-one, add-zero}
use Rattle.std.specs.Option.{option_to_list}
use Rattle.std.proofs.lemmas.List.{drop_all}
use Rattle.std.proofs.lemmas.Bool.Decides.{nat_tests}
use Rattle.bm_base.specs.declared.zone.Zone.{Zone}
use Rattle.bm_base.specs.declared.zone.Zone.TheVariants as zone
use Rattle.bm_base.specs.Zones.{zone_of}
use Rattle.address_runs.specs.Edits.{IsEmptyFrom}
use Rattle.buddy_blocks.specs.Frames.{Frames}
use Rattle.buddy_blocks.proofs.CountLaws.{zone_self, zone_is}
use Rattle.bm_base.specs.declared.zone.TheConstants.{MAX_NODES}
use Rattle.zone_spans.specs.declared.span.Span.{Span}
use Rattle.zone_spans.specs.Spans.{with_frames, span_below, span_of, spans_from, spans_of}
use Rattle.zone_spans.specs.Slots.{zone_index, SlotsHoldSpans, SpansHaveAtMost, frames_with_node_run, slot_after, spans_in_slots}
use Rattle.zone_spans.proofs.SpanLaws.{same_below, skip, grow}

-- each zone has its own index
low_place : (a : Zone) → zone_index a < 3
low_place a = grind arith

zone_by_place : (a b : Zone) → zone_index a ≡ zone_index b → a ≡ b
zone_by_place a b h = grind arith

-- frames of the node and the zone are added, above all others
span_grown : (f : Frames) (n at until m : ℕ) (w : Zone) → IsEmptyFrom at f → at < until → until ≤ m
    → ((x : ℕ) → at ≤ x → x < until → zone_of x ≡ w)
    → span_below (frames_with_node_run at until n f) n w m ≡ Some (with_frames n w at (until - at) (span_below f n w m))
span_grown f n at until m w nothing some low zones =
    let g : Frames = frames_with_node_run at until n f in
    let k : ℕ = until - at - 1 in
    let after = skip g n w until (m - until) (λ x above below. grind (arith, nat_tests, nothing x)) in
    let grown = grow g n w at k (λ x above below. grind (arith, nat_tests, zones x, zone_self w)) in
    let same = same_below g f n w at (λ x before. grind (arith, nat_tests)) in
    let bare = skip f n w at (m - at) (λ x above below. rw (nothing x above) refl) in
    grind (arith, after, grown, same, bare)

-- frames of another node or zone change nothing
span_other : (f : Frames) (n k at until m : ℕ) (z w : Zone) → IsEmptyFrom at f → ((x : ℕ) → at ≤ x → x < until → zone_of x ≡ w)
    → ((k ≡ n) → (w ≡ z) → ⊥) → span_below (frames_with_node_run at until k f) n z m ≡ span_below f n z m
span_other f n k at until m z w nothing zones other =
    same_below (frames_with_node_run at until k f) f n z m (λ x low.
    grind (arith, nat_tests, nothing x, zones x, other, zone_is (zone_of x) z))

-- the slots have the spans after one of them is changed
pub told_more : (f : Frames) (k at until : ℕ) (w : Zone) (old new : List (Option Span)) → IsEmptyFrom at f → at < until → until ≤ 2 ^ 52
    → ((x : ℕ) → at ≤ x → x < until → zone_of x ≡ w) → SlotsHoldSpans f old
    → ((i : ℕ) → get_or new i None ≡ slot_after k w at until (get_or old i None) i) → SlotsHoldSpans (frames_with_node_run at until k f) new
unfolding span_of
told_more f k at until w old new nothing some low zones told put n z =
    let grown = span_grown f k at until (2 ^ 52) w nothing some low zones in
    let other = span_other f n k at until (2 ^ 52) z w nothing zones in
    grind (arith, nat_tests, put, told n z, low_place z, low_place w, zone_by_place w z, grown, other)

-- giving a node to a run in two parts is the same as giving it to the whole run
pub run_parts : (first at until n : ℕ) (f : Frames) → first ≤ at → at ≤ until
    → frames_with_node_run at until n (frames_with_node_run first at n f) ≡ frames_with_node_run first until n f
run_parts first at until n f order order_too =
    let same : (x : ℕ) → frames_with_node_run at until n (frames_with_node_run first at n f) x ≡ frames_with_node_run first until n f x =
    λ x. grind (arith, nat_tests) in
    λ j x. same x j

pub nothing_after : (first at n : ℕ) (f : Frames) → first ≤ at → IsEmptyFrom first f → IsEmptyFrom at (frames_with_node_run first at n f)
nothing_after first at n f order nothing x above = grind (arith, nat_tests, nothing x)

-- the bound rises with the frames
pub bounded_more : (k at until : ℕ) (w : Zone) (old new : List (Option Span)) → at ≤ until → SpansHaveAtMost at old
    → ((i : ℕ) → get_or new i None ≡ slot_after k w at until (get_or old i None) i) → SpansHaveAtMost until new
bounded_more k at until w old new order bound put i s is = grind (arith, nat_tests, put i, bound i)

pub bounded_higher : (at higher : ℕ) (slots : List (Option Span)) → at ≤ higher → SpansHaveAtMost at slots → SpansHaveAtMost higher slots
bounded_higher at higher slots order bound i s is = omega (arith, bound i s is)

-- without any frames there is no span
pub told_none : (f : Frames) → ((x : ℕ) → f x ≡ None) → SlotsHoldSpans f []
unfolding span_of span_below
told_none f bare n z =
    let all : 2 ^ 52 ≡ 0 + 2 ^ 52 = omega arith in
    sym (ap (span_below f n z) all ∙ skip f n z 0 (2 ^ 52) (λ x above below. rw (bare x) refl))

-- the list of the content of the slots
pub somes_drop : (xs : List (Option Span)) (i : ℕ)
    → spans_in_slots (drop i xs) ≡ option_to_list (get_or xs i None) ++ spans_in_slots (drop (suc i) xs)
somes_drop [] zero = refl
somes_drop [] (suc i) = refl
somes_drop (x ∷ xs) zero = refl
somes_drop (x ∷ xs) (suc i) = somes_drop xs i

listed_from : (f : Frames) (slots : List (Option Span)) (n k : ℕ) → SlotsHoldSpans f slots → length slots ≤ 3 * (n + k)
    → spans_in_slots (drop (3 * n) slots) ≡ spans_from f n k
unfolding spans_from
listed_from f slots n zero told few = ap spans_in_slots (drop_all (3 * n) slots (omega arith))
listed_from f slots n (suc k) told few =
    let i : ℕ = 3 * n in
    let one : get_or slots i None ≡ span_of f n zone.Dma = rw add-zero at (told n zone.Dma) in
    let two : get_or slots (suc i) None ≡ span_of f n zone.Dma32 = rw add-one at (told n zone.Dma32) in
    let three : get_or slots (suc (suc i)) None ≡ span_of f n zone.Normal =
    let at : suc (suc i) ≡ 3 * n + 2 = omega arith in rw at (told n zone.Normal) in
    let next : suc (suc (suc i)) ≡ 3 * (n + 1) = omega arith in
    let rest = listed_from f slots (n + 1) k told (omega (arith, few)) in
    rw (somes_drop slots i, one, somes_drop slots (suc i), two, somes_drop slots (suc (suc i)), three, next, rest) (simp append_assoc)

pub listed : (f : Frames) (slots : List (Option Span)) → SlotsHoldSpans f slots → length slots ≤ 3072 → spans_in_slots slots ≡ spans_of f
unfolding spans_of
listed f slots told few = listed_from f slots 0 MAX_NODES told (omega (arith, few))
