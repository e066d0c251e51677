-- Memory as runs: the first run that ends above the start of a range decides whether a byte of the
-- range is memory.
use Rattle.std.proofs.Common.{◌≡◌, ◌↔◌, ℕ, suc, ◌+◌, ◌<◌, ◌≤◌, Bool, true, false, not, max, if◌then◌else◌, Option, Some, None, List, ◌∷◌, map, length, get_or, drop, drop-cons, refl, sym, ◌∙◌, ap, lt_of_not-le, arith}
use Rattle.std.proofs.lemmas.Bool.{true≢false}
use Rattle.std.proofs.lemmas.Bool.Decides.{nat_tests}
use Rattle.std.proofs.lemmas.List.{at_drop_all}
use Rattle.std.specs.Option.{option_or}
use Rattle.std.specs.Prelude.{is_some}
use Rattle.bm_base.specs.Range.{RangeView, Meet}
use Rattle.bm_base.proofs.EachLaws.{each_in-all, each_in-fails}
use Rattle.address_runs.specs.Overlay.{overlay_runs}
use Rattle.address_runs.specs.Runs.{RunOf, run_end, range_of_run, value_at, IsRunsOf}
use Rattle.address_runs.specs.Sweep.{IsRestFrom}
use Rattle.address_runs.proofs.RunsLaws.{inside, none_below}
use Rattle.srat_nodes.specs.Kept.{is_in_any_range, meets_memory}
use Rattle.srat_nodes.specs.Steps.{run_without_node, is_in_runs}
use Rattle.srat_nodes.proofs.RestLaws.{run_without_node_gives_false}

-- an address is in the runs of memory exactly if it is memory
pub memory_runs_are_memory : (memory : List RangeView) (rs : List (RunOf Bool))
    → IsRunsOf (overlay_runs option_or (map run_without_node memory)) rs
    → (x : ℕ)
    → is_in_runs rs x ≡ is_in_any_range memory x
memory_runs_are_memory memory rs known x =
    ap (λ (o : Option Bool). is_some o) (known.each x ∙ run_without_node_gives_false memory x) ∙ by (is_in_any_range memory x) where
      by : (m : Bool) → is_some (if m then Some false else None) ≡ m
      by true = refl
      by false = refl

-- a range with an address that has a value has memory, and a range without such an address has
-- none
some_in : (rs : List (RunOf Bool)) (range : RangeView) (x : ℕ) (v : Bool) → range.base ≤ x → x < range.base + range.size
    → value_at rs x ≡ Some v → meets_memory (is_in_runs rs) range ≡ true
some_in rs range x v low high found =
    ap not (each_in-fails range (λ y. not (is_in_runs rs y)) x low high (rw found refl))

none_in : (rs : List (RunOf Bool)) (range : RangeView) → ((y : ℕ) → range.base ≤ y → y < range.base + range.size → value_at rs y ≡ None)
    → meets_memory (is_in_runs rs) range ≡ false
none_in rs range none =
    ap not (each_in-all range (λ y. not (is_in_runs rs y)) (λ y low high. rw (none y low high) refl))

-- if no run ends above the start of the range, the range has no memory
pub nothing_left : (rs : List (RunOf Bool)) (i : ℕ) (range : RangeView) → IsRestFrom (value_at rs) range.base (drop i rs) → length rs ≤ i
    → meets_memory (is_in_runs rs) range ≡ false
nothing_left rs i range rest all =
    none_in rs range (λ y low high. sym (rest.each y low) ∙ at_drop_all (λ (ss : List (RunOf Bool)). value_at ss y) rs i all)

-- the first run that ends above the start of the range shares an address with it, or doesn't
abbrev Left : List (RunOf Bool) → RangeView → RunOf Bool → List (RunOf Bool) → Type 0
Left rs range r ss = IsRestFrom (value_at rs) range.base (r ∷ ss)

left_at : (rs : List (RunOf Bool)) (i : ℕ) (range : RangeView) (r : RunOf Bool) → IsRestFrom (value_at rs) range.base (drop i rs)
    → i < length rs → r ≡ get_or rs i r → Left rs range r (drop (suc i) rs)
left_at rs i range r rest few is =
    rw (drop-cons rs i r few, ← is) at rest

first_meets : (rs : List (RunOf Bool)) (i : ℕ) (range : RangeView) (r : RunOf Bool) → IsRestFrom (value_at rs) range.base (drop i rs)
    → i < length rs → r ≡ get_or rs i r → Meet (range_of_run r) range → meets_memory (is_in_runs rs) range ≡ true
first_meets rs i range r rest few is met =
    let left = left_at rs i range r rest few is in
    let x : ℕ = met.0 in
    let low : range.base ≤ x = grind (arith, nat_tests, met.1) in
    let high : x < range.base + range.size = grind (arith, nat_tests, met.1) in
    let lies = inside r x (grind (arith, nat_tests, met.1)) (grind (arith, nat_tests, met.1)) in
    some_in rs range x r.value low high (sym (left.each x low) ∙ rw lies refl)

begins_above : (r : RunOf Bool) (range : RangeView) (y : ℕ) → (Meet (range_of_run r) range → ⊥) → range.base < run_end r → 0 < r.size
    → range.base ≤ y → y < range.base + range.size → y < r.base
begins_above r range y apart ends some low high = lt_of_not-le (λ above.
    apart (max r.base range.base, grind (arith, nat_tests)))

first_misses : (rs : List (RunOf Bool)) (i : ℕ) (range : RangeView) (r : RunOf Bool) → IsRestFrom (value_at rs) range.base (drop i rs)
    → i < length rs → r ≡ get_or rs i r → (Meet (range_of_run r) range → ⊥) → meets_memory (is_in_runs rs) range ≡ false
first_misses rs i range r rest few is apart =
    let left = left_at rs i range r rest few is in
    none_in rs range (λ y low high.
    let lower = begins_above r range y apart left.ends left.runs.0 low high in
    sym (left.each y low) ∙ none_below r.base y (r ∷ drop (suc i) rs) left.runs (omega arith) lower)

pub first_tells : (rs : List (RunOf Bool)) (i : ℕ) (range : RangeView) (r : RunOf Bool) → IsRestFrom (value_at rs) range.base (drop i rs)
    → i < length rs → r ≡ get_or rs i r → (met : Bool) → (met ≡ true ↔ Meet (range_of_run r) range)
    → met ≡ meets_memory (is_in_runs rs) range
first_tells rs i range r rest few is true tells = sym (first_meets rs i range r rest few is (tells.0 refl))
first_tells rs i range r rest few is false tells =
    sym (first_misses rs i range r rest few is (λ met. true≢false (sym (tells.1 met))))
