-- Places in a stretch of addresses of one label, and the lowest of them.
use Rattle.std.proofs.Common.{◌≡◌, ◌≢◌, ℕ, ◌+◌, ◌-◌, ◌*◌, ◌/◌, ◌%◌, ◌^◌, ◌<◌, ◌≤◌, Bool, true, false, is_some, Option, Some, None, max, min, MatchOption, sym, ◌∙◌, ap, subst, inl, inr, arith}
use Rattle.std.proofs.Math.Nat.{mul-le-mul_right, mod-eq_of_lt, mod_self}
use Rattle.std.specs.Int.Bits.{bit_and}
use Rattle.std.proofs.lemmas.Nat.{div-add-mod', mod-mul-add, mod_below}
use Rattle.std.proofs.lemmas.Bool.{cases_lt, false_from_ne_true, true≢false}
use Rattle.address_runs.specs.Sweep.{HasValueBetween}
use Rattle.memblock_model.specs.Labels.{LabelView, Labels}
use Rattle.memblock_model.specs.Search.{fits_in, outermost_fit}
use Rattle.memblock_model.specs.declared.query.Query.{Query}
use Rattle.memblock_model.proofs.SearchLaws.{fits_in-parts, outermost_fit-first, outermost_fit-fails}
use Rattle.memblock_find.specs.Unclaimed.{unclaimed_memory, IsStretchWithTop}
use Rattle.memblock_find.specs.Places.{FitsBetween, is_allowed_label, NoPlaceBeginsBetween, IsLowestPlaceFrom}
use Rattle.memblock_find.proofs.PlaceLaws.{le_from_not_lt, label_of_place, held_somewhere, place_serves, place_of_bytes, some_align, mask_rest}

-- a place that begins in a run lies in it
record StaysIn (memory : Labels) (until : ℕ) (label : Option LabelView) (last : ℕ) (b : ℕ) : Type 0 where
  below : last ≤ until
  carries : memory b ≡ label
  held : label ≢ None

-- the stretch of addresses in which a place is searched for
pub record IsRise (memory reserved : Labels) (from until : ℕ) (label : Option LabelView) : Type 0 where
  pub stays : HasValueBetween (unclaimed_memory memory reserved) from until label
  pub up : label ≢ None → IsStretchWithTop (unclaimed_memory memory reserved) from until label

from_run : (mirror : Bool) (memory reserved : Labels) (q : Query) (from until b : ℕ) (label : Option LabelView) → 1 ≤ q.size
    → IsRise memory reserved from until label → fits_in mirror memory reserved q b ≡ true → from ≤ b → b < until
    → StaysIn memory until label (b + q.size) b
from_run mirror memory reserved q from until b label some known fits above under =
    let place = fits_in-parts mirror memory reserved q b fits in
    let carries : memory b ≡ label = sym (label_of_place mirror memory reserved q b b place (omega arith) (omega arith))
    ∙ known.stays b above under in
    let held : label ≢ None = subst (λ (o : Option LabelView). o ≢ None) carries (held_somewhere (memory b) place.held) in
    record {
      below = le_from_not_lt until (b + q.size) (λ lt.
          (known.up held).another (label_of_place mirror memory reserved q b until place (omega arith) lt ∙ carries));
      carries = carries;
      held = held;
    }

-- no place begins in a stretch that isn't unclaimed memory, or whose label isn't allowed
pub none_begins_bare : (mirror : Bool) (memory reserved : Labels) (q : Query) (from until : ℕ) (label : Option LabelView) → 1 ≤ q.size
    → IsRise memory reserved from until label → label ≡ None → NoPlaceBeginsBetween mirror memory reserved q from until
none_begins_bare mirror memory reserved q from until label some known bare b fits above =
    le_from_not_lt b until (λ under. (from_run mirror memory reserved q from until b label some known fits above under).held bare)

pub none_begins_refused : (mirror : Bool) (memory reserved : Labels) (q : Query) (from until : ℕ) (label : Option LabelView)
    (found : LabelView)
    → 1 ≤ q.size → IsRise memory reserved from until label → label ≡ Some found
    → is_allowed_label mirror q.node (Some found) ≡ false → NoPlaceBeginsBetween mirror memory reserved q from until
none_begins_refused mirror memory reserved q from until label found some known is refused b fits above =
    le_from_not_lt b until (λ under.
    let lies = from_run mirror memory reserved q from until b label some known fits above under in
    let place = fits_in-parts mirror memory reserved q b fits in
    true≢false (sym (place_serves mirror memory reserved q b place)
    ∙ ap (λ (o : Option LabelView). is_allowed_label mirror q.node o) (lies.carries ∙ is) ∙ refused))

-- a place that begins in a stretch of memory lies in the stretch and in the window
between_ends : (mirror : Bool) (memory reserved : Labels) (q : Query) (from until b : ℕ) (label : Option LabelView) → 1 ≤ q.size
    → IsRise memory reserved from until label → fits_in mirror memory reserved q b ≡ true → from ≤ b → b < until
    → FitsBetween from (min until q.hi) q.size q.align b
between_ends mirror memory reserved q from until b label some known fits above under =
    let inside = from_run mirror memory reserved q from until b label some known fits above under in
    let place = fits_in-parts mirror memory reserved q b fits in
    record { aligned = place.aligned; above = above; below = omega (arith, inside.below, place.high) }

-- in a stretch of allowed memory, the first aligned address with room is the lowest place; without
-- such an address there is no place
pub first_of_stretch : (mirror : Bool) (memory reserved : Labels) (q : Query) (from until : ℕ) (label : Option LabelView)
    (found : LabelView)
    (answer : Option ℕ) → 1 ≤ q.size → q.lo ≤ from → 4096 ≤ from
    → IsRise memory reserved from until label → label ≡ Some found → is_allowed_label mirror q.node (Some found) ≡ true
    → MatchOption answer ((b : ℕ) → FitsBetween from (min until q.hi) q.size q.align b → ⊥)
    (λ a. FitsBetween from (min until q.hi) q.size q.align a × ((b : ℕ) → FitsBetween from (min until q.hi) q.size q.align b → a ≤ b))
    → MatchOption answer (NoPlaceBeginsBetween mirror memory reserved q from until) (IsLowestPlaceFrom mirror memory reserved q from)
first_of_stretch mirror memory reserved q from until label found None some low first_frame known is served none =
    λ b fits above. le_from_not_lt b until (λ under.
    none b (between_ends mirror memory reserved q from until b label some known fits above under))
first_of_stretch mirror memory reserved q from until label found (Some a) some low first_frame known is served best =
    let above : from ≤ a = best.0.above in
    let end : a + q.size ≤ min until q.hi = best.0.below in
    record {
      fits = place_of_bytes mirror memory reserved q a found some
          (record { aligned = best.0.aligned; above = omega arith; below = omega arith })
          (λ x above under. known.stays x (omega arith) (omega arith) ∙ is) served;
      first = λ b fits above. le_from_not_lt b a (λ under.
          let least = best.1 b (between_ends mirror memory reserved q from until b label some known fits above (omega arith)) in
          omega arith);
    }

-- if no place begins in the stretches below, the lowest place of a stretch is the result
pub lowest_answer : (mirror : Bool) (memory reserved : Labels) (q : Query) (at until : ℕ) (answer : Option ℕ) → 1 ≤ q.size
    → NoPlaceBeginsBetween mirror memory reserved q (max q.lo 4096) at
    → MatchOption answer (NoPlaceBeginsBetween mirror memory reserved q at until) (IsLowestPlaceFrom mirror memory reserved q at)
    → is_some answer ≡ true → q.hi < 2 ^ 64 → answer ≡ outermost_fit (record { mirror = mirror; up = true }) memory reserved q
lowest_answer mirror memory reserved q at until None size past best some small = absurd (true≢false (sym some))
lowest_answer mirror memory reserved q at until (Some a) size past best some small =
    let high = (fits_in-parts mirror memory reserved q a best.fits).high in
    sym (outermost_fit-first mirror memory reserved q a (record {
      below = omega arith;
      passes = best.fits;
      first = λ b less fits.
          let place = fits_in-parts mirror memory reserved q b fits in
          best.first b fits (past b fits (omega (arith, place.low, place.first)));
    }))

-- if a stretch has no place, none begins below its end
pub none_yet : (mirror : Bool) (memory reserved : Labels) (q : Query) (low at until : ℕ) (answer : Option ℕ)
    → NoPlaceBeginsBetween mirror memory reserved q low at
    → MatchOption answer (NoPlaceBeginsBetween mirror memory reserved q at until) (IsLowestPlaceFrom mirror memory reserved q at)
    → is_some answer ≡ false → NoPlaceBeginsBetween mirror memory reserved q low until
none_yet mirror memory reserved q low at until None past none is = λ b fits above. none b fits (past b fits above)
none_yet mirror memory reserved q low at until (Some a) past best is = absurd (true≢false is)

-- if the walk has reached the window's end without a place, there is none
pub none_at_all : (mirror : Bool) (memory reserved : Labels) (q : Query) (at : ℕ) → 1 ≤ q.size
    → NoPlaceBeginsBetween mirror memory reserved q (max q.lo 4096) at → q.hi ≤ at
    → outermost_fit (record { mirror = mirror; up = true }) memory reserved q ≡ None
none_at_all mirror memory reserved q at some past high =
    outermost_fit-fails (record { mirror = mirror; up = true }) memory reserved q (λ b less.
    false_from_ne_true (fits_in mirror memory reserved q b) (λ fits.
    let place = fits_in-parts mirror memory reserved q b fits in
    let begins = past b fits (omega (arith, place.low, place.first)) in
    omega (arith, place.high)))

-- rounding up gives the first multiple from the number on
next_aligned : (t n : ℕ) → 0 < n → (t + (n - t % n) % n) % n ≡ 0
next_aligned t n some =
    let parts = div-add-mod' t n in
    let rest : t % n < n = mod_below t n some in
    elim (cases_lt 0 (t % n)) as (λ _. (t + (n - t % n) % n) % n ≡ 0) [
      | inl past ↦
          let jump : (n - t % n) % n ≡ n - t % n = mod-eq_of_lt (omega arith) in
          let whole : t + (n - t % n) % n ≡ (t / n + 1) * n + 0 = omega arith in
          ap (λ (k : ℕ). k % n) whole ∙ mod-mul-add (t / n + 1) n 0 some
      | inr none ↦
          let all : n - t % n ≡ n = omega arith in
          let jump : (n - t % n) % n ≡ 0 = ap (λ (k : ℕ). k % n) all ∙ mod_self n in
          let whole : t + (n - t % n) % n ≡ t / n * n + 0 = omega arith in
          ap (λ (k : ℕ). k % n) whole ∙ mod-mul-add (t / n) n 0 some
    ]

next_first : (t n b : ℕ) → 0 < n → b % n ≡ 0 → t ≤ b → t + (n - t % n) % n ≤ b
next_first t n b some aligned from =
    let next : ℕ = t + (n - t % n) % n in
    let rounded = div-add-mod' next n in
    let whole = div-add-mod' b n in
    let aligned_next : next % n ≡ 0 = next_aligned t n some in
    let jump : (n - t % n) % n < n = mod_below (n - t % n) n some in
    elim (cases_lt (b / n) (next / n)) as (λ _. next ≤ b) [
      | inl less ↦
          let one_more : b / n + 1 ≤ next / n = omega arith in
          let product : (b / n + 1) * n ≤ next / n * n = mul-le-mul_right n one_more in
          absurd (omega arith)
      | inr ge ↦ let product : next / n * n ≤ b / n * n = mul-le-mul_right n ge in omega arith
    ]

-- rounding up to a power of two by masks
masked : (low align k : ℕ) → align ≡ 2 ^ k → bit_and (align - bit_and low (align - 1)) (align - 1) ≡ (align - low % align) % align
masked low align k power =
    mask_rest (align - bit_and low (align - 1)) align k power ∙ ap (λ (n : ℕ). (align - n) % align) (mask_rest low align k power)

-- the first multiple from the address on, if there is room for the bytes
pub first_is : (low high size align k place : ℕ) → align ≡ 2 ^ k
    → place ≡ low + bit_and (align - bit_and low (align - 1)) (align - 1) → place + size ≤ high
    → FitsBetween low high size align place × ((b : ℕ) → FitsBetween low high size align b → place ≤ b)
first_is low high size align k place power place_is ends =
    let some = some_align align k power in
    let jump = masked low align k power in
    let is : place ≡ low + (align - low % align) % align = omega arith in (
      record { aligned = ap (λ (n : ℕ). n % align) is ∙ next_aligned low align some; above = omega arith; below = ends },
      λ b between. let order = next_first low align b some between.aligned between.above in omega arith,
    )

pub none_first : (low high size align k place : ℕ) → align ≡ 2 ^ k
    → place ≡ low + bit_and (align - bit_and low (align - 1)) (align - 1) → high < place + size
    → (b : ℕ) → FitsBetween low high size align b → ⊥
none_first low high size align k place power place_is over b between =
    let jump = masked low align k power in
    let order = next_first low align b (some_align align k power) between.aligned between.above in
    omega (arith, between.below)
