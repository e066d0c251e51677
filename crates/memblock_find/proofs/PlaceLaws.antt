-- Places in a stretch of addresses of one label, and the highest of them.
use Rattle.std.proofs.Common.{◌≡◌, ◌≢◌, ℕ, ◌+◌, ◌-◌, ◌*◌, ◌/◌, ◌%◌, ◌^◌, ◌<◌, ◌≤◌, Bool, true, false, is_some, is_none, if◌then◌else◌, Option, Some, None, max, min, MatchOption, refl, sym, ◌∙◌, ap, subst, inl, inr, arith}
use Rattle.std.proofs.Math.Nat.{mul-le-mul_right, one-le-pow}
use Rattle.std.specs.Int.Bits.{bit_and}
use Rattle.std.proofs.lemmas.Nat.{le-div, div-add-mod', mod-mul-add, and_mask}
use Rattle.std.proofs.lemmas.Bool.{cases_lt, false_from_ne_true, true≢false, and_from, and_parts}
use Rattle.address_runs.specs.Edits.{IsEmptyFrom}
use Rattle.address_runs.specs.Sweep.{HasValueBetween}
use Rattle.memblock_model.specs.Labels.{LabelView, Labels}
use Rattle.memblock_model.specs.Search.{is_allowed_node, is_allowed_mirror, fits_in, outermost_fit}
use Rattle.memblock_model.specs.declared.query.Query.{Query}
use Rattle.memblock_model.proofs.SearchLaws.{IsPlace, fits_in-parts, fits_in-whole, outermost_fit-last, outermost_fit-fails}
use Rattle.memblock_find.specs.Unclaimed.{unclaimed_memory, IsStretchWithBottom}
use Rattle.memblock_find.specs.Places.{FitsBetween, is_allowed_label, NoPlaceEndsBetween, IsHighestPlaceEndingBy}

pub le_from_not_lt : (a b : ℕ) → (a < b → ⊥) → b ≤ a
le_from_not_lt a b not_lt = elim (cases_lt a b) as (λ _. b ≤ a) [ inl lt ↦ absurd (not_lt lt) | inr ge ↦ ge ]

-- rounding down gives the last multiple up to the number
pub rounded_aligned : (t n : ℕ) → 0 < n → (t - t % n) % n ≡ 0
rounded_aligned t n some =
    let parts = div-add-mod' t n in
    let whole : t - t % n ≡ t / n * n + 0 = omega arith in
    ap (λ (k : ℕ). k % n) whole ∙ mod-mul-add (t / n) n 0 some

pub rounded_last : (t n b : ℕ) → 0 < n → b % n ≡ 0 → b ≤ t → b ≤ t - t % n
rounded_last t n b some aligned under =
    let parts = div-add-mod' t n in
    let whole = div-add-mod' b n in
    let product : b / n * n ≤ t = omega arith in
    let fewer : b / n ≤ t / n = le-div (b / n) t n some product in
    let order : b / n * n ≤ t / n * n = mul-le-mul_right n fewer in
    omega arith

-- each byte of a place is unclaimed memory of the place's label
pub label_of_place : (mirror : Bool) (memory reserved : Labels) (q : Query) (b x : ℕ) → IsPlace mirror memory reserved q b → b ≤ x
    → x < b + q.size
    → unclaimed_memory memory reserved x ≡ memory b
label_of_place mirror memory reserved q b x place above under =
    ap (λ (o : Option LabelView). if is_none o then memory x else None) (place.free x above under) ∙ place.label x above under

pub held_somewhere : (o : Option LabelView) → is_some o ≡ true → o ≢ None
held_somewhere None h = λ same. true≢false (sym h)
held_somewhere (Some v) h = λ same. cc

-- the memory of a place is allowed in the search
pub place_serves : (mirror : Bool) (memory reserved : Labels) (q : Query) (b : ℕ) → IsPlace mirror memory reserved q b
    → is_allowed_label mirror q.node (memory b) ≡ true
place_serves mirror memory reserved q b place =
    and_from (is_allowed_node q.node (memory b)) (is_allowed_mirror mirror (memory b)) place.allowed place.suited

-- the stretch of addresses in which a place is searched for
pub record IsStretch (memory reserved : Labels) (from until : ℕ) (label : Option LabelView) : Type 0 where
  pub stays : HasValueBetween (unclaimed_memory memory reserved) from until label
  pub down : label ≢ None → IsStretchWithBottom (unclaimed_memory memory reserved) from until label

-- a place that ends in a run lies in it
pub record LiesIn (memory : Labels) (from : ℕ) (label : Option LabelView) (b : ℕ) : Type 0 where
  pub above : from ≤ b
  pub carries : memory b ≡ label
  pub held : label ≢ None

pub in_run : (mirror : Bool) (memory reserved : Labels) (q : Query) (from until b : ℕ) (label : Option LabelView) → 1 ≤ q.size
    → IsStretch memory reserved from until label
    → fits_in mirror memory reserved q b ≡ true → b + q.size ≤ until → from < b + q.size → LiesIn memory from label b
in_run mirror memory reserved q from until b label some known fits ends past =
    let place = fits_in-parts mirror memory reserved q b fits in
    let last : ℕ = b + q.size - 1 in
    let carries : memory b ≡ label = sym (label_of_place mirror memory reserved q b last place (omega arith) (omega arith))
    ∙ known.stays last (omega arith) (omega arith) in
    let held : label ≢ None = subst (λ (o : Option LabelView). o ≢ None) carries (held_somewhere (memory b) place.held) in
    record {
      above = le_from_not_lt b from (λ lt.
          let x : ℕ = from - 1 in
          (known.down held).another x (omega arith)
          (label_of_place mirror memory reserved q b x place (omega arith) (omega arith) ∙ carries));
      carries = carries;
      held = held;
    }

-- no place ends in a stretch that isn't unclaimed memory, or whose label isn't allowed
pub none_bare : (mirror : Bool) (memory reserved : Labels) (q : Query) (from until : ℕ) (label : Option LabelView) → 1 ≤ q.size
    → IsStretch memory reserved from until label → label ≡ None → NoPlaceEndsBetween mirror memory reserved q from until
none_bare mirror memory reserved q from until label some known bare b fits ends =
    le_from_not_lt from (b + q.size) (λ past. (in_run mirror memory reserved q from until b label some known fits ends past).held bare)

pub none_served : (mirror : Bool) (memory reserved : Labels) (q : Query) (from until : ℕ) (label : Option LabelView) (found : LabelView)
    → 1 ≤ q.size
    → IsStretch memory reserved from until label → label ≡ Some found
    → is_allowed_label mirror q.node (Some found) ≡ false → NoPlaceEndsBetween mirror memory reserved q from until
none_served mirror memory reserved q from until label found some known is refused b fits ends =
    le_from_not_lt from (b + q.size) (λ past.
    let lies = in_run mirror memory reserved q from until b label some known fits ends past in
    let place = fits_in-parts mirror memory reserved q b fits in
    true≢false (sym (place_serves mirror memory reserved q b place)
    ∙ ap (λ (o : Option LabelView). is_allowed_label mirror q.node o) (lies.carries ∙ is) ∙ refused))

-- no place ends above all memory
pub none_above : (mirror : Bool) (memory reserved : Labels) (q : Query) (at : ℕ) → 1 ≤ q.size → IsEmptyFrom at memory
    → NoPlaceEndsBetween mirror memory reserved q (min q.hi at) q.hi
none_above mirror memory reserved q at some none b fits ends =
    le_from_not_lt (min q.hi at) (b + q.size) (λ over.
    let place = fits_in-parts mirror memory reserved q b fits in
    let last : ℕ = b + q.size - 1 in
    held_somewhere (memory b) place.held (sym (place.label last (omega arith) (omega arith)) ∙ none last (omega arith)))

-- what is unclaimed memory is memory and isn't claimed
pub memory_there : (carried claimed : Option LabelView) (label : LabelView) → (if is_none claimed then carried else None) ≡ Some label
    → (carried ≡ Some label) × (claimed ≡ None)
memory_there carried None label same = (same, refl)
memory_there carried (Some v) label same = cc

-- bytes in the window that are unclaimed memory of one allowed label are a place
pub place_of_bytes : (mirror : Bool) (memory reserved : Labels) (q : Query) (a : ℕ) (found : LabelView) → 1 ≤ q.size
    → FitsBetween (max q.lo 4096) q.hi q.size q.align a
    → ((x : ℕ) → a ≤ x → x < a + q.size → unclaimed_memory memory reserved x ≡ Some found)
    → is_allowed_label mirror q.node (Some found) ≡ true → fits_in mirror memory reserved q a ≡ true
place_of_bytes mirror memory reserved q a found some lies carry served =
    let there : (x : ℕ) → a ≤ x → x < a + q.size → (memory x ≡ Some found) × (reserved x ≡ None) =
    λ x above under. memory_there (memory x) (reserved x) found (carry x above under) in
    let first : memory a ≡ Some found = (there a (omega arith) (omega arith)).0 in
    let parts = and_parts (is_allowed_node q.node (Some found)) (is_allowed_mirror mirror (Some found)) served in
    fits_in-whole mirror memory reserved q a (record {
      aligned = lies.aligned;
      low = omega (arith, lies.above);
      first = omega (arith, lies.above);
      high = lies.below;
      held = ap is_some first;
      allowed = ap (λ (o : Option LabelView). is_allowed_node q.node o) first ∙ parts.0;
      suited = ap (λ (o : Option LabelView). is_allowed_mirror mirror o) first ∙ parts.1;
      label = λ x above under. (there x above under).0 ∙ sym first;
      free = λ x above under. (there x above under).1;
    })

-- a place that ends in a stretch of memory lies in the stretch and in the window
between_ends : (mirror : Bool) (memory reserved : Labels) (q : Query) (from until b : ℕ) (label : Option LabelView) → 1 ≤ q.size
    → IsStretch memory reserved from until label → fits_in mirror memory reserved q b ≡ true → b + q.size ≤ until → from < b + q.size
    → FitsBetween (max (max from q.lo) 4096) until q.size q.align b
between_ends mirror memory reserved q from until b label some known fits ends past =
    let inside = in_run mirror memory reserved q from until b label some known fits ends past in
    let place = fits_in-parts mirror memory reserved q b fits in
    record { aligned = place.aligned; above = omega (arith, inside.above, place.low, place.first); below = ends }

-- in a stretch of allowed memory, the last aligned address with room is the highest place; without
-- such an address there is no place
pub best_of_stretch : (mirror : Bool) (memory reserved : Labels) (q : Query) (from until : ℕ) (label : Option LabelView) (found : LabelView)
    (answer : Option ℕ)
    → 1 ≤ q.size → until ≤ q.hi
    → IsStretch memory reserved from until label → label ≡ Some found → is_allowed_label mirror q.node (Some found) ≡ true
    → MatchOption answer ((b : ℕ) → FitsBetween (max (max from q.lo) 4096) until q.size q.align b → ⊥)
    (λ a. FitsBetween (max (max from q.lo) 4096) until q.size q.align a
    × ((b : ℕ) → FitsBetween (max (max from q.lo) 4096) until q.size q.align b → b ≤ a))
    → MatchOption answer (NoPlaceEndsBetween mirror memory reserved q from until) (IsHighestPlaceEndingBy mirror memory reserved q until)
best_of_stretch mirror memory reserved q from until label found None some window known is served none =
    λ b fits ends. le_from_not_lt from (b + q.size) (λ past.
    none b (between_ends mirror memory reserved q from until b label some known fits ends past))
best_of_stretch mirror memory reserved q from until label found (Some a) some window known is served best =
    let low : max (max from q.lo) 4096 ≤ a = best.0.above in
    let end : a + q.size ≤ until = best.0.below in
    record {
      fits = place_of_bytes mirror memory reserved q a found some
          (record { aligned = best.0.aligned; above = omega arith; below = omega arith })
          (λ x above under. known.stays x (omega arith) (omega arith) ∙ is) served;
      last = λ b fits ends. le_from_not_lt a b (λ over.
          let most = best.1 b (between_ends mirror memory reserved q from until b label some known fits ends (omega arith)) in
          omega arith);
    }

-- if the walk has come below the window without a place, there is none
pub none_found : (mirror : Bool) (memory reserved : Labels) (q : Query) (at : ℕ) → 1 ≤ q.size
    → NoPlaceEndsBetween mirror memory reserved q at q.hi
    → at ≤ max q.lo 4096 → outermost_fit (record { mirror = mirror; up = false }) memory reserved q ≡ None
none_found mirror memory reserved q at some past low =
    outermost_fit-fails (record { mirror = mirror; up = false }) memory reserved q (λ b less.
    false_from_ne_true (fits_in mirror memory reserved q b) (λ fits.
    let place = fits_in-parts mirror memory reserved q b fits in
    let ends = past b fits place.high in
    omega (arith, place.low, place.first)))

-- if no place ends in the stretches above, the highest place of a stretch is the result
pub best_answer : (mirror : Bool) (memory reserved : Labels) (q : Query) (from at : ℕ) (answer : Option ℕ)
    → NoPlaceEndsBetween mirror memory reserved q at q.hi
    → MatchOption answer (NoPlaceEndsBetween mirror memory reserved q from at) (IsHighestPlaceEndingBy mirror memory reserved q at)
    → is_some answer ≡ true → q.hi < 2 ^ 64 → answer ≡ outermost_fit (record { mirror = mirror; up = false }) memory reserved q
best_answer mirror memory reserved q from at None past best some small = absurd (true≢false (sym some))
best_answer mirror memory reserved q from at (Some a) past best some small =
    let high = (fits_in-parts mirror memory reserved q a best.fits).high in
    sym (outermost_fit-last mirror memory reserved q a (record {
      below = omega arith;
      passes = best.fits;
      last = λ b less fits. best.last b fits (past b fits (fits_in-parts mirror memory reserved q b fits).high);
    }))

-- if a stretch has no place, none ends above its start
pub no_answer : (mirror : Bool) (memory reserved : Labels) (q : Query) (from at : ℕ) (answer : Option ℕ)
    → NoPlaceEndsBetween mirror memory reserved q at q.hi
    → MatchOption answer (NoPlaceEndsBetween mirror memory reserved q from at) (IsHighestPlaceEndingBy mirror memory reserved q at)
    → is_some answer ≡ false → NoPlaceEndsBetween mirror memory reserved q from q.hi
no_answer mirror memory reserved q from at None past none is = λ b fits ends. none b fits (past b fits ends)
no_answer mirror memory reserved q from at (Some a) past best is = absurd (true≢false is)

pub some_align : (align k : ℕ) → align ≡ 2 ^ k → 0 < align
some_align align k power = let some : 1 ≤ 2 ^ k = one-le-pow k 2 (omega arith) in omega arith

-- the low bits that a mask leaves are the remainder
pub mask_rest : (t n k : ℕ) → n ≡ 2 ^ k → bit_and t (n - 1) ≡ t % n
mask_rest t n k is = subst (λ (m : ℕ). bit_and t (m - 1) ≡ t % m) (sym is) (and_mask t k)

-- no multiple with room for the bytes is above the last one
most_is : (low high size align k top place : ℕ) → align ≡ 2 ^ k → size ≤ high → top ≡ high - size
    → place ≡ top - bit_and top (align - 1) → (place ≡ top - top % align) × ((b : ℕ) → FitsBetween low high size align b → b ≤ place)
most_is low high size align k top place power room top_is place_is =
    let rest = mask_rest top align k power in (
      omega arith,
      λ b between.
          let end = between.below in
          let most = rounded_last top align b (some_align align k power) between.aligned (omega arith) in
          omega arith,
    )

-- the greatest multiple with room for the bytes, unless it is too low
pub last_is : (low high size align k top place : ℕ) → align ≡ 2 ^ k → size ≤ high → top ≡ high - size
    → place ≡ top - bit_and top (align - 1) → low ≤ place
    → FitsBetween low high size align place × ((b : ℕ) → FitsBetween low high size align b → b ≤ place)
last_is low high size align k top place power room top_is place_is order =
    let most = most_is low high size align k top place power room top_is place_is in (
      record {
        aligned = ap (λ (n : ℕ). n % align) most.0 ∙ rounded_aligned top align (some_align align k power);
        above = order;
        below = omega (arith, most.0);
      },
      most.1,
    )

pub none_last : (low high size align k top place : ℕ) → align ≡ 2 ^ k → size ≤ high → top ≡ high - size
    → place ≡ top - bit_and top (align - 1) → place < low
    → (b : ℕ) → FitsBetween low high size align b → ⊥
none_last low high size align k top place power room top_is place_is order b between =
    let most = (most_is low high size align k top place power room top_is place_is).1 b between in
    omega (arith, between.above)
