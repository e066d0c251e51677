-- Lemmas on cutting the frames of a run into blocks.
use Rattle.std.proofs.Common.{◌≡◌, ℕ, zero, suc, ◌+◌, ◌-◌, ◌*◌, ◌/◌, ◌%◌, ◌^◌, ◌<◌, ◌≤◌, List, [], ◌∷◌, ◌++◌, sym, ◌∙◌, ap, subst, inl, inr, le_of_suc-le-suc, lt_of_not-le, arith}
use Rattle.std.proofs.lemmas.Bool.{cases_lt}
use Rattle.std.proofs.lemmas.Nat.{pow_pos}
use Rattle.std.proofs.lemmas.List.{append-nil}
use Rattle.std.proofs.Math.Nat.{mod-lt, mod-one, pow-suc, add-mod_right}
use Rattle.bm_base.specs.Zones.{zone_of}
use Rattle.buddy_blocks.specs.declared.block.Block.{Block}
use Rattle.buddy_blocks.specs.Frames.{Frames, AreFree}
use Rattle.buddy_blocks.specs.BlockList.{greatest_free_order, blocks_from}
use Rattle.buddy_blocks.specs.Sets.{IsWholeNodeRun, SetFits, IsGreatestFittingOrder, FittingSetsBeginAt}
use Rattle.buddy_blocks.proofs.SetLaws.{base_is, base_whole, in_set, set_from, set_until, multiple, apart}
use Rattle.buddy_blocks.proofs.GoodLaws.{up_is}
use Rattle.buddy_blocks.proofs.ListLaws.{from-append, from-none, from-block}

-- a set in a run is free
pub free_inside : (f : Frames) (first end n o x : ℕ) → IsWholeNodeRun f first end n → SetFits first end x (2 ^ o) → AreFree f o x n
free_inside f first end n o x run fits y same =
    run.inside y (omega (arith, set_from (2 ^ o) x y same, fits.above))
    (omega (arith, set_until (2 ^ o) x y (pow_pos o) same, fits.below))

-- a free set around a frame of the run lies in the run
pub inside_free : (f : Frames) (first end n o x : ℕ) → IsWholeNodeRun f first end n → first ≤ x → x < end → AreFree f o x n
    → SetFits first end x (2 ^ o)
inside_free f first end n o x run above below free =
    let small : x % 2 ^ o < 2 ^ o = mod-lt x (pow_pos o) in
    record {
      above = le_of_suc-le-suc (lt_of_not-le (λ lt.
          let next : suc (first - 1) ≡ first = omega arith in
          run.before (first - 1) next (free (first - 1) (in_set (2 ^ o) x (first - 1) (omega arith) (omega arith)))));
      below = le_of_suc-le-suc (lt_of_not-le (λ lt. run.after (free end (in_set (2 ^ o) x end (omega arith) lt))));
    }

-- the largest set that fits is the block that is found
pub found : (f : Frames) (first end n o x : ℕ) → IsWholeNodeRun f first end n → first ≤ x → x < end → o ≤ 10 → SetFits first end x (2 ^ o)
    → IsGreatestFittingOrder first end x o → greatest_free_order f x n 10 ≡ o
found f first end n o x run above below small fits greatest =
    up_is f x n 10 o (run.inside x above below) small (free_inside f first end n o x run fits)
    (λ less free. greatest (suc o) (omega arith) (omega arith) (inside_free f first end n (suc o) x run above below free))

-- the blocks that begin before frame `at`, and the one that begins there
pub one_more : (f : Frames) (first end n o at s : ℕ) → IsWholeNodeRun f first end n → first ≤ at → at < end → o ≤ 10 → s ≡ 2 ^ o
    → SetFits first end at s → IsGreatestFittingOrder first end at o → at % s ≡ 0
    → blocks_from f first (at + s - first) ≡ blocks_from f first
    (at - first) ++ record { order = o; first = at; node = n; zone = zone_of at } ∷ []
one_more f first end n o at s run above below small size fits greatest whole =
    let sized : SetFits first end at (2 ^ o) = subst (λ (t : ℕ). SetFits first end at t) size fits in
    let start : at % 2 ^ o ≡ 0 = subst (λ (t : ℕ). at % t ≡ 0) size whole in
    let is = found f first end n o at run above below small sized greatest in
    let length_is : at + s - first ≡ (at - first) + 2 ^ o = omega (arith, size) in
    let there : first + (at - first) ≡ at = omega arith in
    ap (λ k. blocks_from f first k) length_is ∙ from-append f first (at - first) (2 ^ o)
    ∙ ap (λ (y : ℕ). blocks_from f first (at - first) ++ blocks_from f y (2 ^ o)) there
    ∙ ap (λ (bs : List Block). blocks_from f first (at - first) ++ bs) (from-block f o at n small (run.inside at above below) is start)

-- no set that fits begins before the first frame of a run
pub start_first : (first end : ℕ) → FittingSetsBeginAt first end first
start_first first end o small fits = omega (arith, fits.above)

-- the largest set that fits begins at the frame if the block does
pub start_whole : (first end at o s : ℕ) → FittingSetsBeginAt first end at → o ≤ 10 → s ≡ 2 ^ o → SetFits first end at s → at % s ≡ 0
start_whole first end at o s start small size fits =
    subst (λ (t : ℕ). at % t ≡ 0) (sym size) (start o small (subst (λ (t : ℕ). SetFits first end at t) size fits))

-- the next block begins right after this one
pub start_next : (first end at o s : ℕ) → at % s ≡ 0 → o ≤ 10 → s ≡ 2 ^ o → IsGreatestFittingOrder first end at o
    → FittingSetsBeginAt first end (at + s)
start_next first end at o s whole few size greatest p small fits =
    let there : (at + s) % 2 ^ o ≡ 0 =
    ap (λ t. (at + t) % 2 ^ o) size ∙ add-mod_right at (2 ^ o) ∙ subst (λ (t : ℕ). at % t ≡ 0) size whole in
    elim (cases_lt o p) as (λ _. (at + s) % 2 ^ p ≡ 0) [
      | inr le ↦ multiple p o (at + s) le there
      | inl lt ↦
          elim (cases_lt 0 ((at + s) % 2 ^ p)) as (λ _. (at + s) % 2 ^ p ≡ 0) [
            | inr none ↦ omega arith
            | inl some ↦
                let base : ℕ = at + s - (at + s) % 2 ^ p in
                let aligned : base % 2 ^ p ≡ 0 = base_whole (2 ^ p) (at + s) in
                let low : base + 2 ^ o ≤ at + s = apart (2 ^ o) base (at + s) (multiple o p base (omega arith) aligned) there
                (omega arith) in
                let rest : (at + s) % 2 ^ p < 2 ^ p = mod-lt (at + s) (pow_pos p) in
                let same : at / 2 ^ p ≡ (at + s) / 2 ^ p = in_set (2 ^ p) (at + s) at (omega (arith, low, size)) (omega (arith, rest)) in
                let bases : at - at % 2 ^ p ≡ base = base_is (2 ^ p) at ∙ ap (λ q. q * 2 ^ p) same ∙ sym (base_is (2 ^ p) (at + s)) in
                absurd (greatest p lt small
                (record { above = omega (arith, bases, fits.above); below = omega (arith, bases, fits.below) }))
          ]
    ]

-- a set that doesn't fit has more than one frame, and no set of its size or larger fits
pub step_down : (first end x o s : ℕ) → s ≡ 2 ^ o → first ≤ x → x < end → (SetFits first end x s → ⊥) → IsGreatestFittingOrder first end x o
    → (0 < o) × (s / 2 ≡ 2 ^ (o - 1)) × IsGreatestFittingOrder first end x (o - 1)
step_down first end x zero s size above below fails greatest =
    let whole : x % s ≡ 0 = ap (λ t. x % t) size ∙ mod-one x in
    absurd (fails (record { above = omega (arith, whole); below = omega (arith, whole, size) }))
step_down first end x (suc o) s size above below fails greatest =
    let double : 2 ^ suc o ≡ 2 ^ o * 2 = pow-suc 2 o in
    let less : suc o - 1 ≡ o = omega arith in
    let half : s / 2 ≡ 2 ^ o = omega (arith, size, double) in (
      omega arith,
      half ∙ ap (λ p. 2 ^ p) (sym less),
      λ p lt small fits. elim (cases_lt (suc o) p) as (λ _. ⊥) [
        | inl more ↦ greatest p more small fits
        | inr le ↦
            let here : p ≡ suc o = omega (arith, lt, less) in
            fails (rw (size, ← here) fits)
      ],
    )

-- at a multiple of the largest size each set begins
pub start_at_ten : (first end at : ℕ) → at % 2 ^ 10 ≡ 0 → FittingSetsBeginAt first end at
start_at_ten first end at whole o small fits = multiple o 10 at small whole

-- a run without frames has no blocks
pub nothing_more : (f : Frames) (first : ℕ) (bs : List Block) → bs ≡ bs ++ blocks_from f first (first - first)
nothing_more f first bs =
    let empty = from-none f first (first - first) (λ y above below. absurd (omega arith)) in
    sym (ap (λ (cs : List Block). bs ++ cs) empty ∙ append-nil bs)
