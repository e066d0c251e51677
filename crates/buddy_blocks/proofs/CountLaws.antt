-- Lemmas on the number of blocks of a node, a zone and an order.
use Rattle.std.proofs.Common.{◌≡◌, ◌≢◌, ◌⊎◌, ◌↔◌, ℕ, zero, suc, ◌+◌, ◌-◌, ◌*◌, ◌%◌, ◌^◌, ◌<◌, ◌≤◌, ◌==◌, Bool, true, false, ◌&&◌, cond, Some, List, [], ◌∷◌, length, get_or, drop, refl, sym, ◌∙◌, ap, subst, inl, inr, arith}
use Rattle.std.specs.Bool.{IsTrue}
use Rattle.std.specs.List.{count_by}
use Rattle.std.proofs.lemmas.Bool.{and_right, cases_Bool, cond_both, eq-eqb, eqb-true, false_from_ne_true, ne_eqb, true≢false}
use Rattle.std.proofs.lemmas.Nat.{pow_pos}
use Rattle.std.proofs.lemmas.List.Sums.{sum_by-cons, sum_by-append, count_by-le-length}
use Rattle.std.proofs.Math.Nat.{add-mul-mod_self_right, suc-mul, mul-le-mul_left}
use Rattle.bm_base.specs.declared.zone.Zone.{Zone}
use Rattle.bm_base.specs.declared.zone.Zone.TheVariants as zone
use Rattle.bm_base.specs.Zones.{zone_of}
use Rattle.address_runs.specs.Runs.{RunOf, run_end, value_at, AreRuns}
use Rattle.address_runs.specs.Edits.{IsEmptyFrom}
use Rattle.buddy_blocks.specs.declared.block.Block.{Block}
use Rattle.buddy_blocks.specs.Frames.{Frames}
use Rattle.buddy_blocks.specs.BlockList.{block_of, block_for, prepend_block_at, blocks_from, blocks_of, greatest_free_order, is_same_zone, is_block_of, count_blocks}
use Rattle.buddy_blocks.specs.declared.run.TheConstants.{MAX_FRAMES}
use Rattle.buddy_blocks.specs.Rows.{row_from}
use Rattle.buddy_blocks.specs.Sets.{IsWholeNodeRun, SetFits, IsGreatestFittingOrder, FittingSetsBeginAt}
use Rattle.buddy_blocks.proofs.ListLaws.{from-few}
use Rattle.buddy_blocks.proofs.RunLaws.{start_next, start_at_ten}
use Rattle.buddy_blocks.proofs.RowLaws.{row_more}
use Rattle.buddy_blocks.proofs.LookLaws.{listed, listed_all, listed_more_at, listed_none}

-- the test of a zone is true of the same zone
pub zone_self : (a : Zone) → is_same_zone a a ≡ true
zone_self zone.Dma = refl
zone_self zone.Dma32 = refl
zone_self zone.Normal = refl

pub zone_is : (a b : Zone) → is_same_zone a b ≡ true → a ≡ b
zone_is zone.Dma zone.Dma h = refl
zone_is zone.Dma zone.Dma32 h = cc
zone_is zone.Dma zone.Normal h = cc
zone_is zone.Dma32 zone.Dma h = cc
zone_is zone.Dma32 zone.Dma32 h = refl
zone_is zone.Dma32 zone.Normal h = cc
zone_is zone.Normal zone.Dma h = cc
zone_is zone.Normal zone.Dma32 h = cc
zone_is zone.Normal zone.Normal h = refl

-- 1 if order and zone are those that are counted, else 0: counting consecutive blocks of one order
abbrev pub if_alike : ℕ → Zone → ℕ → Zone → ℕ
if_alike o z order zone = cond ((o == order) && is_same_zone z zone) 1 0

one_block : (n o x order : ℕ) (z wanted : Zone) (made : Block) → made ≡ record { order = o; first = x; node = n; zone = z }
    → count_by (is_block_of n wanted order) (made ∷ []) ≡ if_alike o z order wanted
one_block n o x order z wanted made is =
    let b : Block = record { order = o; first = x; node = n; zone = z } in
    ap (λ (c : Block). count_by (is_block_of n wanted order) (c ∷ [])) is
    ∙ sum_by-cons (λ (c : Block). cond (is_block_of n wanted order c) 1 0) b []
    ∙ rw (eq-eqb n n refl) (omega arith)

row_count : (k n o at order : ℕ) (z wanted : Zone)
    → count_by (is_block_of n wanted order) (row_from o at n z k) ≡ k * if_alike o z order wanted
unfolding row_from
row_count zero n o at order z wanted = let h : 0 ≡ 0 * if_alike o z order wanted = omega arith in h
row_count (suc k) n o at order z wanted =
    let p : Block → Bool = is_block_of n wanted order in
    let v : ℕ = if_alike o z order wanted in
    let b : Block = record { order = o; first = at; node = n; zone = z } in
    let total : v + k * v ≡ suc k * v = let h = suc-mul k v in omega (arith, h) in
    sum_by-append (λ (c : Block). cond (p c) 1 0) (b ∷ []) (row_from o (at + 2 ^ o) n z k)
    ∙ ap (λ a. a + count_by p (row_from o (at + 2 ^ o) n z k)) (one_block n o at order z wanted b refl)
    ∙ ap (λ a. v + a) (row_count k n o (at + 2 ^ o) order z wanted) ∙ total

pub alike_more : (f : Frames) (first end n o s at k order : ℕ) (wanted : Zone) → IsWholeNodeRun f first end n → first ≤ at → 0 < k
    → at + k * s ≤ end
    → o ≤ 10 → s ≡ 2 ^ o → at % s ≡ 0 → SetFits first end at s → IsGreatestFittingOrder first end at o → ((o ≡ 10) ⊎ (k ≡ 1))
    → ((i : ℕ) → i < k → zone_of (at + i * s) ≡ zone_of at)
    → count_by (is_block_of n wanted order) (blocks_from f first (at + k * s - first))
    ≡ count_by (is_block_of n wanted order) (blocks_from f first (at - first)) + k * if_alike o (zone_of at) order wanted
alike_more f first end n o s at k order wanted run above some room small size whole fits greatest single zones =
    let p : Block → Bool = is_block_of n wanted order in
    ap (λ (bs : List Block). count_by p bs)
    (row_more f first end n o s at k run above some room small size whole fits greatest single zones)
    ∙ sum_by-append (λ (c : Block). cond (p c) 1 0) (blocks_from f first (at - first)) (row_from o at n (zone_of at) k)
    ∙ ap (λ a. count_by p (blocks_from f first (at - first)) + a) (row_count k n o at order (zone_of at) wanted)

-- frames of another node add nothing to the count
led_other : (f : Frames) (x n node order : ℕ) (wanted : Zone) (bs : List Block) → f x ≡ Some n → (n == node) ≡ false
    → count_by (is_block_of node wanted order) (prepend_block_at x (block_of f x) bs) ≡ count_by (is_block_of node wanted order) bs
led_other f x n node order wanted bs is other =
    let p : Block → Bool = is_block_of node wanted order in
    let first : ℕ = x - x % 2 ^ greatest_free_order f x n 10 in
    let b : Block = record { order = greatest_free_order f x n 10; first = first; node = n; zone = zone_of first } in
    ap (λ v. count_by p (prepend_block_at x (block_for f x v) bs)) is
    ∙ elim (cases_Bool (first == x)) as (λ _. count_by p (prepend_block_at x (Some b) bs) ≡ count_by p bs) [
      | inl here ↦ rw here (sum_by-cons (λ (c : Block). cond (p c) 1 0) b bs ∙ rw other (omega arith))
      | inr away ↦ rw away refl
    ]

pub other_node : (f : Frames) (n node order : ℕ) (wanted : Zone) (x m : ℕ) → (n == node) ≡ false
    → ((y : ℕ) → x ≤ y → y < x + m → f y ≡ Some n) → count_by (is_block_of node wanted order) (blocks_from f x m) ≡ 0
unfolding blocks_from
other_node f n node order wanted x zero other free = refl
other_node f n node order wanted x (suc m) other free =
    led_other f x n node order wanted (blocks_from f (x + 1) m) (free x (omega arith) (omega arith)) other
    ∙ other_node f n node order wanted (x + 1) m other (λ y above below. free y (omega arith) (omega arith))

-- the count over all runs, and its largest value
pub count_all : (rs : List (RunOf ℕ)) (node order : ℕ) (wanted : Zone) → AreRuns rs → IsEmptyFrom MAX_FRAMES (value_at rs)
    → (count_by (is_block_of node wanted order) (listed (value_at rs) rs) ≡ count_blocks (value_at rs) node wanted order)
    × (count_blocks (value_at rs) node wanted order ≤ MAX_FRAMES)
unfolding count_blocks blocks_of
count_all rs node order wanted runs none =
    let most : ℕ = MAX_FRAMES in
    let bs : List Block = blocks_from (value_at rs) 0 most in (
      ap (λ (cs : List Block). count_by (is_block_of node wanted order) cs) (listed_all rs runs none),
      omega (arith, count_by-le-length (is_block_of node wanted order) bs, from-few (value_at rs) 0 most),
    )

pub count_more_at : (f : Frames) (rs : List (RunOf ℕ)) (i : ℕ) (d r : RunOf ℕ) (p : Block → Bool) → r ≡ get_or rs i d → i < length rs
    → count_by p (listed f (drop i rs)) ≡ count_by p (blocks_from f r.base (run_end r - r.base)) + count_by p (listed f (drop (i + 1) rs))
count_more_at f rs i d r p is few =
    ap (λ (bs : List Block). count_by p bs) (sym (listed_more_at f rs i d r [] is few))
    ∙ sum_by-append (λ (c : Block). cond (p c) 1 0) (blocks_from f r.base (run_end r - r.base)) (listed f (drop (i + 1) rs))

-- the code's test of order and zone decides what is counted
pub alike_is : (o order : ℕ) (z wanted : Zone) → o ≡ order → z ≡ wanted → if_alike o z order wanted ≡ 1
alike_is o order z wanted same zones =
    rw (eq-eqb o order same, ap (λ y. is_same_zone y wanted) zones ∙ zone_self wanted) refl

pub alike_not : (o order : ℕ) (z wanted : Zone) → ((o ≢ order) ⊎ (z ≢ wanted)) → if_alike o z order wanted ≡ 0
alike_not o order z wanted (inl other) = rw (ne_eqb o order other) refl
alike_not o order z wanted (inr other) =
    let differs : is_same_zone z wanted ≡ false = false_from_ne_true (is_same_zone z wanted) (λ same. other (zone_is z wanted same)) in
    rw (and_right (o == order) (is_same_zone z wanted) differs) refl

pub alike_told : (r : Bool) (o order : ℕ) (z wanted : Zone) → (IsTrue r ↔ ((o ≡ order) × (z ≡ wanted)))
    → if_alike o z order wanted ≡ cond r 1 0
alike_told true o order z wanted tells = let both = tells.0 refl in alike_is o order z wanted both.0 both.1
alike_told false o order z wanted tells =
    elim (cases_Bool (o == order)) as (λ _. if_alike o z order wanted ≡ 0) [
      | inr differs ↦ rw differs refl
      | inl same ↦ alike_not o order z wanted (inr (λ zones. true≢false (sym (tells.1 (eqb-true o order same, zones)))))
    ]

-- the count so far plus that of the rest stays the count of all when one more run is counted
pub next_count : (f : Frames) (rs : List (RunOf ℕ)) (i : ℕ) (d r : RunOf ℕ) (p : Block → Bool) (t u all : ℕ) → r ≡ get_or rs i d
    → i < length rs
    → t + count_by p (listed f (drop i rs)) ≡ all → u ≡ t + count_by p (blocks_from f r.base (run_end r - r.base))
    → u + count_by p (listed f (drop (i + 1) rs)) ≡ all
next_count f rs i d r p t u all is few sum more = omega (arith, count_more_at f rs i d r p is few, sum, more)

pub no_count : (f : Frames) (rs : List (RunOf ℕ)) (i : ℕ) (p : Block → Bool) → length rs ≤ i → count_by p (listed f (drop i rs)) ≡ 0
no_count f rs i p all = ap (λ (bs : List Block). count_by p bs) (listed_none f rs i all)

-- a run of another node adds nothing
pub other_run : (f : Frames) (r : RunOf ℕ) (node order : ℕ) (wanted : Zone) → IsWholeNodeRun f r.base (run_end r) r.value → r.value ≢ node
    → count_by (is_block_of node wanted order) (blocks_from f r.base (run_end r - r.base)) ≡ 0
other_run f r node order wanted run other =
    other_node f r.value node order wanted r.base (run_end r - r.base) (ne_eqb r.value node other)
    (λ y above below. run.inside y above (omega arith))

pub many : (k s o : ℕ) → s ≡ 2 ^ o → k ≤ k * s
many k s o size =
    let positive : 1 ≤ s = omega (arith, pow_pos o, size) in
    omega (arith, mul-le-mul_left k positive)

pub at_most_one : (o order : ℕ) (z wanted : Zone) → if_alike o z order wanted ≤ 1
at_most_one o order z wanted = cond_both ((o == order) && is_same_zone z wanted) 1 0 (λ n. n ≤ 1) (λ _. omega arith) (λ _. omega arith)

pub mul_one_most : (k v : ℕ) → v ≤ 1 → k * v ≤ k
mul_one_most k v one = let h = mul-le-mul_left k one in omega (arith, h)

-- the next block begins where consecutive blocks end
pub next_start : (first end at o s k : ℕ) → at % s ≡ 0 → o ≤ 10 → s ≡ 2 ^ o → IsGreatestFittingOrder first end at o → ((o ≡ 10) ⊎ (k ≡ 1))
    → FittingSetsBeginAt first end (at + k * s)
next_start first end at o s k whole small size greatest (inr one) =
    let here : at + s ≡ at + k * s = sym (ap (λ j. at + j * s) one ∙ omega arith) in
    subst (λ (y : ℕ). FittingSetsBeginAt first end y) here (start_next first end at o s whole small size greatest)
next_start first end at o s k whole small size greatest (inl ten) =
    let s_is : s ≡ 2 ^ 10 = size ∙ ap (λ p. 2 ^ p) ten in
    start_at_ten first end (at + k * s) (ap (λ t. (at + k * s) % t) (sym s_is) ∙ add-mul-mod_self_right at k s ∙ whole)
