-- Lemmas on equal consecutive blocks.
use Rattle.std.proofs.Common.{◌≡◌, ◌⊎◌, ℕ, zero, suc, ◌+◌, ◌-◌, ◌*◌, ◌%◌, ◌^◌, ◌<◌, ◌≤◌, Some, List, [], ◌∷◌, ◌++◌, refl, sym, ◌∙◌, ap, subst, inl, inr, arith, append_assoc}
use Rattle.std.proofs.lemmas.List.{append-nil}
use Rattle.std.proofs.lemmas.Nat.{pow_pos}
use Rattle.std.proofs.Math.Nat.{add-mod_right, add-mul-mod_self_right, suc-mul}
use Rattle.bm_base.specs.declared.zone.Zone.{Zone}
use Rattle.bm_base.specs.Zones.{zone_of}
use Rattle.buddy_blocks.specs.declared.block.Block.{Block}
use Rattle.buddy_blocks.specs.declared.block.BlockRow.{BlockRow}
use Rattle.buddy_blocks.specs.Frames.{Frames}
use Rattle.buddy_blocks.specs.BlockList.{blocks_from, greatest_free_order}
use Rattle.buddy_blocks.specs.Rows.{row_from, blocks_of_row, blocks_of_rows}
use Rattle.buddy_blocks.specs.Sets.{IsWholeNodeRun, SetFits, IsGreatestFittingOrder}
use Rattle.buddy_blocks.proofs.GoodLaws.{up_is}
use Rattle.buddy_blocks.proofs.ListLaws.{from-append, from-block}
use Rattle.buddy_blocks.proofs.RunLaws.{found, free_inside}

-- if a block of this order begins at each of these multiples, the blocks are a row
pub row_is : (k : ℕ) (f : Frames) (n o s at : ℕ) (z : Zone) → o ≤ 10 → s ≡ 2 ^ o → at % 2 ^ o ≡ 0
    → ((i : ℕ) → i < k → f (at + i * s) ≡ Some n) → ((i : ℕ) → i < k → greatest_free_order f (at + i * s) n 10 ≡ o)
    → ((i : ℕ) → i < k → zone_of (at + i * s) ≡ z)
    → blocks_from f at (k * s) ≡ row_from o at n z k
unfolding row_from
row_is zero f n o s at z small size whole free found zones =
    let none : 0 * s ≡ 0 = omega arith in
    let nothing : blocks_from f at 0 ≡ [] = unfold blocks_from in refl in
    ap (λ m. blocks_from f at m) none ∙ nothing
row_is (suc k) f n o s at z small size whole free found zones =
    let here : at + 0 * s ≡ at = omega arith in
    let is : f at ≡ Some n = ap f (sym here) ∙ free 0 (omega arith) in
    let order_is : greatest_free_order f at n 10 ≡ o = ap (λ x. greatest_free_order f x n 10) (sym here) ∙ found 0 (omega arith) in
    let zone_is : zone_of at ≡ z = ap zone_of (sym here) ∙ zones 0 (omega arith) in
    let one : blocks_from f at (2 ^ o) ≡ record { order = o; first = at; node = n; zone = zone_of at } ∷ [] =
    from-block f o at n small is order_is whole in
    let sum : suc k * s ≡ 2 ^ o + k * s = let h = suc-mul k s in omega (arith, h, size) in
    let next : (i : ℕ) → at + 2 ^ o + i * s ≡ at + suc i * s = λ i. let h = suc-mul i s in omega (arith, h, size) in
    let rest : blocks_from f (at + 2 ^ o) (k * s) ≡ row_from o (at + 2 ^ o) n z k =
    row_is k f n o s (at + 2 ^ o) z small size
    (add-mod_right at (2 ^ o) ∙ whole)
    (λ i lt. ap f (next i) ∙ free (suc i) (omega arith))
    (λ i lt. ap (λ x. greatest_free_order f x n 10) (next i) ∙ found (suc i) (omega arith))
    (λ i lt. ap zone_of (next i) ∙ zones (suc i) (omega arith)) in
    ap (λ m. blocks_from f at m) sum ∙ from-append f at (2 ^ o) (k * s)
    ∙ ap (λ (bs : List Block). bs ++ blocks_from f (at + 2 ^ o) (k * s)) one
    ∙ ap (λ y. let b : Block = record { order = o; first = at; node = n; zone = y } in b ∷ blocks_from f (at + 2 ^ o) (k * s)) zone_is
    ∙ ap (λ (bs : List Block). let b : Block = record { order = o; first = at; node = n; zone = z } in b ∷ bs) rest

-- the blocks of a row lie in the run: the first by the largest set that fits, the others since
-- they are of the largest order
in_a_row : (f : Frames) (first end n o s at k : ℕ) → IsWholeNodeRun f first end n → first ≤ at → 0 < k → at + k * s ≤ end → o ≤ 10
    → s ≡ 2 ^ o
    → at % s ≡ 0 → SetFits first end at s → IsGreatestFittingOrder first end at o → ((o ≡ 10) ⊎ (k ≡ 1)) → (i : ℕ) → i < k
    → (f (at + i * s) ≡ Some n) × (greatest_free_order f (at + i * s) n 10 ≡ o)
in_a_row f first end n o s at k run above some room small size whole fits greatest (inr one) i lt =
    let start : at + i * s ≡ at = let zeroth : i ≡ 0 = omega arith in ap (λ j. at + j * s) zeroth ∙ omega arith in
    let positive : 0 < s = let h = pow_pos o in omega (arith, size, h) in
    let inner : at < end = let h = suc-mul 0 s in let all = ap (λ j. j * s) one in omega (arith, room, all, h, positive) in (
      ap f start ∙ run.inside at above inner,
      ap (λ x. greatest_free_order f x n 10) start
          ∙ found f first end n o at run above inner small (subst (λ (t : ℕ). SetFits first end at t) size fits) greatest,
    )
in_a_row f first end n o s at k run above some room small size whole fits greatest (inl ten) i lt =
    let s_is : s ≡ 1024 = size ∙ ap (λ p. 2 ^ p) ten in
    let x : ℕ = at + i * s in
    let all = ap (λ t. at + k * t) s_is in
    let here : x ≡ at + i * 1024 = ap (λ t. at + i * t) s_is in
    let fits_here : x + 1024 ≤ end = omega (arith, room, all, here, lt) in
    let x_whole : x % 1024 ≡ 0 = ap (λ y. y % 1024) here ∙ add-mul-mod_self_right at i 1024 ∙ rw s_is at whole in
    let is : f x ≡ Some n = run.inside x (omega arith) (omega (arith, fits_here)) in
    let fits_ten : SetFits first end x (2 ^ 10) =
    record { above = omega (arith, x_whole, above); below = omega (arith, x_whole, fits_here) } in (
      is,
      up_is f x n 10 10 is (omega arith) (free_inside f first end n 10 x run fits_ten) (λ less free. absurd (omega arith)) ∙ sym ten,
    )

pub row_more : (f : Frames) (first end n o s at k : ℕ) → IsWholeNodeRun f first end n → first ≤ at → 0 < k → at + k * s ≤ end
    → o ≤ 10 → s ≡ 2 ^ o → at % s ≡ 0 → SetFits first end at s → IsGreatestFittingOrder first end at o → ((o ≡ 10) ⊎ (k ≡ 1))
    → ((i : ℕ) → i < k → zone_of (at + i * s) ≡ zone_of at)
    → blocks_from f first (at + k * s - first) ≡ blocks_from f first (at - first) ++ row_from o at n (zone_of at) k
row_more f first end n o s at k run above some room small size whole fits greatest single zones =
    let row = in_a_row f first end n o s at k run above some room small size whole fits greatest single in
    let parts : at + k * s - first ≡ (at - first) + k * s = omega arith in
    let there : first + (at - first) ≡ at = omega arith in
    let start : at % 2 ^ o ≡ 0 = subst (λ (t : ℕ). at % t ≡ 0) size whole in
    ap (λ m. blocks_from f first m) parts ∙ from-append f first (at - first) (k * s)
    ∙ ap (λ (y : ℕ). blocks_from f first (at - first) ++ blocks_from f y (k * s)) there
    ∙ ap (λ (bs : List Block). blocks_from f first (at - first) ++ bs)
    (row_is k f n o s at (zone_of at) small size start (λ i lt. (row i lt).0) (λ i lt. (row i lt).1) zones)

-- one more row at the end of the list
pub rows_more : (rs : List BlockRow) (r : BlockRow) → blocks_of_rows (rs ++ r ∷ []) ≡ blocks_of_rows rs ++ blocks_of_row r
rows_more [] r = append-nil (blocks_of_row r)
rows_more (q ∷ rs) r =
    ap (λ (bs : List Block). blocks_of_row q ++ bs) (rows_more rs r)
    ∙ sym (append_assoc (blocks_of_row q) (blocks_of_rows rs) (blocks_of_row r))
