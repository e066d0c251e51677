-- Lemmas on the binary search in extents that don't touch.
use Rattle.std.proofs.Common.{◌≡◌, ℕ, ◌<◌, ◌≤◌, Bool, true, false, Some, None, List, [], ◌∷◌, length, get_or, map, refl, sym, ◌∙◌, ap, arith, inl, inr, nat_lt}
use Rattle.std.proofs.lemmas.Bool.{cases_lt}
use Rattle.std.proofs.lemmas.Bool.Decides.{nat_tests}
use Rattle.std.proofs.lemmas.List.{get_or-map, length-map}
use Rattle.std.proofs.lemmas.List.Sums.{position_or_len_is}
use Rattle.std.specs.List.{position, position_or_len}
use Rattle.phys_store.specs.declared.extents.Extent.{Extent}
use Rattle.phys_store.specs.Bytes.{ExtentView, end_of_extent, is_in_extent}
use Rattle.phys_store.specs.Extents.{extent_view, nth_extent, AreSortedAndApart}
use Rattle.phys_store.proofs.Lookup.{is_in_extent-below, is_in_extent-above}
use Rattle.phys_store.proofs.Joining.{before}

-- only the first extent that ends at or above an address can have it
others_out : (ps : List ExtentView) (a i k : ℕ) → AreSortedAndApart 0 ps → ((j : ℕ) → j < i → end_of_extent (nth_extent ps j) < a) →
    (i < length ps → a ≤ end_of_extent (nth_extent ps i)) → (i < length ps → is_in_extent (nth_extent ps i) a ≡ false) → k < length ps
    → is_in_extent (nth_extent ps k) a ≡ false
others_out ps a i k apart below reaches out count =
    elim (cases_lt k i) [
      | inl less ↦ let ends = below k less in is_in_extent-above (nth_extent ps k) a (omega (arith, ends))
      | inr most ↦ elim (cases_lt i k) [
        | inl more ↦ let far = before 0 ps i k apart more count in let reach = reaches (omega (arith, more, count)) in
            is_in_extent-below (nth_extent ps k) a (omega (arith, far, reach))
        | inr least ↦ let is : k ≡ i = omega (arith, most, least) in rw is (out (omega (arith, is, count)))
      ]
    ]

-- if no element passes the test, there is no position
no_position : {X : Type 0} (p : X → Bool) (xs : List X) → ((k : ℕ) (d : X) → k < length xs → p (get_or xs k d) ≡ false) →
    position p xs ≡ None
no_position p [] each = refl
no_position p (x ∷ xs) each =
    let all = position_or_len_is p (x ∷ xs) (length (x ∷ xs)) x (omega arith) (λ k less. each k x less)
    (λ less. absurd (omega (arith, less))) in
    let none : nat_lt (length (x ∷ xs)) (length (x ∷ xs)) ≡ false = grind (arith, nat_tests) in
    rw (all, none) refl

-- whether extent `k` has the address can be tested on the extent that code reads, or as contracts
-- see it
same_test : (es : List Extent) (a k : ℕ) (d : Extent) → k < length es
    → is_in_extent (extent_view (get_or es k d)) a ≡ is_in_extent (nth_extent (map extent_view es) k) a
same_test es a k d count =
    ap (λ (q : ExtentView). is_in_extent q a) (sym (get_or-map extent_view es k d (record { base = 0; bytes = [] }) count))

pub first_has : (es : List Extent) (a i : ℕ) (e : Extent) → ((j : ℕ) → j < i → end_of_extent (nth_extent (map extent_view es) j) < a)
    → i < length es →
    e ≡ get_or es i e → is_in_extent (extent_view e) a ≡ true → Some i ≡ position (λ d. is_in_extent (extent_view d) a) es
first_has es a i e below count is lies =
    let at : position_or_len (λ d. is_in_extent (extent_view d) a) es ≡ i =
    position_or_len_is (λ d. is_in_extent (extent_view d) a) es i e (omega arith)
    (λ k less. let ends = below k less in
    same_test es a k e (omega (arith, less, count)) ∙ is_in_extent-above (nth_extent (map extent_view es) k) a (omega (arith, ends)))
    (λ same. ap (λ (d : Extent). is_in_extent (extent_view d) a) (sym is) ∙ lies) in
    let some : nat_lt i (length es) ≡ true = grind (arith, nat_tests) in
    sym (rw (at, some) refl)

pub first_has_not : (es : List Extent) (a i : ℕ) → AreSortedAndApart 0 (map extent_view es)
    → ((j : ℕ) → j < i → end_of_extent (nth_extent (map extent_view es) j) < a) →
    (i < length es → a ≤ end_of_extent (nth_extent (map extent_view es) i))
    → (i < length es → is_in_extent (nth_extent (map extent_view es) i) a ≡ false) →
    None ≡ position (λ d. is_in_extent (extent_view d) a) es
first_has_not es a i apart below reaches out =
    let long = length-map es extent_view in
    sym (no_position (λ d. is_in_extent (extent_view d) a) es (λ k d count. same_test es a k d count
    ∙ others_out (map extent_view es) a i k apart below (λ less. reaches (omega (arith, less, long))) (λ less.
    out (omega (arith, less, long)))
    (omega (arith, count, long))))
