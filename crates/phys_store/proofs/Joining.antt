-- Lemmas on replacing extents by one that covers them.
use Rattle.std.proofs.Common.{◌≡◌, ℕ, zero, suc, ◌+◌, ◌-◌, ◌^◌, ◌<◌, ◌≤◌, Bool, true, false, ◌||◌, List, [], ◌∷◌, ◌++◌, length, min, max, get_or, take, drop, map, refl, sym, ◌∙◌, ap, subst, arith, inl, inr, IsTrue}
use Rattle.std.proofs.lemmas.Bool.{cases_Bool, cases_lt, or_right}
use Rattle.std.proofs.lemmas.Bool.Decides.{nat_tests}
use Rattle.std.proofs.lemmas.List.{get_or_default, get_or-map, get_or-take, get_or-drop, length-take, take-map, drop-map, drop-drop}
use Rattle.std.specs.List.{remove}
use Rattle.bm_base.specs.Range.{RangeView, end_of, covers}
use Rattle.phys_store.specs.declared.extents.Extent.{Extent}
use Rattle.phys_store.specs.Bytes.{ExtentView, end_of_extent, is_in_extent, byte_of, is_prepared_at, ArePrepared}
use Rattle.phys_store.specs.Extents.{extent_view, AreSortedAndApart, nth_extent, AreTouchedExtents, extent_with_bytes_of, merge_extents}
use Rattle.phys_store.proofs.ByteLists.{length-bytes_at, get-bytes_at}
use Rattle.phys_store.proofs.Lookup.{is_in_extent-low, is_in_extent-high, ready-below, byte-unready, placed, read-at}

-- the extent that code reads at index `i` is, as contracts see it, the extent with index `i`
pub nth_piece : (es : List Extent) (i : ℕ) (e : Extent) → i < length es → e ≡ get_or es i e
    → nth_extent (map extent_view es) i ≡ extent_view e
nth_piece es i e count is = get_or-map extent_view es i e (record { base = 0; bytes = [] }) count ∙ ap extent_view (sym is)

-- an earlier extent ends below the start of a later one
pub before : (e : ℕ) (ps : List ExtentView) (i j : ℕ) → AreSortedAndApart e ps → i < j → j < length ps
    → end_of_extent (nth_extent ps i) < (nth_extent ps j).base
before e [] i j apart less count = absurd (omega arith)
before e (q ∷ ps) i zero apart less count = absurd (omega arith)
before e (q ∷ ps) zero (suc j) apart less count =
    let count' : j < length ps = omega arith in
    let next = placed (end_of_extent q + 1) ps j (nth_extent ps j) apart.3 count'
    (get_or_default ps j (nth_extent ps j) (record { base = 0; bytes = [] }) count') in omega (arith, next.0)
before e (q ∷ ps) (suc i) (suc j) apart less count = before (end_of_extent q + 1) ps i j apart.3 (omega arith) (omega arith)

-- for an address outside `p`, dropping the first n extents changes nothing if all of these lie
-- within `p`
outside_front : (p : ExtentView) (n : ℕ) (ps : List ExtentView) → ((i : ℕ) → i < n → p.base ≤ (nth_extent ps i).base) →
    ((i : ℕ) → i < n → end_of_extent (nth_extent ps i) ≤ end_of_extent p) →
    (x : ℕ) → is_in_extent p x ≡ false → (byte_of (drop n ps) x ≡ byte_of ps x) × (is_prepared_at (drop n ps) x ≡ is_prepared_at ps x)
outside_front p zero ps low high x out = (refl, refl)
outside_front p (suc n) [] low high x out = (refl, refl)
outside_front p (suc n) (q ∷ ps) low high x out =
    let first : p.base ≤ q.base = low 0 (omega arith) in
    let last : end_of_extent q ≤ end_of_extent p = high 0 (omega arith) in
    let off : is_in_extent q x ≡ false = grind (arith, nat_tests) in
    let rest = outside_front p n ps (λ i less. low (suc i) (omega arith)) (λ i less. high (suc i) (omega arith)) x out in
    rw off rest

-- for an address below `h`, only the first n extents count if all others begin above `h`
in_front : (e n h x : ℕ) (ps : List ExtentView) → AreSortedAndApart e ps
    → ((i : ℕ) → n ≤ i → i < length ps → h < (nth_extent ps i).base) → x < h →
    byte_of (take n ps) x ≡ byte_of ps x
in_front e zero h x [] apart above below = refl
in_front e zero h x (q ∷ ps) apart above below =
    let first : h < q.base = above 0 (omega arith) (omega arith) in
    let none = ready-below q.base (q ∷ ps) x (omega arith, apart.1, apart.2, apart.3) (omega arith) in
    sym (byte-unready (q ∷ ps) x none)
in_front e (suc n) h x [] apart above below = refl
in_front e (suc n) h x (q ∷ ps) apart above below =
    rw (in_front (end_of_extent q + 1) n h x ps apart.3 (λ i from count. above (suc i) (omega arith) (omega arith)) below) refl

-- the extents after the first n don't touch anything that ends below them
apart_left : (e n h : ℕ) (ps : List ExtentView) → AreSortedAndApart e ps → ((i : ℕ) → n ≤ i → i < length ps → h < (nth_extent ps i).base) →
    AreSortedAndApart (h + 1) (drop n ps)
apart_left e zero h [] apart above = tt
apart_left e zero h (q ∷ ps) apart above =
    let first : h < q.base = above 0 (omega arith) (omega arith) in
    (omega arith, apart.1, apart.2, apart.3)
apart_left e (suc n) h [] apart above = tt
apart_left e (suc n) h (q ∷ ps) apart above = apart_left (end_of_extent q + 1) n h ps apart.3
    (λ i from count. above (suc i) (omega arith) (omega arith))

-- what is true after the extent `p` has replaced the extents that it covers
pub record Joined (e : ℕ) (ps : List ExtentView) (p : ExtentView) (new : List ExtentView) : Type 0 where
  pub apart : AreSortedAndApart e new
  pub bytes : (x : ℕ) → byte_of new x ≡ byte_of ps x
  pub ready : (x : ℕ) → is_prepared_at new x ≡ (is_in_extent p x || is_prepared_at ps x)

joined_first : (e n : ℕ) (ps : List ExtentView) (p : ExtentView) → AreSortedAndApart e ps → e ≤ p.base → 0 < length p.bytes
    → end_of_extent p < 2 ^ 64 →
    AreTouchedExtents ps 0 n p.base (end_of_extent p) →
    ((x : ℕ) → p.base ≤ x → x < end_of_extent p → get_or p.bytes (x - p.base) 0 ≡ byte_of (take n ps) x) →
    Joined e ps p (p ∷ drop n ps)
joined_first e n ps p apart low some small joins told =
    let off = outside_front p n ps (λ i less. joins.low i (omega arith) less) (λ i less. joins.high i (omega arith) less) in
    record {
      apart = (low, some, small, apart_left e n (end_of_extent p) ps apart joins.above);
      bytes = λ x. elim (cases_Bool (is_in_extent p x)) [
        | inl lies ↦ let from = is_in_extent-low p x lies in let to = is_in_extent-high p x lies in
            rw lies (told x from to ∙ in_front e n (end_of_extent p) x ps apart joins.above to)
        | inr out ↦ rw out (off x out).0
      ];
      ready = λ x. elim (cases_Bool (is_in_extent p x)) [
        | inl lies ↦ rw lies refl
        | inr out ↦ ap (λ b. is_in_extent p x || b) (off x out).1
      ];
    }

-- whether an address is prepared doesn't depend on the order of three extents
swapped : (a b c : Bool) → (a || (b || c)) ≡ (b || (a || c))
swapped true true c = refl
swapped true false c = refl
swapped false true c = refl
swapped false false c = refl

pub joined : (f e b n : ℕ) (ps : List ExtentView) (p : ExtentView) → AreSortedAndApart e ps → e ≤ p.base → 0 < length p.bytes
    → end_of_extent p < 2 ^ 64 → b ≡ f + n →
    AreTouchedExtents ps f b p.base (end_of_extent p) →
    ((x : ℕ) → p.base ≤ x → x < end_of_extent p → get_or p.bytes (x - p.base) 0 ≡ byte_of (take n (drop f ps)) x) →
    Joined e ps p (take f ps ++ p ∷ drop b ps)
joined zero e b n ps p apart low some small count joins told =
    let same : b ≡ n = omega (arith, count) in
    joined_first e b ps p apart low some small joins (subst (λ m. (x : ℕ) → p.base ≤ x → x < end_of_extent p →
    get_or p.bytes (x - p.base) 0 ≡ byte_of (take m ps) x) (sym same) told)
joined (suc f) e b n [] p apart low some small count joins told =
    let most : b ≤ 0 = joins.most in absurd (omega (arith, count, most))
joined (suc f) e zero n (q ∷ ps) p apart low some small count joins told = absurd (omega (arith, count))
joined (suc f) e (suc b) n (q ∷ ps) p apart low some small count joins told =
    let first : end_of_extent q < p.base = joins.below 0 (omega arith) in
    let rest = joined f (end_of_extent q + 1) b n ps p apart.3 (omega arith) some small (omega (arith, count)) (record {
      order = omega (arith, joins.order);
      most = omega (arith, joins.most);
      below = λ i less. joins.below (suc i) (omega arith);
      low = λ i from to. joins.low (suc i) (omega arith) (omega arith);
      high = λ i from to. joins.high (suc i) (omega arith) (omega arith);
      above = λ i from to. joins.above (suc i) (omega arith) (omega arith);
    }) told in
    record {
      apart = (apart.0, apart.1, apart.2, rest.apart);
      bytes = λ x. rw (rest.bytes x) refl;
      ready = λ x. rw (rest.ready x) (swapped (is_in_extent q x) (is_in_extent p x) (is_prepared_at ps x));
    }

-- the extent with index `i` ends in the address space, and its addresses are prepared
pub there : (ps : List ExtentView) (i : ℕ) → i < length ps → get_or ps i (nth_extent ps i) ≡ nth_extent ps i
there ps i count = get_or_default ps i (nth_extent ps i) (record { base = 0; bytes = [] }) count

pub nth_extent-fits : (ps : List ExtentView) (i : ℕ) → AreSortedAndApart 0 ps → i < length ps → end_of_extent (nth_extent ps i) < 2 ^ 64
nth_extent-fits ps i apart count = (placed 0 ps i (nth_extent ps i) apart count (there ps i count)).2

-- the extents that the loop has joined so far, and the addresses that they and the range make up
pub record Hull (ps : List ExtentView) (r : RangeView) (first after from to : ℕ) : Type 0 where
  pub order : first ≤ after
  pub most : after ≤ length ps
  pub least : from ≤ r.base
  pub end : end_of r ≤ to
  pub small : to < 2 ^ 64
  pub below : (i : ℕ) → i < first → end_of_extent (nth_extent ps i) < from
  pub low : (i : ℕ) → first ≤ i → i < after → from ≤ (nth_extent ps i).base
  pub high : (i : ℕ) → first ≤ i → i < after → end_of_extent (nth_extent ps i) ≤ to
  pub ready : (x : ℕ) → from ≤ x → x < to → IsTrue (covers r x || is_prepared_at ps x)

-- an earlier extent ends at or below the end of a later one
pub ends_rise : (ps : List ExtentView) (i j : ℕ) → AreSortedAndApart 0 ps → i ≤ j → j < length ps
    → end_of_extent (nth_extent ps i) ≤ end_of_extent (nth_extent ps j)
ends_rise ps i j apart order count =
    elim (cases_lt i j) [
      | inl less ↦ let far = before 0 ps i j apart less count in omega (arith, far)
      | inr most ↦ let is : i ≡ j = omega (arith, order, most) in rw is (omega arith)
    ]

-- the next extent is joined if it begins at or below the end of those joined so far
pub hull_more : (ps : List ExtentView) (r : RangeView) (first after from to : ℕ) → AreSortedAndApart 0 ps → after < length ps →
    r.base ≤ end_of_extent (nth_extent ps first) → (nth_extent ps after).base ≤ to → Hull ps r first after from to →
    Hull ps r first (after + 1) (min from (nth_extent ps after).base) (max to (end_of_extent (nth_extent ps after)))
hull_more ps r first after from to apart count reach touches h =
    let p = nth_extent ps after in
    let ends : end_of_extent p < 2 ^ 64 = nth_extent-fits ps after apart count in
    let far : r.base ≤ end_of_extent p = omega (arith, reach, ends_rise ps first after apart h.order count) in
    record {
      order = omega (arith, h.order);
      most = omega arith;
      least = omega (arith, h.least);
      end = omega (arith, h.end);
      small = omega (arith, h.small, ends);
      below = λ i less. let old = h.below i less in let now = before 0 ps i after apart (omega (arith, h.order)) count in omega arith;
      low = λ i from_first to_next. elim (cases_lt i after) [
        | inl old ↦ let is = h.low i from_first old in omega arith
        | inr new ↦ let is : i ≡ after = omega arith in rw is (omega arith)
      ];
      high = λ i from_first to_next. elim (cases_lt i after) [
        | inl old ↦ let is = h.high i from_first old in omega arith
        | inr new ↦ let is : i ≡ after = omega arith in rw is (omega arith)
      ];
      ready = λ x low high. elim (cases_lt x from) [
        | inl under ↦ or_right (covers r x) (is_prepared_at ps x)
            (read-at 0 ps after p x apart count (there ps after count) (omega arith) (omega (arith, h.least))).1
        | inr over ↦ elim (cases_lt x to) [
          | inl within ↦ h.ready x over within
          | inr above ↦ or_right (covers r x) (is_prepared_at ps x)
              (read-at 0 ps after p x apart count (there ps after count) (omega arith) (omega arith)).1
        ]
      ];
    }

-- if the loop joins no further extent, it has joined exactly those that the range overlaps or
-- touches
pub hull_joins : (ps : List ExtentView) (r : RangeView) (first after from to : ℕ) → AreSortedAndApart 0 ps
    → Hull ps r first after from to →
    (after < length ps → to < (nth_extent ps after).base) → AreTouchedExtents ps first after from to
hull_joins ps r first after from to apart h stop = record {
  order = h.order;
  most = h.most;
  below = h.below;
  low = h.low;
  high = h.high;
  above = λ i least count. elim (cases_lt after i) [
    | inl later ↦ let far = before 0 ps after i apart later count in let here = stop (omega arith) in omega (arith, here, far)
    | inr same ↦ let is : i ≡ after = omega arith in rw is (stop (omega arith))
  ];
}

-- the extent with index `i` of a part of the list is one of the whole list
pub nth_part : (es : List Extent) (f n i : ℕ) → i < length (take n (drop f es)) →
    nth_extent (map extent_view (take n (drop f es))) i ≡ nth_extent (map extent_view es) (f + i)
nth_part es f n i count =
    let none : ExtentView = record { base = 0; bytes = [] } in
    let short = length-take n (drop f es) in
    let inner : i < n = omega (arith, short) in
    ap (λ (ps : List ExtentView). get_or ps i none) (sym (take-map extent_view n (drop f es))
    ∙ ap (take n) (sym (drop-map extent_view f es)))
    ∙ get_or-take n (drop f (map extent_view es)) i none inner ∙ get_or-drop f (map extent_view es) i none

-- removing the element right after another leaves the elements before and after it
removed : (xs ys : List Extent) (x : Extent) → remove (xs ++ x ∷ ys) (suc (length xs)) ≡ xs ++ x ∷ drop 1 ys
removed [] ys x = refl
removed (a ∷ xs) ys x = ap (λ (l : List Extent). a ∷ l) (removed xs ys x)

pub removed_after : (es new now : List Extent) (x : Extent) (f k : ℕ) → f ≤ length es → now ≡ take f es ++ x ∷ drop k es →
    new ≡ remove now (f + 1) →
    new ≡ take f es ++ x ∷ drop (k + 1) es
removed_after es new now x f k most was is =
    let front : length (take f es) ≡ f = length-take f es ∙ omega arith in
    let after : f + 1 ≡ suc (length (take f es)) = omega (arith, front) in
    is ∙ ap (λ (l : List Extent). remove l (f + 1)) was ∙ ap (remove (take f es ++ x ∷ drop k es)) after
    ∙ removed (take f es) (drop k es) x ∙ ap (λ (l : List Extent). take f es ++ x ∷ l) (drop-drop 1 k es)

-- what is true after a range has been prepared
pub record Prepared (ps new : List ExtentView) (r : RangeView) : Type 0 where
  pub apart : AreSortedAndApart 0 new
  pub bytes : (x : ℕ) → byte_of new x ≡ byte_of ps x
  pub ready : (x : ℕ) → is_prepared_at new x ≡ (covers r x || is_prepared_at ps x)

some_size : (ps : List ExtentView) (r : RangeView) → (ArePrepared ps r.base r.size → ⊥) → 0 < r.size
some_size ps r not_ready = elim (cases_lt 0 r.size) [ inl some ↦ some | inr none ↦ absurd (not_ready (λ x low high. absurd (omega arith))) ]

-- the new extent has exactly the addresses of the range and of the extents that it replaces
exact : (ps : List ExtentView) (r : RangeView) (p : ExtentView) → p.base ≤ r.base → end_of r ≤ end_of_extent p →
    ((x : ℕ) → p.base ≤ x → x < end_of_extent p → IsTrue (covers r x || is_prepared_at ps x)) → (x : ℕ) →
    (is_in_extent p x || is_prepared_at ps x) ≡ (covers r x || is_prepared_at ps x)
exact ps r p low high ready x = elim (cases_Bool (is_in_extent p x)) [
  | inl lies ↦ rw lies (sym (ready x (is_in_extent-low p x lies) (is_in_extent-high p x lies)))
  | inr out ↦ let off : covers r x ≡ false = grind (arith, nat_tests) in rw (out, off) refl
]

pub prepared : (ps new : List ExtentView) (r : RangeView) (f b from to : ℕ) → AreSortedAndApart 0 ps → AreTouchedExtents ps f b from to →
    from ≤ r.base → end_of r ≤ to → to < 2 ^ 64 → (ArePrepared ps r.base r.size → ⊥) →
    ((x : ℕ) → from ≤ x → x < to → IsTrue (covers r x || is_prepared_at ps x)) →
    new ≡ merge_extents ps f b from to → Prepared ps new r
prepared ps new r f b from to apart joins low high small not_ready ready is =
    let some : 0 < r.size = some_size ps r not_ready in
    let g : ℕ → ℕ = byte_of (take (b - f) (drop f ps)) in
    let e : ExtentView = extent_with_bytes_of (take (b - f) (drop f ps)) from to in
    let len : length e.bytes ≡ to - from = length-bytes_at g from (to - from) in
    let end : end_of_extent e ≡ to = omega (arith, len, low, high, some) in
    let j = joined f 0 b (b - f) ps e apart (omega arith) (omega (arith, len, low, high, some))
    (omega (arith, end, small))
    (omega (arith, joins.order))
    (subst (λ m. AreTouchedExtents ps f b from m) (sym end) joins)
    (λ x least below. get-bytes_at g from (to - from) (x - from) (omega (arith, least, below, end)) ∙ ap g (omega (arith, least))) in
    record {
      apart = rw is j.apart;
      bytes = λ x. rw is (j.bytes x);
      ready = λ x. rw is (j.ready x ∙ exact ps r e low (omega (arith, end, high))
          (λ y least below. ready y least (omega (arith, end, below))) x);
    }
