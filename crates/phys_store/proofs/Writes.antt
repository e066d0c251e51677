-- Lemmas on writing to an extent: the byte at each address afterwards.
use Rattle.std.proofs.Common.{◌≡◌, ℕ, zero, suc, ◌+◌, ◌-◌, ◌^◌, ◌<◌, ◌≤◌, false, ◌||◌, List, [], ◌∷◌, length, get_or, set, map, refl, sym, ◌∙◌, ap, subst, arith, rules, length-set, take, drop, replicate, nat_lt, nat_le, IsTrue, inl, inr}
use Rattle.std.proofs.lemmas.Bool.{cases_lt, cases_Bool}
use Rattle.std.proofs.lemmas.Bool.Decides.{nat_tests}
use Rattle.std.proofs.lemmas.List.{get_or-set_same, get_or-replicate, length-replicate, length-take, length-drop, get_or-drop, map-set, with_items_is, places}
use Rattle.std.specs.Vec.{with_items}
use Rattle.std.specs.List.{CopiedTo, SameBelow, SameFrom}
use borrow.Rule.Slice.PartMut.{put_mid}
use Rattle.phys_store.specs.Bytes.{ExtentView, end_of_extent, is_in_extent, byte_of, is_prepared_at, WritesBytes}
use Rattle.phys_store.specs.declared.extents.Extent.{Extent}
use Rattle.phys_store.specs.Extents.{extent_view, AreSortedAndApart}
use Rattle.phys_store.proofs.Lookup.{Holds, is_in_extent-low, is_in_extent-high, read-at}

-- two extents with the same address and length have the same addresses
module _ (p q : ExtentView) (base : q.base ≡ p.base) (len : length q.bytes ≡ length p.bytes) where
  same_inside : (x : ℕ) → is_in_extent q x ≡ is_in_extent p x
  same_inside x = rw (base, len) refl

  same_past : end_of_extent q ≡ end_of_extent p
  same_past = omega (arith, base, len)

  pub apart-set : (e : ℕ) (ps : List ExtentView) (i : ℕ) → AreSortedAndApart e ps → get_or ps i p ≡ p → AreSortedAndApart e (set ps i q)
  apart-set e [] i apart there = tt
  apart-set e (r ∷ ps) zero apart there =
      let low : e ≤ p.base = subst (λ (s : ExtentView). e ≤ s.base) there apart.0 in
      let some : 0 < length p.bytes = subst (λ (s : ExtentView). 0 < length s.bytes) there apart.1 in
      let small : end_of_extent p < 2 ^ 64 = subst (λ (s : ExtentView). end_of_extent s < 2 ^ 64) there apart.2 in (
        omega (arith, low, base),
        omega (arith, some, len),
        omega (arith, small, base, len),
        subst (λ m. AreSortedAndApart (m + 1) ps) (sym same_past)
            (subst (λ (s : ExtentView). AreSortedAndApart (end_of_extent s + 1) ps) there apart.3),
      )
  apart-set e (r ∷ ps) (suc i) apart there = (apart.0, apart.1, apart.2, apart-set (end_of_extent r + 1) ps i apart.3 there)

  pub ready-set : (ps : List ExtentView) (i : ℕ) (x : ℕ) → get_or ps i p ≡ p → is_prepared_at (set ps i q) x ≡ is_prepared_at ps x
  ready-set [] i x there = refl
  ready-set (r ∷ ps) zero x there =
      ap (λ b. b || is_prepared_at ps x) (same_inside x ∙ ap (λ (s : ExtentView). is_in_extent s x) (sym there))
  ready-set (r ∷ ps) (suc i) x there = ap (λ b. is_in_extent r x || b) (ready-set ps i x there)

  pub byte-set_other : (ps : List ExtentView) (i : ℕ) (x : ℕ) → get_or ps i p ≡ p → is_in_extent p x ≡ false
      → byte_of (set ps i q) x ≡ byte_of ps x
  byte-set_other [] i x there out = refl
  byte-set_other (r ∷ ps) zero x there out =
      let old : is_in_extent r x ≡ false = ap (λ (s : ExtentView). is_in_extent s x) there ∙ out in
      rw (same_inside x, out, old) refl
  byte-set_other (r ∷ ps) (suc i) x there out = rw (byte-set_other ps i x there out) refl

-- the extent with index `i` gets bytes that are those of `g` in one part, and unchanged elsewhere
pub wrote-set : (ps : List ExtentView) (i : ℕ) (p q : ExtentView) (a n : ℕ) (g : ℕ → ℕ) → AreSortedAndApart 0 ps → i < length ps
    → get_or ps i p ≡ p
    →
    q.base ≡ p.base → length q.bytes ≡ length p.bytes → p.base ≤ a → a + n ≤ end_of_extent p →
    ((k : ℕ) → k < n → get_or q.bytes (a - p.base + k) 0 ≡ g k) →
    ((j : ℕ) → IsTrue (nat_lt j (a - p.base) || nat_le (a - p.base + n) j) → get_or q.bytes j 0 ≡ get_or p.bytes j 0) →
    AreSortedAndApart 0 (set ps i q) × WritesBytes ps (set ps i q) a n g
wrote-set ps i p q a n g apart count there base len low high new old =
    let after : AreSortedAndApart 0 (set ps i q) = apart-set p q base len 0 ps i apart there in
    let count' : i < length (set ps i q) = rw length-set count in
    let there' : get_or (set ps i q) i q ≡ q = get_or-set_same ps i q q count in
    let at : (x : ℕ) → p.base ≤ x → x < end_of_extent p → byte_of (set ps i q) x ≡ get_or q.bytes (x - p.base) 0 =
    λ x from to. (read-at 0 (set ps i q) i q x after count' there' (omega arith) (omega arith)).0
    ∙ ap (λ m. get_or q.bytes (x - m) 0) base in (
      after,
      record {
        within = λ k below. at (a + k) (omega arith) (omega arith) ∙ ap (λ m. get_or q.bytes m 0) (omega arith) ∙ new k below;
        outside = λ x off. elim (cases_Bool (is_in_extent p x)) [
          | inl lies ↦ let from = is_in_extent-low p x lies in let to = is_in_extent-high p x lies in
              at x from to ∙ old (x - p.base) (grind (arith, nat_tests)) ∙ sym (read-at 0 ps i p x apart count there from to).0
          | inr out ↦ byte-set_other p q base len ps i x there out
        ];
        ready = λ x. ready-set p q base len ps i x there;
      },
    )

-- overwriting a part of a list: its length, the bytes in the part, and those outside it
pub length-mid : (k m : ℕ) (xs ys : List ℕ) → length ys ≡ m → k + m ≤ length xs → length (put_mid k m xs ys) ≡ length xs
length-mid k m xs ys len within = search (rules, places)

pub mid-in : (k m : ℕ) (xs ys : List ℕ) (j : ℕ) → length ys ≡ m → k + m ≤ length xs → j < m →
    get_or (put_mid k m xs ys) (k + j) 0 ≡ get_or ys j 0
mid-in k m xs ys j len within below = grind (arith, places)

pub mid-out : (k m : ℕ) (xs ys : List ℕ) (j : ℕ) → length ys ≡ m → k + m ≤ length xs → IsTrue (nat_lt j k || nat_le (k + m) j) →
    get_or (put_mid k m xs ys) j 0 ≡ get_or xs j 0
mid-out k m xs ys j len within off = grind (arith, places, nat_tests)

-- overwriting the bytes of a range in the extent that has the range is a write of the range
pub wrote-mid : (es : List Extent) (a n i : ℕ) (e : Extent) (g : ℕ → ℕ) (k m : ℕ) (xs ys : List ℕ)
    → AreSortedAndApart 0 (map extent_view es)
    → Holds es a n i e →
    k ≡ e.front + (a - e.base) → m ≡ n → xs ≡ e.bytes.items → length ys ≡ n → ((j : ℕ) → j < n → get_or ys j 0 ≡ g j) →
    let new = set es i (record { base = e.base; front = e.front; bytes = with_items e.bytes (put_mid k m xs ys) }) in
    AreSortedAndApart 0 (map extent_view new) × WritesBytes (map extent_view es) (map extent_view new) a n g
wrote-mid es a n i e g k m xs ys apart h at count value len told =
    let f : ℕ = e.front in
    let d : Extent = record { base = e.base; front = f; bytes = with_items e.bytes (put_mid k m xs ys) } in
    let long : length xs ≡ length e.bytes.items = ap length value in
    let within : k + m ≤ length xs = omega (arith, long, h.room) in
    let same : length (put_mid k m xs ys) ≡ length xs = length-mid k m xs ys (len ∙ sym count) within in
    let is : (with_items e.bytes (put_mid k m xs ys)).items ≡ put_mid k m xs ys =
    with_items_is e.bytes (put_mid k m xs ys) (same ∙ long ∙ sym e.bytes.ok.0) in
    let each : (j : ℕ) → get_or (drop f d.bytes.items) j 0 ≡ get_or (put_mid k m xs ys) (f + j) 0 =
    λ j. get_or-drop f d.bytes.items j 0 ∙ ap (λ (zs : List ℕ). get_or zs (f + j) 0) is in
    rw (map-set extent_view es i d)
    (wrote-set (map extent_view es) i (extent_view e) (extent_view d) a n g apart h.count h.there refl
    (length-drop f d.bytes.items ∙ ap (λ l. l - f) (ap length is ∙ same ∙ long) ∙ sym (length-drop f e.bytes.items)) h.low h.high
    (λ j below. each (a - e.base + j) ∙ ap (λ l. get_or (put_mid k m xs ys) l 0) (omega (arith, at))
    ∙ mid-in k m xs ys j (len ∙ sym count) within (omega (arith, below, count)) ∙ told j below)
    (λ j off. each j
    ∙ mid-out k m xs ys (f + j) (len ∙ sym count) within (grind (arith, nat_tests, at, count, off))
    ∙ ap (λ (zs : List ℕ). get_or zs (f + j) 0) value ∙ sym (get_or-drop f e.bytes.items j 0)))

-- a write of no bytes changes nothing
pub wrote-none : (ps : List ExtentView) (a n : ℕ) (g : ℕ → ℕ) → n ≡ 0 → WritesBytes ps ps a n g
wrote-none ps a n g none = record { within = λ k below. absurd (omega arith); outside = λ x off. refl; ready = λ x. refl }

-- the bytes of a part after filling it with one byte
pub filled : (k m : ℕ) (xs ys : List ℕ) (b : ℕ) → k + m ≤ length xs → ys ≡ replicate (length (take m (drop k xs))) b →
    (length ys ≡ m) × ((j : ℕ) → j < m → get_or ys j 0 ≡ b)
filled k m xs ys b within is =
    let n : ℕ = length (take m (drop k xs)) in
    let long : n ≡ m = length-take m (drop k xs) ∙ omega (arith, length-drop k xs) in (
      ap length is ∙ length-replicate n b ∙ long,
      λ j below. ap (λ (zs : List ℕ). get_or zs j 0) is ∙ get_or-replicate n j b 0 (omega (arith, below, long)),
    )

-- copying one range of an extent to another range of it is a write of the second range
pub wrote-copied : (es : List Extent) (a n i : ℕ) (e d : Extent) (from to count source target m : ℕ)
    → AreSortedAndApart 0 (map extent_view es)
    → Holds es a n i e →
    a ≤ from → a ≤ to → from + count ≤ a + n → to + count ≤ a + n → d.base ≡ e.base → d.front ≡ e.front →
    length d.bytes.items ≡ length e.bytes.items →
    source ≡ e.front + (from - e.base) → target ≡ e.front + (to - e.base) → m ≡ count →
    CopiedTo e.bytes.items d.bytes.items source target m →
    SameBelow e.bytes.items d.bytes.items target → SameFrom e.bytes.items d.bytes.items (target + m) →
    let new = set es i d in
    AreSortedAndApart 0 (map extent_view new)
    × WritesBytes (map extent_view es) (map extent_view new) to count (λ k. byte_of (map extent_view es) (from + k))
wrote-copied es a n i e d from to count source target m apart h from_low to_low from_high to_high base front len at_source at_target
    at copied below after =
    let f : ℕ = e.front in
    let new : (j : ℕ) → get_or (drop d.front d.bytes.items) j 0 ≡ get_or d.bytes.items (f + j) 0 =
    λ j. get_or-drop d.front d.bytes.items j 0 ∙ ap (λ l. get_or d.bytes.items (l + j) 0) front in
    let old : (j : ℕ) → get_or e.bytes.items (f + j) 0 ≡ get_or (drop f e.bytes.items) j 0 =
    λ j. sym (get_or-drop f e.bytes.items j 0) in
    rw (map-set extent_view es i d)
    (wrote-set (map extent_view es) i (extent_view e) (extent_view d) to count (λ k.
    byte_of (map extent_view es) (from + k)) apart h.count h.there base
    (length-drop d.front d.bytes.items ∙ ap (λ l. length d.bytes.items - l) front ∙ ap (λ l. l - f) len
    ∙ sym (length-drop f e.bytes.items))
    (omega (arith, h.low)) (omega (arith, h.high))
    (λ k less. new (to - e.base + k)
    ∙ copied (f + (to - e.base + k)) 0 (omega (arith, at_target)) (omega (arith, at, at_target))
    ∙ ap (λ j. get_or e.bytes.items j 0) (omega (arith, h.low, at_source, at_target))
    ∙ old (from + k - e.base)
    ∙ sym (read-at 0 (map extent_view es) i (extent_view e) (from + k) apart h.count h.there (omega (arith, h.low))
    (omega (arith, h.high))).0)
    (λ j off. new j ∙ elim (cases_lt j (to - e.base)) [
      | inl less ↦ below (f + j) 0 (omega (arith, at_target)) ∙ old j
      | inr more ↦ after (f + j) 0 (grind (arith, nat_tests, at_target, at)) ∙ old j
    ]))

-- two writes, one right after the other in addresses, are one write
pub wrote-more : (s t u : List ExtentView) (a n m : ℕ) (g : ℕ → ℕ) → WritesBytes s t a n g → WritesBytes t u (a + n) m (λ k. g (n + k)) →
    WritesBytes s u a (n + m) g
wrote-more s t u a n m g first second = record {
  within = λ k below. elim (cases_lt k n) [
    | inl less ↦ second.outside (a + k) (grind (arith, nat_tests)) ∙ first.within k less
    | inr more ↦ ap (byte_of u) (omega arith) ∙ second.within (k - n) (omega arith) ∙ ap g (omega arith)
  ];
  outside = λ x off. second.outside x (grind (arith, nat_tests)) ∙ first.outside x (grind (arith, nat_tests));
  ready = λ x. second.ready x ∙ first.ready x;
}

-- a write may be described by any function that gives the same bytes
pub wrote-like : (s t : List ExtentView) (a n m : ℕ) (f g : ℕ → ℕ) → WritesBytes s t a n f → n ≡ m → ((k : ℕ) → k < m → f k ≡ g k)
    → WritesBytes s t a m g
wrote-like s t a n m f g w same alike = record {
  within = λ k below. w.within k (omega (arith, same)) ∙ alike k below;
  outside = λ x off. w.outside x (rw same off);
  ready = w.ready;
}

-- copying one more part of the source writes the next part of the target, if the two don't overlap
pub copied-more : (s t u : List ExtentView) (from to count n m : ℕ) → IsTrue (nat_le (from + count) to || nat_le (to + count) from) →
    n + m ≤ count →
    WritesBytes s t to n (λ k. byte_of s (from + k)) → WritesBytes t u (to + n) m (λ k. byte_of t (from + n + k)) →
    WritesBytes s u to (n + m) (λ k. byte_of s (from + k))
copied-more s t u from to count n m apart most first second =
    wrote-more s t u to n m (λ k. byte_of s (from + k)) first
    (wrote-like t u (to + n) m m (λ k. byte_of t (from + n + k)) (λ k. byte_of s (from + (n + k))) second refl
    (λ k below. first.outside (from + n + k) (grind (arith, nat_tests)) ∙ ap (byte_of s) (omega arith)))
