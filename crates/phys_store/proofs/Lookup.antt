-- Lemmas on the bytes of extents that don't touch, and on what a search finds.
use Rattle.std.proofs.Common.{◌≡◌, ℕ, zero, suc, ◌+◌, ◌-◌, ◌^◌, ◌<◌, ◌≤◌, true, false, not, cond, Some, None, List, [], ◌∷◌, length, get_or, drop, map, refl, sym, ◌∙◌, ap, subst, arith, inl, inr, nat_lt}
use Rattle.std.proofs.lemmas.Bool.{cases_Bool, cases_lt, false≢true}
use Rattle.std.proofs.lemmas.Bool.Decides.{nat_tests}
use Rattle.std.proofs.lemmas.List.{length-map, get_or-map, length-drop}
use Rattle.std.proofs.lemmas.List.Sums.{prefix_len-le-length}
use Rattle.std.proofs.lemmas.List.Quantifiers.{position-Some}
use Rattle.std.proofs.lemmas.Option.{none-some}
use Rattle.std.specs.List.{position, position_or_len}
use Rattle.phys_store.specs.declared.extents.Extent.{Extent}
use Rattle.phys_store.specs.Bytes.{ExtentView, end_of_extent, is_in_extent, byte_of, is_prepared_at, ArePrepared}
use Rattle.phys_store.specs.Extents.{extent_view, AreSortedAndApart}

-- an address inside an extent, below it and above it
pub is_in_extent-in : (p : ExtentView) (x : ℕ) → p.base ≤ x → x < end_of_extent p → is_in_extent p x ≡ true
is_in_extent-in p x low high = grind (arith, nat_tests)

pub is_in_extent-below : (p : ExtentView) (x : ℕ) → x < p.base → is_in_extent p x ≡ false
is_in_extent-below p x below = grind (arith, nat_tests)

pub is_in_extent-above : (p : ExtentView) (x : ℕ) → end_of_extent p ≤ x → is_in_extent p x ≡ false
is_in_extent-above p x above = grind (arith, nat_tests)

pub is_in_extent-low : (p : ExtentView) (x : ℕ) → is_in_extent p x ≡ true → p.base ≤ x
is_in_extent-low p x lies = grind (arith, nat_tests)

pub is_in_extent-high : (p : ExtentView) (x : ℕ) → is_in_extent p x ≡ true → x < end_of_extent p
is_in_extent-high p x lies = grind (arith, nat_tests)

-- nothing is prepared below the first extent
pub ready-below : (e : ℕ) (ps : List ExtentView) (x : ℕ) → AreSortedAndApart e ps → x < e → is_prepared_at ps x ≡ false
ready-below e [] x apart below = refl
ready-below e (p ∷ ps) x apart below =
    let low : e ≤ p.base = apart.0 in
    rw (is_in_extent-below p x (omega arith)) (ready-below (end_of_extent p + 1) ps x apart.3 (omega arith))

-- an address that isn't prepared reads as 0
pub byte-unready : (ps : List ExtentView) (x : ℕ) → is_prepared_at ps x ≡ false → byte_of ps x ≡ 0
byte-unready [] x none = refl
byte-unready (p ∷ ps) x none = elim (cases_Bool (is_in_extent p x)) [
  | inl lies ↦ absurd (false≢true (sym none ∙ rw lies refl))
  | inr out ↦ rw out (byte-unready ps x (sym (rw out refl) ∙ none))
]

-- each extent begins at or above the bound, has bytes, and ends in the address space
pub placed : (e : ℕ) (ps : List ExtentView) (i : ℕ) (p : ExtentView) → AreSortedAndApart e ps → i < length ps → get_or ps i p ≡ p →
    (e ≤ p.base) × (0 < length p.bytes) × (end_of_extent p < 2 ^ 64)
placed e [] i p apart count there = absurd (omega arith)
placed e (q ∷ ps) zero p apart count there =
    subst (λ (r : ExtentView). (e ≤ r.base) × (0 < length r.bytes) × (end_of_extent r < 2 ^ 64)) there (apart.0, apart.1, apart.2)
placed e (q ∷ ps) (suc i) p apart count there =
    let rest = placed (end_of_extent q + 1) ps i p apart.3 (omega arith) there in
    (omega (arith, rest.0, apart.0), rest.1, rest.2)

-- the address after an extent isn't prepared
pub unready-past : (e : ℕ) (ps : List ExtentView) (i : ℕ) (p : ExtentView) → AreSortedAndApart e ps → i < length ps → get_or ps i p ≡ p →
    is_prepared_at ps (end_of_extent p) ≡ false
unready-past e [] i p apart count there = absurd (omega arith)
unready-past e (q ∷ ps) zero p apart count there =
    subst (λ (r : ExtentView). is_prepared_at (q ∷ ps) (end_of_extent r) ≡ false) there
    (rw (is_in_extent-above q (end_of_extent q) (omega arith))
    (ready-below (end_of_extent q + 1) ps (end_of_extent q) apart.3 (omega arith)))
unready-past e (q ∷ ps) (suc i) p apart count there =
    let rest = placed (end_of_extent q + 1) ps i p apart.3 (omega arith) there in
    rw (is_in_extent-above q (end_of_extent p) (omega (arith, rest.0)))
    (unready-past (end_of_extent q + 1) ps i p apart.3 (omega arith) there)

-- a prepared range that begins in an extent is entirely in it
pub whole : (e : ℕ) (ps : List ExtentView) (i : ℕ) (p : ExtentView) (a n : ℕ) → AreSortedAndApart e ps → i < length ps → get_or ps i p ≡ p →
    p.base ≤ a → a < end_of_extent p → ArePrepared ps a n → a + n ≤ end_of_extent p
whole e ps i p a n apart count there low high ready =
    elim (cases_lt (end_of_extent p) (a + n)) [
      | inl beyond ↦ absurd (false≢true (sym (unready-past e ps i p apart count there) ∙ ready (end_of_extent p) (omega arith) beyond))
      | inr ends ↦ ends
    ]

-- an address in an extent is prepared, and its byte is that of the extent
pub read-at : (e : ℕ) (ps : List ExtentView) (i : ℕ) (p : ExtentView) (x : ℕ) → AreSortedAndApart e ps → i < length ps → get_or ps i p ≡ p →
    p.base ≤ x → x < end_of_extent p → (byte_of ps x ≡ get_or p.bytes (x - p.base) 0) × (is_prepared_at ps x ≡ true)
read-at e [] i p x apart count there low high = absurd (omega arith)
read-at e (q ∷ ps) zero p x apart count there low high =
    subst (λ (r : ExtentView). (byte_of (r ∷ ps) x ≡ get_or p.bytes (x - p.base) 0) × (is_prepared_at (r ∷ ps) x ≡ true)) (sym there)
    (rw (is_in_extent-in p x low high) (refl, refl))
read-at e (q ∷ ps) (suc i) p x apart count there low high =
    let rest = placed (end_of_extent q + 1) ps i p apart.3 (omega arith) there in
    rw (is_in_extent-above q x (omega (arith, rest.0))) (read-at (end_of_extent q + 1) ps i p x apart.3 (omega arith) there low high)

-- the extent with index `i` has the n bytes from address `a` on
pub record Holds (es : List Extent) (a n i : ℕ) (e : Extent) : Type 0 where
  pub count : i < length (map extent_view es)
  pub there : get_or (map extent_view es) i (extent_view e) ≡ extent_view e
  pub low : e.base ≤ a
  pub inner : a < end_of_extent (extent_view e)
  pub high : a + n ≤ end_of_extent (extent_view e)
  pub small : end_of_extent (extent_view e) < 2 ^ 64
  pub long : length (drop e.front e.bytes.items) ≡ length e.bytes.items - e.front
  pub most : length e.bytes.items < 2 ^ 64
  pub len : length e.bytes.items ≡ e.bytes.len
  -- and they are in its `bytes`, after the spare room
  pub room : e.front + (a - e.base) + n ≤ length e.bytes.items

-- the extent that the search finds has the whole of a prepared range
pub holds : (es : List Extent) (a n i : ℕ) (e : Extent) → AreSortedAndApart 0 (map extent_view es) → ArePrepared (map extent_view es) a n →
    position (λ d. is_in_extent (extent_view d) a) es ≡ Some i → e ≡ get_or es i e → Holds es a n i e
holds es a n i e apart ready found is =
    let at = position-Some (λ d. is_in_extent (extent_view d) a) es i e found in
    let count : i < length (map extent_view es) = rw length-map at.0 in
    let there : get_or (map extent_view es) i (extent_view e) ≡ extent_view e =
    get_or-map extent_view es i e (extent_view e) at.0 ∙ ap extent_view (sym is) in
    let lies : is_in_extent (extent_view e) a ≡ true = rw (← is) at at.1 in
    let low = is_in_extent-low (extent_view e) a lies in
    let high = is_in_extent-high (extent_view e) a lies in
    let ends = whole 0 (map extent_view es) i (extent_view e) a n apart count there low high ready in
    let long = length-drop e.front e.bytes.items in
    record {
      count = count;
      there = there;
      low = low;
      inner = high;
      high = ends;
      small = (placed 0 (map extent_view es) i (extent_view e) apart count there).2;
      long = long;
      most = omega (arith, e.bytes.ok.0);
      len = omega (arith, e.bytes.ok.0);
      room = omega (arith, low, high, ends, long);
    }

-- the extent that the search finds has the one byte at the address
pub holds_one : (es : List Extent) (a i : ℕ) (e : Extent) → AreSortedAndApart 0 (map extent_view es) →
    position (λ d. is_in_extent (extent_view d) a) es ≡ Some i → e ≡ get_or es i e → Holds es a 0 i e
holds_one es a i e apart found is = holds es a 0 i e apart (λ x low high. absurd (omega arith)) found is

-- if no extent has the address, it isn't prepared
none_passes : (es : List Extent) (x : ℕ) → position_or_len (λ d. is_in_extent (extent_view d) x) es ≡ length es
    → is_prepared_at (map extent_view es) x ≡ false
none_passes [] x all = refl
none_passes (e ∷ es) x all = elim (cases_Bool (is_in_extent (extent_view e) x)) [
  | inl lies ↦ let some : 0 ≡ suc (length es) = sym (rw lies refl) ∙ all in absurd (omega arith)
  | inr out ↦ let more : 1 + position_or_len (λ d. is_in_extent (extent_view d) x) es ≡ suc (length es) = sym (rw out refl) ∙ all in
      rw out (none_passes es x (omega arith))
]

none_cond : (m n : ℕ) → m ≤ n → cond (nat_lt m n) (Some m) None ≡ None → m ≡ n
none_cond m n most none =
    elim (cases_lt m n) [
      | inl below ↦ let some : nat_lt m n ≡ true = grind (arith, nat_tests) in
          absurd (none-some m (sym none ∙ ap (λ b. cond b (Some m) None) some))
      | inr above ↦ omega arith
    ]

-- if the search finds nothing, the address isn't prepared
pub none-found : (es : List Extent) (x : ℕ) → position (λ d. is_in_extent (extent_view d) x) es ≡ None
    → is_prepared_at (map extent_view es) x ≡ false
none-found es x none =
    none_passes es x (none_cond _ _ (prefix_len-le-length (λ d. not (is_in_extent (extent_view d) x)) es) none)

-- if the search finds nothing, a prepared range that begins at the address is empty
pub none_ready : (es : List Extent) (a n : ℕ) → position (λ d. is_in_extent (extent_view d) a) es ≡ None
    → ArePrepared (map extent_view es) a n → n ≡ 0
none_ready es a zero none ready = refl
none_ready es a (suc n) none ready =
    absurd (false≢true (sym (none-found es a none) ∙ ready a (omega arith) (omega arith)))

-- a prepared address is below 2^64 - 1
ready-small : (e : ℕ) (ps : List ExtentView) (x : ℕ) → AreSortedAndApart e ps → is_prepared_at ps x ≡ true → x + 1 < 2 ^ 64
ready-small e [] x apart ready = absurd (false≢true ready)
ready-small e (p ∷ ps) x apart ready = elim (cases_Bool (is_in_extent p x)) [
  | inl lies ↦ let high = is_in_extent-high p x lies in omega (arith, high, apart.2)
  | inr out ↦ ready-small (end_of_extent p + 1) ps x apart.3 (sym (rw out refl) ∙ ready)
]

pub prepared-small : (ps : List ExtentView) (a n : ℕ) → AreSortedAndApart 0 ps → ArePrepared ps a n → 0 < n → a + n < 2 ^ 64
prepared-small ps a n apart ready some =
    let last = ready-small 0 ps (a + n - 1) apart (ready (a + n - 1) (omega arith) (omega arith)) in
    omega (arith, last)
