-- Lemmas on the claims of parts, and on what cutting does to a whole list of claims.
use Rattle.std.proofs.Common.{◌≡◌, ℕ, ◌+◌, ◌-◌, ◌^◌, ◌<◌, ◌==◌, Bool, ◌&&◌, ◌||◌, not, nat_le, nat_lt, if◌then◌else◌, min, max, Option, Some, None, Result, Ok, Err, OnOk, OnErr, List, [], ◌∷◌, ◌++◌, refl, ◌∙◌, ap, inl, inr, arith}
use Rattle.std.specs.List.{flat_map}
use Rattle.std.proofs.lemmas.Bool.Decides.{nat_tests}
use Rattle.std.proofs.lemmas.Bool.{cases_Bool}
use Rattle.bm_base.specs.Range.{RangeView, end_of, covers}
use Rattle.address_runs.specs.Runs.{RunOf, run_end, lies_in}
use Rattle.e820_model.specs.Claims.{is_covered_by, claims_of_entries, union_of_claims, after_edit}
use Rattle.e820_model.specs.Map.{claims_of, AreValidClaims}
use Rattle.e820_model.specs.declared.entry.Entry.{Entry}
use Rattle.e820_model.specs.declared.entry.Edit.TheVariants as edit
use Rattle.e820_model.proofs.ClaimLaws.{is_value, claims_append_at, claims_append, are_append}
use Rattle.e820_sanitise.specs.Cuts.{claim_between, claim_between_if_typed, parts_of_claim, is_type_to_cut, type_inside, cut_out, claim_of_entry}

-- a part claims the addresses from `from` to below `until` for its type
between_test : (from until kind x k : ℕ) → claims_of (claim_between from until kind) x k ≡ (nat_le from x && nat_lt x until && k == kind)
between_test from until kind x k =
    elim (cases_Bool (nat_lt from until)) as (λ _. claims_of (claim_between from until kind) x k
    ≡ (nat_le from x && nat_lt x until && k == kind)) [
      | inl some ↦ rw some (grind (arith, nat_tests))
      | inr none ↦ rw none (grind (arith, nat_tests))
    ]

between_if_test : (from until : ℕ) (kind : Option ℕ) (x k : ℕ)
    → claims_of (claim_between_if_typed from until kind) x k ≡ (nat_le from x && nat_lt x until && is_value kind k)
between_if_test from until None x k = grind (arith, nat_tests)
between_if_test from until (Some kind) x k = between_test from until kind x k

-- the parts of a claim claim its own addresses: with the type `inner` inside the range, with the
-- claim's type outside
parts_test : (range : RangeView) (inner : Option ℕ) (r : RunOf ℕ) (x k : ℕ)
    → claims_of (parts_of_claim range inner r) x k ≡ (lies_in r x && (if covers range x then is_value inner k else (k == r.value)))
parts_test range inner r x k =
    let first : List (RunOf ℕ) = claim_between r.base (min range.base (run_end r)) r.value in
    let second : List (RunOf ℕ) = claim_between_if_typed (max range.base r.base) (min (end_of range) (run_end r)) inner in
    let third : List (RunOf ℕ) = claim_between (max (end_of range) r.base) (run_end r) r.value in
    claims_append_at (first ++ second) third x k
    ∙ rw (
      claims_append_at first second x k,
      between_test r.base (min range.base (run_end r)) r.value x k,
      between_if_test (max range.base r.base) (min (end_of range) (run_end r)) inner x k,
      between_test (max (end_of range) r.base) (run_end r) r.value x k,
    )
    (grind (arith, nat_tests))

-- the type of a claim inside the range, after a removal or a change of the type `from`
inside_test : (v from k : ℕ) (to : Option ℕ)
    → is_value (if v == from then to else Some v) k ≡ (if v == from then is_value to k else (k == v))
inside_test v from k to =
    elim (cases_Bool (v == from)) as (λ _. is_value (if v == from then to else Some v) k
    ≡ (if v == from then is_value to k else (k == v))) [
      | inl equal ↦ rw equal refl
      | inr other ↦ rw other refl
    ]

-- one step over a list of claims: removing or changing a type in the first claim
remove_step : (lies in_range rest : Bool) (v kind k : ℕ)
    → ((lies && (if in_range then is_value (if v == kind then None else Some v) k else (k == v))) || (rest && not (in_range && k == kind)))
    ≡ (((lies && k == v) || rest) && not (in_range && k == kind))
remove_step lies in_range rest v kind k = rw (inside_test v kind k None) (grind (arith, nat_tests))

change_step : (lies in_range rest rest_from : Bool) (v from to k : ℕ)
    → ((lies && (if in_range then is_value (if v == from then Some to else Some v) k else (k == v)))
    || (if in_range then ((rest_from && k == to) || (rest && not (k == from))) else rest))
    ≡ (if in_range then ((((lies && from == v) || rest_from) && k == to) || (((lies && k == v) || rest) && not (k == from))) else
    ((lies && k == v) || rest))
change_step lies in_range rest rest_from v from to k = rw (inside_test v from k (Some to)) (grind (arith, nat_tests))

alike : (f g : ℕ → ℕ → Bool) → ((x k : ℕ) → f x k ≡ g x k) → f ≡ g
alike f g same = λ i x k. same x k i

-- the list after a cut has the claims that the definition of the edit gives
pub remove_same : (range : RangeView) (kind : ℕ) (rs : List (RunOf ℕ))
    → claims_of (cut_out range (Some kind) None rs) ≡ after_edit (edit.Remove range kind) (claims_of rs)
remove_same range kind [] = refl
remove_same range kind (r ∷ rs) =
    alike _ _ (λ x k.
    claims_append_at (parts_of_claim range (type_inside (Some kind) None r.value) r) (cut_out range (Some kind) None rs) x k
    ∙ rw (parts_test range (type_inside (Some kind) None r.value) r x k, remove_same range kind rs)
    (remove_step (lies_in r x) (covers range x) (claims_of rs x k) r.value kind k))

pub remove_all_same : (range : RangeView) (rs : List (RunOf ℕ))
    → claims_of (cut_out range None None rs) ≡ after_edit (edit.RemoveAll range) (claims_of rs)
remove_all_same range [] = refl
remove_all_same range (r ∷ rs) =
    alike _ _ (λ x k. claims_append_at (parts_of_claim range None r) (cut_out range None None rs) x k
    ∙ rw (parts_test range None r x k, remove_all_same range rs) (grind (arith, nat_tests)))

pub change_same : (range : RangeView) (from to : ℕ) (rs : List (RunOf ℕ))
    → claims_of (cut_out range (Some from) (Some to) rs) ≡ after_edit (edit.Change range from to) (claims_of rs)
change_same range from to [] = alike _ _ (λ x k. grind (arith, nat_tests))
change_same range from to (r ∷ rs) =
    alike _ _ (λ x k. claims_append_at (parts_of_claim range (type_inside (Some from) (Some to) r.value) r)
    (cut_out range (Some from) (Some to) rs) x k
    ∙ rw (parts_test range (type_inside (Some from) (Some to) r.value) r x k, change_same range from to rs)
    (change_step (lies_in r x) (covers range x) (claims_of rs x k) (claims_of rs x from) r.value from to k))

pub add_same : (range : RangeView) (kind : ℕ) (rs : List (RunOf ℕ))
    → claims_of (rs ++ claim_between range.base (end_of range) kind) ≡ after_edit (edit.Add range kind) (claims_of rs)
add_same range kind rs =
    alike _ _ (λ x k. claims_append_at rs (claim_between range.base (end_of range) kind) x k
    ∙ ap (λ b. claims_of rs x k || b) (between_test range.base (end_of range) kind x k))

-- the claim of an entry is on the addresses that the entry covers, for its type
claim_test : (e : Entry) (x k : ℕ) → claims_of (claim_of_entry e) x k ≡ (is_covered_by e x && nat_lt 0 k && k == e.kind)
claim_test e x k =
    elim (cases_Bool (nat_lt 0 e.kind)) as (λ _. claims_of (claim_of_entry e) x k ≡ (is_covered_by e x && nat_lt 0 k && k == e.kind)) [
      | inl some ↦ rw some (between_test e.addr (e.addr + e.size) e.kind x k ∙ grind (arith, nat_tests))
      | inr none ↦ rw none (grind (arith, nat_tests))
    ]

entries_test : (es : List Entry) (x k : ℕ) → claims_of (flat_map claim_of_entry es) x k ≡ claims_of_entries es x k
entries_test [] x k = refl
entries_test (e ∷ es) x k =
    claims_append_at (claim_of_entry e) (flat_map claim_of_entry es) x k ∙ rw (claim_test e x k, entries_test es x k) refl

pub entries_same : (rs : List (RunOf ℕ)) (es : List Entry)
    → claims_of (rs ++ flat_map claim_of_entry es) ≡ union_of_claims (claims_of rs) (claims_of_entries es)
entries_same rs es =
    claims_append rs (flat_map claim_of_entry es) ∙ (λ i x k. claims_of rs x k || entries_test es x k i)

-- the parts of a valid claim are valid claims: they aren't empty, end below 2^64, and have types
-- above 0
pub AreClaims-claim_between : (from until kind : ℕ) → until < 2 ^ 64 → 0 < kind → kind < 2 ^ 32
    → AreValidClaims (claim_between from until kind)
AreClaims-claim_between from until kind space some small =
    elim (cases_Bool (nat_lt from until)) as (λ _. AreValidClaims (claim_between from until kind)) [
      | inl above ↦
          let lt : from < until = grind (arith, nat_tests) in rw above (omega arith, omega arith, some, small, tt)
      | inr none ↦ rw none tt
    ]

-- if there is a type, it is above 0 and has 32 bits
abbrev pub IsType : Option ℕ → Type 0
IsType None = Unit {0}
IsType (Some kind) = (0 < kind) × (kind < 2 ^ 32)

AreClaims-claim_between_if : (from until : ℕ) (kind : Option ℕ) → until < 2 ^ 64 → IsType kind
    → AreValidClaims (claim_between_if_typed from until kind)
AreClaims-claim_between_if from until None space type = tt
AreClaims-claim_between_if from until (Some kind) space type = AreClaims-claim_between from until kind space type.0 type.1

inside_is_type : (meant instead : Option ℕ) (kind : ℕ) → IsType instead → 0 < kind → kind < 2 ^ 32 → IsType (type_inside meant instead kind)
inside_is_type meant instead kind type some small =
    elim (cases_Bool (is_type_to_cut meant kind)) as (λ _. IsType (type_inside meant instead kind)) [
      | inl one ↦ rw one type
      | inr other ↦ rw other (some, small)
    ]

pub AreClaims-cut_out : (range : RangeView) (meant instead : Option ℕ) (rs : List (RunOf ℕ)) → IsType instead → AreValidClaims rs
    → AreValidClaims (cut_out range meant instead rs)
AreClaims-cut_out range meant instead [] type claims = tt
AreClaims-cut_out range meant instead (r ∷ rs) type claims =
    are_append _ _ (are_append _ _
    (are_append _ _ (AreClaims-claim_between r.base (min range.base (run_end r)) r.value (omega arith) claims.2 claims.3)
    (AreClaims-claim_between_if (max range.base r.base) (min (end_of range) (run_end r)) (type_inside meant instead r.value) (omega arith)
    (inside_is_type meant instead r.value type claims.2 claims.3)))
    (AreClaims-claim_between (max (end_of range) r.base) (run_end r) r.value (omega arith) claims.2 claims.3))
    (AreClaims-cut_out range meant instead rs type claims.4)

-- a list of claims is valid after an edit that either changed it as intended or left it unchanged
pub AreClaims-edited : {T E : Type 0} (r : Result T E) (new changed old : List (RunOf ℕ)) → OnOk r (new ≡ changed) → OnErr r (new ≡ old)
    → AreValidClaims changed → AreValidClaims old → AreValidClaims new
AreClaims-edited (Ok x) new changed old ok err after before = rw ok after
AreClaims-edited (Err e) new changed old ok err after before = rw err before
