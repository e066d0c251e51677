-- Claims, the greatest of them, settling, and lists of runs read as claims.
use Rattle.std.proofs.Common.{◌≡◌, ℕ, zero, suc, ◌+◌, ◌^◌, ◌<◌, ◌≤◌, ◌==◌, Bool, true, false, ◌&&◌, ◌||◌, not, nat_lt, if◌then◌else◌, max, ◌-◌, Option, Some, None, List, [], ◌∷◌, ◌++◌, refl, sym, ◌∙◌, ap, subst, inl, inr, arith}
use Rattle.std.proofs.Math.Bool.{or-false}
use Rattle.std.proofs.lemmas.Bool.Decides.{nat_tests}
use Rattle.std.proofs.lemmas.Bool.{cases_lt, cases_Bool}
use Rattle.std.proofs.Math.Bool.{or_assoc}
use Rattle.address_runs.specs.Runs.{RunOf, DecidesEquality, run_end, lies_in, value_at, AreRuns, IsRunsOf}
use Rattle.address_runs.proofs.RunsLaws.{inside, past_end, none_below, rest_from, runs_of_are_runs, runs_of_function_are_equal}
use Rattle.e820_model.specs.Claims.{Types, Claims, greatest_below, greatest_type, type_of, settled_claims, union_of_claims, claims_of_entries, after_edits, zero_page_claims, with_extension, after_bios_trim, final_claims}
use Rattle.e820_model.specs.Map.{type_unless_zero, kinds, same_kind, map_of, claims_of, AreValidClaims}
use Rattle.e820_model.specs.declared.entry.Entry.{Entry}
use Rattle.e820_model.specs.declared.entry.Edit.{Edit}

-- the greatest type is in the set, unless it is 0
pub among_below : (s : Types) (n : ℕ) → 0 < greatest_below s n → s (greatest_below s n) ≡ true
unfolding greatest_below
among_below s zero some = absurd (omega arith)
among_below s (suc n) some =
    let Found : Bool → Type 0 = λ b. 0 < (if b then n else greatest_below s n) → s (if b then n else greatest_below s n) ≡ true in
    let whole : Found (s n) =
    elim (cases_Bool (s n)) as (λ _. Found (s n)) [
      | inl is_in ↦ let found : Found true = λ _. is_in in subst Found (sym is_in) found
      | inr is_out ↦ let found : Found false = among_below s n in subst Found (sym is_out) found
    ] in
    whole some

-- no type of the set below n is greater
pub above_below : (s : Types) (n k : ℕ) → k < n → s k ≡ true → k ≤ greatest_below s n
unfolding greatest_below
above_below s zero k lt is_in = absurd (omega arith)
above_below s (suc n) k lt is_in =
    elim (cases_Bool (s n)) as (λ _. k ≤ (if s n then n else greatest_below s n)) [
      | inl here ↦ rw here (omega arith)
      | inr not_here ↦ rw not_here (
          elim (cases_lt k n) as (λ _. k ≤ greatest_below s n) [
            | inl lower ↦ above_below s n k lower is_in
            | inr ge ↦ let same : k ≡ n = omega arith in absurd (cc (sym is_in ∙ ap s same ∙ not_here))
          ])
    ]

pub below_small : (s : Types) (n : ℕ) → greatest_below s n ≤ n
unfolding greatest_below
below_small s zero = omega arith
below_small s (suc n) =
    let rest : greatest_below s n ≤ n = below_small s n in
    elim (cases_Bool (s n)) as (λ _. (if s n then n else greatest_below s n) ≤ suc n) [
      | inl here ↦ rw here (omega arith)
      | inr not_here ↦ rw not_here (omega arith)
    ]

-- the greatest type below n is below n
pub lower_than : (s : Types) (n : ℕ) → 0 < greatest_below s n → greatest_below s n < n
unfolding greatest_below
lower_than s zero some = absurd (omega arith)
lower_than s (suc n) some =
    let rest : greatest_below s n ≤ n = below_small s n in
    elim (cases_Bool (s n)) as (λ _. (if s n then n else greatest_below s n) < suc n) [
      | inl here ↦ rw here (omega arith)
      | inr not_here ↦ rw not_here (omega arith)
    ]

-- m is the greatest type below n if m is in the set, or is 0, and no member of the set below n is
-- greater
pub below_is : (s : Types) (n m : ℕ) → m < n → (0 < m → s m ≡ true) → ((k : ℕ) → m < k → k < n → s k ≡ false) → greatest_below s n ≡ m
below_is s n m small is_in none =
    let at_least : m ≤ greatest_below s n =
    elim (cases_lt 0 m) as (λ _. m ≤ greatest_below s n) [ inl some ↦ above_below s n m small (is_in some) | inr ge ↦ omega arith ] in
    elim (cases_lt m (greatest_below s n)) as (λ _. greatest_below s n ≡ m) [
      | inl higher ↦
          let some : 0 < greatest_below s n = omega arith in
          let found : s (greatest_below s n) ≡ true = among_below s n some in
          let lower : greatest_below s n < n = lower_than s n some in
          absurd (cc (sym found ∙ none (greatest_below s n) higher lower))
      | inr ge ↦ omega arith
    ]

-- the greatest type of a set: its properties, from those of `greatest_below`
pub greatest_among : (s : Types) → 0 < greatest_type s → s (greatest_type s) ≡ true
unfolding greatest_type
greatest_among s some = among_below s (2 ^ 32) some

pub greatest_above : (s : Types) (k : ℕ) → k < 2 ^ 32 → s k ≡ true → k ≤ greatest_type s
unfolding greatest_type
greatest_above s k small is_in = above_below s (2 ^ 32) k small is_in

pub greatest_small : (s : Types) → greatest_type s < 2 ^ 32
unfolding greatest_type
greatest_small s =
    elim (cases_lt 0 (greatest_below s (2 ^ 32))) as (λ _. greatest_below s (2 ^ 32) < 2 ^ 32) [
      | inl some ↦ lower_than s (2 ^ 32) some
      | inr ge ↦ omega arith
    ]

pub greatest_is : (s : Types) (m : ℕ) → m < 2 ^ 32 → (0 < m → s m ≡ true) → ((k : ℕ) → m < k → k < 2 ^ 32 → s k ≡ false)
    → greatest_type s ≡ m
unfolding greatest_type
greatest_is s m small is_in none = below_is s (2 ^ 32) m small is_in none

-- settling keeps the type of every address
pub settled_keeps : (c : Claims) (x : ℕ) → type_of (settled_claims c) x ≡ type_of c x
settled_keeps c x =
    greatest_is (settled_claims c x) (type_of c x) (greatest_small (c x)) (λ some. grind (arith, nat_tests))
    (λ k higher small. grind (arith, nat_tests))

-- an address has at most one settled claim
pub settled_one : (c : Claims) (x j k : ℕ) → settled_claims c x j ≡ true → settled_claims c x k ≡ true → j ≡ k
settled_one c x j k is_j is_k = grind (arith, nat_tests)

-- if an address has at most one claim, it has at most one after the trim
trim_one : (low high one : Bool) (is_j is_k : Bool) (j k : ℕ) → (is_j ≡ true → is_k ≡ true → j ≡ k) → (one ≡ true → is_j ≡ true → j ≡ 1)
    → (one ≡ true → is_k ≡ true → k ≡ 1)
    → ((if low then ((one && j == 2) || (is_j && not (j == 1))) else is_j) && not (high && j == 1)) ≡ true
    → ((if low then ((one && k == 2) || (is_k && not (k == 1))) else is_k) && not (high && k == 1)) ≡ true
    → j ≡ k
trim_one low high one is_j is_k j k same one_j one_k at_j at_k = grind (arith, nat_tests, same, one_j, one_k)

pub bios_trimmed_one : (c : Claims) (x j k : ℕ) → ((i l : ℕ) → c x i ≡ true → c x l ≡ true → i ≡ l) → after_bios_trim c x j ≡ true
    → after_bios_trim c x k ≡ true → j ≡ k
bios_trimmed_one c x j k one at_j at_k =
    trim_one _ _ (c x 1) (c x j) (c x k) j k (one j k) (λ a b. sym (one 1 j a b)) (λ a b. sym (one 1 k a b)) at_j at_k

pub finished_one : (entries extension : List Entry) (edits : List Edit) (added : List Entry) (x j k : ℕ)
    → final_claims entries extension edits added x j ≡ true → final_claims entries extension edits added x k ≡ true → j ≡ k
finished_one entries extension edits added x j k at_j at_k =
    let before : Claims = union_of_claims (after_edits edits (with_extension extension (zero_page_claims entries)))
    (claims_of_entries added) in
    bios_trimmed_one (settled_claims before) x j k (settled_one before x) at_j at_k

-- if no entries of an EFI map are added, the final claims are those of the table after the edits,
-- settled and trimmed
pub none_added : (entries extension : List Entry) (edits : List Edit)
    → final_claims entries extension edits []
    ≡ after_bios_trim (settled_claims (after_edits edits (with_extension extension (zero_page_claims entries))))
none_added entries extension edits =
    let before : Claims = after_edits edits (with_extension extension (zero_page_claims entries)) in
    let same : union_of_claims before (claims_of_entries []) ≡ before = λ i x k. or-false (before x k) i in
    ap (λ (c : Claims). after_bios_trim (settled_claims c)) same

-- lists of runs read as claims

top_step : (lies : Bool) (value rest : ℕ) (among : ℕ → Bool) → (0 < rest → among rest ≡ true) → 0 < max (if lies then value else 0) rest
    → ((lies && max (if lies then value else 0) rest == value) || among (max (if lies then value else 0) rest)) ≡ true
top_step true value rest among is_rest some =
    elim (cases_lt value rest) as (λ _. ((max value rest == value) || among (max value rest)) ≡ true) [
      | inl lower ↦ let is : max value rest ≡ rest = omega arith in let found : among rest ≡ true = is_rest (omega arith) in rw (is, found)
          (grind (arith, nat_tests))
      | inr ge ↦ let is : max value rest ≡ value = omega arith in rw is (grind (arith, nat_tests))
    ]
top_step false value rest among is_rest some =
    let is : max 0 rest ≡ rest = omega arith in let found : among rest ≡ true = is_rest (omega arith) in rw (is, found) refl

above_step : (lies : Bool) (value rest k : ℕ) → max (if lies then value else 0) rest < k → ((lies && k == value) || false) ≡ false
above_step true value rest k higher = grind (arith, nat_tests)
above_step false value rest k higher = refl

-- whether one of two lists makes a claim, for an address and a type
pub claims_append_at : (rs ss : List (RunOf ℕ)) (x k : ℕ) → claims_of (rs ++ ss) x k ≡ (claims_of rs x k || claims_of ss x k)
claims_append_at [] ss x k = refl
claims_append_at (r ∷ rs) ss x k =
    let rest : claims_of (rs ++ ss) x k ≡ (claims_of rs x k || claims_of ss x k) = claims_append_at rs ss x k in
    rw rest (sym (or_assoc (lies_in r x && k == r.value) (claims_of rs x k) (claims_of ss x k)))

-- the greatest type of the runs that contain an address, or 0
abbrev pub top : List (RunOf ℕ) → ℕ → ℕ
top [] x = 0
top (r ∷ rs) x = max (if lies_in r x then r.value else 0) (top rs x)

-- the type of an address is the greatest type of the runs that contain it
top_small : (rs : List (RunOf ℕ)) (x : ℕ) → AreValidClaims rs → top rs x < 2 ^ 32
top_small [] x claims = omega arith
top_small (r ∷ rs) x claims =
    let rest : top rs x < 2 ^ 32 = top_small rs x claims.4 in
    elim (cases_Bool (lies_in r x)) as
    (λ _. top (r ∷ rs) x < 2 ^ 32) [ inl here ↦ rw here (omega arith) | inr not_here ↦ rw not_here (omega arith) ]

top_among : (rs : List (RunOf ℕ)) (x : ℕ) → 0 < top rs x → claims_of rs x (top rs x) ≡ true
top_among [] x some = absurd (omega arith)
top_among (r ∷ rs) x some =
    let rest : 0 < top rs x → claims_of rs x (top rs x) ≡ true = top_among rs x in
    top_step (lies_in r x) r.value (top rs x) (λ k. claims_of rs x k) rest some

top_above : (rs : List (RunOf ℕ)) (x k : ℕ) → top rs x < k → claims_of rs x k ≡ false
top_above [] x k higher = refl
top_above (r ∷ rs) x k higher =
    let rest : claims_of rs x k ≡ false = top_above rs x k (omega arith) in
    rw rest (above_step (lies_in r x) r.value (top rs x) k higher)

pub type_top : (rs : List (RunOf ℕ)) (x : ℕ) → AreValidClaims rs → type_of (claims_of rs) x ≡ top rs x
type_top rs x claims =
    greatest_is (claims_of rs x) (top rs x) (top_small rs x claims) (top_among rs x) (λ k higher small. top_above rs x k higher)

-- two concatenated lists make the claims of both
pub claims_append : (rs ss : List (RunOf ℕ)) → claims_of (rs ++ ss) ≡ union_of_claims (claims_of rs) (claims_of ss)
claims_append rs ss = λ i x k. claims_append_at rs ss x k i

pub are_append : (rs ss : List (RunOf ℕ)) → AreValidClaims rs → AreValidClaims ss → AreValidClaims (rs ++ ss)
are_append [] ss first second = second
are_append (r ∷ rs) ss first second = (first.0, first.1, first.2, first.3, are_append rs ss first.4 second)

-- no run contains 2^64 - 1 or a higher address, so nothing claims such an address
pub top_past : (rs : List (RunOf ℕ)) (x : ℕ) → AreValidClaims rs → 2 ^ 64 - 1 ≤ x → top rs x ≡ 0
top_past [] x claims far = refl
top_past (r ∷ rs) x claims far =
    let past : lies_in r x ≡ false = past_end r x (omega arith) in
    rw (past, top_past rs x claims.4 far) (omega arith)

pub none_past : (rs : List (RunOf ℕ)) (x : ℕ) → AreValidClaims rs → 2 ^ 64 - 1 ≤ x → kinds (claims_of rs) x ≡ None
none_past rs x claims far =
    let none : type_of (claims_of rs) x ≡ 0 = type_top rs x claims ∙ top_past rs x claims far in
    rw none refl

-- `same_kind` decides whether two types are equal
pub same_kind_decides_equality : DecidesEquality same_kind
same_kind_decides_equality = record { true_is_equal = λ a b h. grind (arith, nat_tests); equal_is_true = λ a b h. grind (arith, nat_tests) }

-- the map of claims that end below 2^64 is the list of runs of their types
pub map_runs : (c : Claims) → ((x : ℕ) → 2 ^ 64 ≤ x → kinds c x ≡ None) → IsRunsOf (kinds c) (map_of c)
unfolding map_of
map_runs c none = runs_of_are_runs same_kind same_kind_decides_equality (kinds c) none

-- every list of the runs of the claims' types is the map
pub map_unique : (rs runs : List (RunOf ℕ)) → AreValidClaims rs → IsRunsOf (kinds (claims_of rs)) runs → runs ≡ map_of (claims_of rs)
map_unique rs runs claims known =
    runs_of_function_are_equal (kinds (claims_of rs)) runs (map_of (claims_of rs)) known
    (map_runs (claims_of rs) (λ x far. none_past rs x claims (omega arith)))

-- canonical lists as claims

abbrev pub is_value : Option ℕ → ℕ → Bool
is_value None k = false
is_value (Some v) k = k == v

-- a canonical list claims at an address the value that it gives there, and nothing else
pub claims_value : (rs : List (RunOf ℕ)) (x k : ℕ) → AreRuns rs → claims_of rs x k ≡ is_value (value_at rs x) k
claims_value [] x k runs = refl
claims_value (r ∷ rs) x k runs =
    let rest : claims_of rs x k ≡ is_value (value_at rs x) k = claims_value rs x k runs.2 in
    elim (cases_Bool (lies_in r x)) as (λ _. claims_of (r ∷ rs) x k ≡ is_value (value_at (r ∷ rs) x) k) [
      | inl here ↦
          let lt : x < r.base + r.size = grind (arith, nat_tests) in
          let none : value_at rs x ≡ None = none_below (run_end r) x rs runs.2 (rest_from r rs runs) lt in
          rw (here, rest, none) (or-false (k == r.value))
      | inr not_here ↦ rw (not_here, rest) refl
    ]

is_value_kind : (t k : ℕ) → is_value (type_unless_zero t) k ≡ (nat_lt 0 k && k == t)
is_value_kind t k =
    elim (cases_Bool (t == 0)) as (λ _. is_value (type_unless_zero t) k ≡ (nat_lt 0 k && k == t)) [
      | inl none ↦ rw none (grind (arith, nat_tests))
      | inr some ↦ rw some (grind (arith, nat_tests))
    ]

settled_at : (c : Claims) (rs : List (RunOf ℕ)) (x k : ℕ) → IsRunsOf (kinds c) rs → claims_of rs x k ≡ settled_claims c x k
settled_at c rs x k known = claims_value rs x k known.runs ∙ ap (λ v. is_value v k) (known.each x) ∙ is_value_kind (type_of c x) k

kind_of : (t k : ℕ) → type_unless_zero t ≡ Some k → t < 2 ^ 32 → (0 < k) × (k < 2 ^ 32)
kind_of t k found small =
    elim (cases_Bool (t == 0)) as (λ _. (0 < k) × (k < 2 ^ 32)) [
      | inl none ↦ let nothing : type_unless_zero t ≡ None = rw none refl in absurd (cc (nothing, found))
      | inr some ↦
          let is : type_unless_zero t ≡ Some t = rw some refl in
          let same : t ≡ k = cc (is, found) in
          let above : 0 < t = grind (arith, nat_tests) in
          (omega arith, omega arith)
    ]

-- what the rest of a canonical list gives, the whole list gives too
value_rest : (r : RunOf ℕ) (rs : List (RunOf ℕ)) (x k : ℕ) → AreRuns (r ∷ rs) → value_at rs x ≡ Some k → value_at (r ∷ rs) x ≡ Some k
value_rest r rs x k runs found =
    elim (cases_lt x (run_end r)) as (λ _. value_at (r ∷ rs) x ≡ Some k) [
      | inl lt ↦ absurd (cc (found, none_below (run_end r) x rs runs.2 (rest_from r rs runs) lt))
      | inr ge ↦ rw (past_end r x ge) found
    ]

-- the runs of a map, read as claims, are the settled claims
pub settled_runs : (c : Claims) (rs : List (RunOf ℕ)) → IsRunsOf (kinds c) rs → claims_of rs ≡ settled_claims c
settled_runs c rs known = λ i x k. settled_at c rs x k known i

-- a type that the map gives is above 0 and below 2^32
pub kind_small : (c : Claims) (x k : ℕ) → kinds c x ≡ Some k → (0 < k) × (k < 2 ^ 32)
kind_small c x k found =
    let small : type_of c x < 2 ^ 32 = greatest_small (c x) in
    kind_of (type_of c x) k found small

-- a canonical list of types at addresses below 2^64 - 1 makes valid claims
types_claims : (rs : List (RunOf ℕ)) → AreRuns rs → ((x k : ℕ) → value_at rs x ≡ Some k → (x < 2 ^ 64 - 1) × (0 < k) × (k < 2 ^ 32))
    → AreValidClaims rs
types_claims [] runs types = tt
types_claims (r ∷ rs) runs types =
    let lies : lies_in r (r.base + r.size - 1) ≡ true = inside r (r.base + r.size - 1) (omega arith) (omega arith) in
    let given : value_at (r ∷ rs) (r.base + r.size - 1) ≡ Some r.value = rw lies refl in
    let known : (r.base + r.size - 1 < 2 ^ 64 - 1) × (0 < r.value) × (r.value < 2 ^ 32) = types (r.base + r.size - 1) r.value given in
    let rest : (x k : ℕ) → value_at rs x ≡ Some k → (x < 2 ^ 64 - 1) × (0 < k) × (k < 2 ^ 32) =
    λ x k found. types x k (value_rest r rs x k runs found) in
    (runs.0, omega arith, known.1, known.2, types_claims rs runs.2 rest)

-- the runs of a map that ends below 2^64 are valid claims
pub runs_claims : (c : Claims) (rs : List (RunOf ℕ)) → IsRunsOf (kinds c) rs → ((x : ℕ) → 2 ^ 64 - 1 ≤ x → kinds c x ≡ None)
    → AreValidClaims rs
runs_claims c rs known none =
    types_claims rs known.runs (λ x k found.
    let here : kinds c x ≡ Some k = sym (known.each x) ∙ found in
    let small : (0 < k) × (k < 2 ^ 32) = kind_small c x k here in (
      elim (cases_lt x (2 ^ 64 - 1)) as
          (λ _. x < 2 ^ 64 - 1) [ inl lt ↦ lt | inr ge ↦ absurd (cc (sym here ∙ none x ge)) ],
      small.0,
      small.1,
    ))
