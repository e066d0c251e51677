-- Nodes number the domains in the order in which they are first named.
use Rattle.std.proofs.Common.{◌≡◌, ◌≢◌, ℕ, ◌+◌, ◌<◌, ◌≤◌, ◌==◌, true, false, ◌||◌, List, [], ◌∷◌, ◌++◌, fold, length, get_or, length-append, append_assoc, refl, sym, ◌∙◌, ap, subst, inl, inr, le_of_suc-le-suc, lt_of_not-le, arith}
use Rattle.std.proofs.lemmas.Bool.{cases_lt, cases_Bool, eq-eqb, lt-ltb, ne_eqb, or_right, true≢false}
use Rattle.std.proofs.lemmas.Bool.Decides.{nat_tests}
use Rattle.std.proofs.lemmas.List.{append-nil, get_or_append_left}
use Rattle.std.proofs.lemmas.List.Folds.{list_any-append, list_any_at}
use Rattle.std.proofs.lemmas.List.Sums.{fold-append, position_or_len_is}
use Rattle.std.proofs.Math.Seq.{get_or-append_seam}
use Rattle.srat_nodes.specs.Domains.{is_named_domain, with_domain, domains_once, node_of_domain}
use Rattle.srat_nodes.proofs.MeaningLaws.{HasPlace, place_of, node_below}

-- domains that are named later come after those in the list
abbrev IsExtended : List ℕ → List ℕ → Type 0
IsExtended domains names = (more : List ℕ) × (fold with_domain domains names ≡ domains ++ more)

extended : (domains names : List ℕ) → IsExtended domains names
extended domains [] = ([], sym (append-nil domains))
extended domains (d ∷ ds) = elim (cases_Bool (is_named_domain domains d)) as (λ _. IsExtended domains (d ∷ ds)) [
  | inl named ↦ rw named (extended domains ds)
  | inr new ↦
      let later = extended (domains ++ d ∷ []) ds in
      (d ∷ later.0, rw new (later.1 ∙ append_assoc domains (d ∷ []) later.0))
]

-- each named domain is in the list, and no other
named_with : (domains : List ℕ) (d e : ℕ) → is_named_domain (with_domain domains d) e ≡ (is_named_domain domains e || (d == e))
named_with domains d e = elim (cases_Bool (is_named_domain domains d)) as
    (λ _. is_named_domain (with_domain domains d) e ≡ (is_named_domain domains e || (d == e))) [
      | inl named ↦ rw named (elim (cases_Bool (d == e)) as (λ _. is_named_domain domains e ≡ (is_named_domain domains e || (d == e))) [
        | inl same ↦
            let is : d ≡ e = grind (arith, nat_tests) in
            rw (same, subst (λ (c : ℕ). is_named_domain domains c ≡ true) is named) refl
        | inr other ↦ grind arith
      ])
      | inr new ↦ rw (new, list_any-append (λ (c : ℕ). c == e) domains (d ∷ [])) (grind arith)
    ]

named_all : (domains names : List ℕ) (e : ℕ)
    → is_named_domain (fold with_domain domains names) e ≡ (is_named_domain domains e || is_named_domain names e)
named_all domains [] e = grind arith
named_all domains (d ∷ ds) e = rw (named_all (with_domain domains d) ds e, named_with domains d e) (grind arith)

pub named_exactly : (names : List ℕ) (d : ℕ) → is_named_domain (domains_once names) d ≡ is_named_domain names d
unfolding domains_once
named_exactly names d = named_all [] names d

-- a domain keeps its node if more are appended, and a new one comes after all others
is_named_at : (domains : List ℕ) (i d : ℕ) → i < length domains → get_or domains i 0 ≡ d → is_named_domain domains d ≡ true
is_named_at domains i d within is = list_any_at (λ e. e == d) domains i 0 within (eq-eqb _ d is)

first_place : (domains : List ℕ) (i d : ℕ) → i < length domains → get_or domains i 0 ≡ d
    → ((k : ℕ) → k < i → (get_or domains k 0 == d) ≡ false) → node_of_domain domains d ≡ i
first_place domains i d within is none =
    let at = position_or_len_is (λ e. e == d) domains i 0 (omega arith) none (λ less. eq-eqb _ d is) in
    rw (at, lt-ltb i (length domains) within) refl

node_stays : (domains more : List ℕ) (d : ℕ) → is_named_domain domains d ≡ true
    → node_of_domain (domains ++ more) d ≡ node_of_domain domains d
node_stays domains more d named =
    let place : HasPlace domains d = place_of domains d named in
    let below : node_of_domain domains d < length domains = place.below in
    first_place (domains ++ more) (node_of_domain domains d) d (omega (arith, below, length-append domains more))
    (get_or_append_left domains more 0 (node_of_domain domains d) below ∙ place.there)
    (λ k less. ap (λ (c : ℕ). c == d) (get_or_append_left domains more 0 k (omega (arith, less, below))) ∙ place.first k less)

node_after : (domains more : List ℕ) (d : ℕ) → is_named_domain domains d ≡ false → is_named_domain (domains ++ more) d ≡ true
    → length domains ≤ node_of_domain (domains ++ more) d
node_after domains more d new named = le_of_suc-le-suc (lt_of_not-le (λ before.
    let node : ℕ = node_of_domain (domains ++ more) d in
    true≢false (sym (is_named_at domains node d before
    (sym (get_or_append_left domains more 0 node before) ∙ (place_of (domains ++ more) d named).there)) ∙ new)))

-- the node of each domain is its index
abbrev ArePlaces : List ℕ → Type 0
ArePlaces domains = (n : ℕ) → n < length domains → node_of_domain domains (get_or domains n 0) ≡ n

places_with : (domains : List ℕ) (d : ℕ) → ArePlaces domains → ArePlaces (with_domain domains d)
places_with domains d places = elim (cases_Bool (is_named_domain domains d)) as (λ _. ArePlaces (with_domain domains d)) [
  | inl named ↦ rw named places
  | inr new ↦ rw new (λ n within. elim (cases_lt n (length domains)) as
      (λ _. node_of_domain (domains ++ d ∷ []) (get_or (domains ++ d ∷ []) n 0) ≡ n) [
        | inl before ↦
            rw (get_or_append_left domains (d ∷ []) 0 n before)
            (node_stays domains (d ∷ []) (get_or domains n 0) (is_named_at domains n (get_or domains n 0) before refl) ∙ places n before)
        | inr after ↦
            let long : length (domains ++ d ∷ []) ≡ length domains + 1 = length-append domains (d ∷ []) in
            let last : n ≡ length domains = omega (arith, within, after, long) in
            let is : get_or (domains ++ d ∷ []) n 0 ≡ d =
            ap (λ (k : ℕ). get_or (domains ++ d ∷ []) k 0) last ∙ get_or-append_seam domains d [] 0 in
            let named : is_named_domain (domains ++ d ∷ []) d ≡ true = is_named_at (domains ++ d ∷ []) n d within is in
            rw is (omega (arith, last, node_after domains (d ∷ []) d new named, node_below (domains ++ d ∷ []) d named, long))
      ])
]

places_all : (domains names : List ℕ) → ArePlaces domains → ArePlaces (fold with_domain domains names)
places_all domains [] places = places
places_all domains (d ∷ ds) places = places_all (with_domain domains d) ds (places_with domains d places)

pub node_at_place : (names : List ℕ) → ArePlaces (domains_once names)
unfolding domains_once
node_at_place names = places_all [] names (λ n within. absurd (omega arith))

-- a domain that is named before another has the lower node
order_after : (domains names : List ℕ) (d e : ℕ) → is_named_domain domains d ≡ true → is_named_domain domains e ≡ false
    → is_named_domain names e ≡ true
    → node_of_domain (fold with_domain domains names) d < node_of_domain (fold with_domain domains names) e
order_after domains names d e named new later =
    let after = extended domains names in
    let there : is_named_domain (domains ++ after.0) e ≡ true =
    subst (λ (ds : List ℕ). is_named_domain ds e ≡ true) after.1 (named_all domains names e ∙ rw (new, later) refl) in
    rw after.1 (omega (arith, node_stays domains after.0 d named, node_below domains d named, node_after domains after.0 e new there))

pub order_of_naming : (before after : List ℕ) (d e : ℕ) → is_named_domain before e ≡ false → d ≢ e → is_named_domain after e ≡ true
    → node_of_domain (domains_once (before ++ d ∷ after)) d < node_of_domain (domains_once (before ++ d ∷ after)) e
unfolding domains_once
order_of_naming before after d e new other later =
    let so_far : List ℕ = fold with_domain [] before in
    let named : is_named_domain (with_domain so_far d) d ≡ true = named_with so_far d d ∙ or_right _ _ (eq-eqb d d refl) in
    let not_yet : is_named_domain (with_domain so_far d) e ≡ false =
    named_with so_far d e ∙ rw (ne_eqb d e other, named_all [] before e, new) refl in
    rw (fold-append with_domain [] before (d ∷ after)) (order_after (with_domain so_far d) after d e named not_yet later)
