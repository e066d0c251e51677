-- Searches for bad cells along rows and columns.
use Rattle.std.proofs.Common.{◌≡◌, ◌⊎◌, ℕ, zero, suc, ◌+◌, ◌-◌, ◌<◌, ◌≤◌, Bool, true, false, nat_lt, Option, Some, None, List, ◌∷◌, refl, sym, ◌∙◌, ap, subst, inl, inr, arith}
use Rattle.std.proofs.lemmas.Bool.{cases_Bool, cases_lt}
use Rattle.std.proofs.lemmas.Bool.Decides.{nat_tests}
use Rattle.std.specs.List.{find, cons_option, filter_map, range_with_len}
use Rattle.std.specs.Option.{option_map}
use Rattle.slit_zonelists.specs.SlitView.{SlitView}
use Rattle.slit_zonelists.specs.Uses.{is_bad_cell, first_bad_column, first_bad_in_row, first_bad_cell, first_member, IsFirstBadCell}

-- the remaining numbers and the first of them
pub range_more : (c n : ℕ) → c < n → range_with_len c (n - c) ≡ c ∷ range_with_len (c + 1) (n - (c + 1))
range_more c n lt = ap (range_with_len c) (let e : n - c ≡ suc (n - (c + 1)) = omega (arith, lt) in e)

-- the number that a search finds: it passes, and none before it does
pub record IsFound (p : ℕ → Bool) (a n c : ℕ) : Type 0 where
  pub from : a ≤ c
  pub until : c < a + n
  pub passes : p c ≡ true
  pub first : (x : ℕ) → a ≤ x → x < c → p x ≡ false

pub found : (p : ℕ → Bool) (a n c : ℕ) → find p (range_with_len a n) ≡ Some c → IsFound p a n c
found p a zero c is = cc is
found p a (suc n) c is = elim (cases_Bool (p a)) as (λ _. IsFound p a (suc n) c) [
  | inl on ↦
      let same : a ≡ c = let both : Some a ≡ Some c = sym (rw on refl) ∙ is in cc both in
      subst (λ x. IsFound p a (suc n) x) same (record {
        from = omega arith;
        until = omega arith;
        passes = on;
        first = λ x low high. absurd (omega (arith, low, high));
      })
  | inr off ↦
      let rest = found p (a + 1) n c (sym (rw off refl) ∙ is) in
      record {
        from = let low = rest.from in omega (arith, low);
        until = let high = rest.until in omega (arith, high);
        passes = rest.passes;
        first = λ x low high. elim (cases_lt a x) as (λ _. p x ≡ false) [
          | inl lt ↦ rest.first x (omega (arith, lt)) high
          | inr ge ↦ let same : a ≡ x = omega (arith, ge, low) in subst (λ y. p y ≡ false) same off
        ];
      }
]

pub not_found : (p : ℕ → Bool) (a n x : ℕ) → find p (range_with_len a n) ≡ None → a ≤ x → x < a + n → p x ≡ false
not_found p a zero x is low high = absurd (omega (arith, low, high))
not_found p a (suc n) x is low high = elim (cases_Bool (p a)) as (λ _. p x ≡ false) [
  | inl on ↦ let both : Some a ≡ None = sym (rw on refl) ∙ is in cc both
  | inr off ↦ elim (cases_Bool (nat_lt a x)) as (λ _. p x ≡ false) [
    | inl lt ↦ not_found p (a + 1) n x (sym (rw off refl) ∙ is) (grind (arith, nat_tests, lt)) (omega (arith, high))
    | inr ge ↦ let same : a ≡ x = grind (arith, nat_tests, ge, low) in subst (λ y. p y ≡ false) same off
  ]
]

-- one more number that doesn't pass doesn't change what a search finds
pub skipped : (p : ℕ → Bool) (c n : ℕ) → c < n → p c ≡ false
    → find p (range_with_len (c + 1) (n - (c + 1))) ≡ find p (range_with_len c (n - c))
skipped p c n lt off = sym (ap (find p) (range_more c n lt) ∙ rw off refl)

-- one more row without a bad cell doesn't change what a search over rows finds
pub row_skipped : (m : SlitView) (c n : ℕ) → c < n → first_bad_column m c ≡ None
    → first_member (filter_map (first_bad_in_row m) (range_with_len (c + 1) (n - (c + 1))))
    ≡ first_member (filter_map (first_bad_in_row m) (range_with_len c (n - c)))
row_skipped m c n lt off =
    sym (ap (λ (xs : List ℕ). first_member (filter_map (first_bad_in_row m) xs)) (range_more c n lt)
    ∙ ap (λ (o : Option ℕ). first_member (cons_option (option_map (λ column. (let at : ℕ × ℕ = (c, column) in at)) o)
    (filter_map (first_bad_in_row m) (range_with_len (c + 1) (n - (c + 1)))))) off)

-- the first row that has a bad cell
pub record IsRow (m : SlitView) (a n row column : ℕ) : Type 0 where
  pub from : a ≤ row
  pub until : row < a + n
  pub bad : first_bad_column m row ≡ Some column
  pub first : (r : ℕ) → a ≤ r → r < row → first_bad_column m r ≡ None

none_or : (o : Option ℕ) → (o ≡ None) ⊎ ((c : ℕ) × (o ≡ Some c))
none_or None = inl refl
none_or (Some c) = inr (c, refl)

row_found : (m : SlitView) (a n row column : ℕ)
    → first_member (filter_map (first_bad_in_row m) (range_with_len a n)) ≡ Some (row, column) → IsRow m a n row column
row_found m a zero row column is = cc is
row_found m a (suc n) row column is = elim (none_or (first_bad_column m a)) as (λ _. IsRow m a (suc n) row column) [
  | inl none ↦
      let rest = row_found m (a + 1) n row column (sym (rw none refl) ∙ is) in
      record {
        from = let low = rest.from in omega (arith, low);
        until = let high = rest.until in omega (arith, high);
        bad = rest.bad;
        first = λ r low high. elim (cases_Bool (nat_lt a r)) as (λ _. first_bad_column m r ≡ None) [
          | inl lt ↦ rest.first r (grind (arith, nat_tests, lt)) high
          | inr ge ↦ let same : a ≡ r = grind (arith, nat_tests, ge, low) in subst (λ y. first_bad_column m y ≡ None) same none
        ];
      }
  | inr some ↦
      let both : Some (a, some.0) ≡ Some (row, column) = sym (let on = some.1 in rw on refl) ∙ is in
      let pair : (let p : ℕ × ℕ = (a, some.0) in p) ≡ (let p : ℕ × ℕ = (row, column) in p) = cc both in
      let here : a ≡ row = ap (λ (p : ℕ × ℕ). p.0) pair in
      let there : some.0 ≡ column = ap (λ (p : ℕ × ℕ). p.1) pair in
      record {
        from = omega (arith, here);
        until = omega (arith, here);
        bad = ap (first_bad_column m) (sym here) ∙ some.1 ∙ ap (λ c. Some c) there;
        first = λ r low high. absurd (omega (arith, here, low, high));
      }
]

no_row : (m : SlitView) (a n r : ℕ) → first_member (filter_map (first_bad_in_row m) (range_with_len a n)) ≡ None → a ≤ r → r < a + n
    → first_bad_column m r ≡ None
no_row m a zero r is low high = absurd (omega (arith, low, high))
no_row m a (suc n) r is low high = elim (none_or (first_bad_column m a)) as (λ _. first_bad_column m r ≡ None) [
  | inl none ↦ elim (cases_Bool (nat_lt a r)) as (λ _. first_bad_column m r ≡ None) [
    | inl lt ↦ no_row m (a + 1) n r (sym (rw none refl) ∙ is) (grind (arith, nat_tests, lt)) (omega (arith, high))
    | inr ge ↦ let same : a ≡ r = grind (arith, nat_tests, ge, low) in subst (λ y. first_bad_column m y ≡ None) same none
  ]
  | inr some ↦ let both : Some (a, some.0) ≡ None = sym (let on = some.1 in rw on refl) ∙ is in cc both
]

pub bad_least : (m : SlitView) (row column : ℕ) → first_bad_cell m ≡ Some (row, column) → IsFirstBadCell m row column
bad_least m row column is =
    let at = row_found m 0 m.count row column is in
    let in_it = found (is_bad_cell m row) 0 m.count column at.bad in
    record {
      low = let high = at.until in omega (arith, high);
      left = let high = in_it.until in omega (arith, high);
      bad = in_it.passes;
      least = λ r c low left bad. elim (cases_lt r row) as (λ _. (row < r) ⊎ ((row ≡ r) × (column ≤ c))) [
        | inl lt ↦ cc (bad, not_found (is_bad_cell m r) 0 m.count c (at.first r (omega arith) lt) (omega arith) (omega (arith, left)))
        | inr ge ↦ elim (cases_lt row r) as (λ _. (row < r) ⊎ ((row ≡ r) × (column ≤ c))) [
          | inl lt ↦ inl lt
          | inr le ↦
              let same : row ≡ r = omega (arith, ge, le) in
              let on : is_bad_cell m row c ≡ true = subst (λ y. is_bad_cell m y c ≡ true) (sym same) bad in
              inr (same, elim (cases_lt c column) as (λ _. column ≤ c) [ inl lt ↦ cc (on, in_it.first c (omega arith) lt) | inr up ↦ up ])
        ]
      ];
    }

pub none_bad : (m : SlitView) (row column : ℕ) → first_bad_cell m ≡ None → row < m.count → column < m.count
    → is_bad_cell m row column ≡ false
none_bad m row column is low left =
    not_found (is_bad_cell m row) 0 m.count column (no_row m 0 m.count row is (omega arith) (omega (arith, low))) (omega arith)
    (omega (arith, left))
