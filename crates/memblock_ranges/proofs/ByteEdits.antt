-- What the edits of a table do to its bytes: a record is overwritten, a gap is opened for one
-- record, or a gap of several is closed.
use Rattle.std.proofs.Common.{◌≡◌, ℕ, suc, ◌+◌, ◌-◌, ◌*◌, ◌<◌, ◌≤◌, ◌&&◌, ◌||◌, nat_le, nat_lt, List, ◌∷◌, ◌++◌, length, get_or, set, take, drop, refl, sym, ◌∙◌, ap, subst, arith, inl, inr, IsTrue}
use Rattle.std.proofs.lemmas.Bool.{cases_Bool, cases_eq, cases_lt, cases_order}
use Rattle.std.proofs.lemmas.Bool.Decides.{nat_tests}
use Rattle.std.proofs.lemmas.List.{set_at, take_at, drop_at}
use Rattle.phys_store.specs.Bytes.{ExtentView, byte_of, is_prepared_at, bytes_at, WritesBytes}
use Rattle.phys_store.proofs.ByteLists.{told_bytes}
use Rattle.address_runs.specs.Runs.{RunOf}
use Rattle.memblock_model.specs.Labels.{LabelView}
use Rattle.memblock_ranges.specs.declared.region.Head.{Head}
use Rattle.memblock_ranges.specs.Encoding.{decode_record, encode_record, records_at, FitsRecord, IsRecord}
use Rattle.memblock_ranges.specs.Tables.{IsTable, bytes_outside_table, part_kept_by_edits}
use Rattle.memblock_ranges.proofs.SpellLaws.{same_bytes, same_records, split_records, length-records_at, length-fields_of, run_back, is_record}

-- what the list of records becomes after the bytes of one or several records have changed
module _ (f g : ℕ → ℕ) (a i : ℕ) (below : (x : ℕ) → a ≤ x → x < a + 24 * i → g x ≡ f x) where
  front : records_at g a i ≡ records_at f a i
  front = same_records f g a a i (λ k less. below (a + k) (omega arith) (omega arith))

  pub put_list : (m : ℕ) (bs : List ℕ) → bytes_at g (a + 24 * i) 24 ≡ bs →
      ((x : ℕ) → a + 24 * i + 24 ≤ x → x < a + 24 * (i + suc m) → g x ≡ f x) →
      records_at g a (i + suc m) ≡ set (records_at f a (i + suc m)) i (decode_record bs)
  unfolding records_at
  put_list m bs new after =
      let back : records_at g (a + 24 * i + 24) m ≡ records_at f (a + 24 * i + 24) m =
      same_records f g (a + 24 * i + 24) (a + 24 * i + 24) m (λ k less. after (a + 24 * i + 24 + k) (omega arith) (omega arith)) in
      split_records g a i (suc m) ∙ rw (front, new, back) refl
      ∙ sym (ap (λ (rs : List (RunOf LabelView)). set rs i (decode_record bs)) (split_records f a i (suc m))
      ∙ set_at (records_at f a i) (decode_record (bytes_at f (a + 24 * i) 24)) (records_at f (a + 24 * i + 24) m) (decode_record bs) i
      (length-records_at f a i))

  pub insert_list : (m : ℕ) (bs : List ℕ) → bytes_at g (a + 24 * i) 24 ≡ bs →
      ((k : ℕ) → k < 24 * m → g (a + 24 * i + 24 + k) ≡ f (a + 24 * i + k)) →
      records_at g a (i + suc m) ≡ take i (records_at f a (i + m)) ++ decode_record bs ∷ drop i (records_at f a (i + m))
  unfolding records_at
  insert_list m bs new moved =
      let back : records_at g (a + 24 * i + 24) m ≡ records_at f (a + 24 * i) m = same_records f g (a + 24 * i) (a + 24 * i + 24) m moved in
      let parts = split_records f a i m in
      let first : take i (records_at f a (i + m)) ≡ records_at f a i =
      ap (take i) parts ∙ take_at (records_at f a i) (records_at f (a + 24 * i) m) i (length-records_at f a i) in
      let last : drop i (records_at f a (i + m)) ≡ records_at f (a + 24 * i) m =
      ap (drop i) parts ∙ drop_at (records_at f a i) (records_at f (a + 24 * i) m) i (length-records_at f a i) in
      split_records g a i (suc m) ∙ rw (front, new, back, first, last) refl

  pub close_list : (n m : ℕ) → ((k : ℕ) → k < 24 * m → g (a + 24 * i + k) ≡ f (a + 24 * (i + n) + k)) →
      records_at g a (i + m) ≡ take i (records_at f a (i + n + m)) ++ drop (i + n) (records_at f a (i + n + m))
  close_list n m moved =
      let back : records_at g (a + 24 * i) m ≡ records_at f (a + 24 * (i + n)) m =
      same_records f g (a + 24 * (i + n)) (a + 24 * i) m moved in
      let more : i + n + m ≡ i + (n + m) = omega arith in
      let parts = ap (λ k. records_at f a k) more ∙ split_records f a i (n + m) in
      let first : take i (records_at f a (i + n + m)) ≡ records_at f a i =
      ap (take i) parts ∙ take_at (records_at f a i) (records_at f (a + 24 * i) (n + m)) i (length-records_at f a i) in
      let last : drop (i + n) (records_at f a (i + n + m)) ≡ records_at f (a + 24 * (i + n)) m =
      ap (drop (i + n)) (split_records f a (i + n) m)
      ∙ drop_at (records_at f a (i + n)) (records_at f (a + 24 * (i + n)) m) (i + n) (length-records_at f a (i + n)) in
      split_records g a i m ∙ rw (front, back, first, last) refl

-- the bytes outside the table are unchanged if only bytes in the table changed
pub same_outside : (f g : ℕ → ℕ) (place room : ℕ) → ((x : ℕ) → IsTrue (nat_lt x place || nat_le (place + 24 * room) x) → g x ≡ f x) →
    bytes_outside_table g place room ≡ bytes_outside_table f place room
same_outside f g place room same =
    let at : (x : ℕ) → bytes_outside_table g place room x ≡ bytes_outside_table f place room x =
    λ x. elim (cases_Bool (nat_le place x && nat_lt x (place + 24 * room))) [
      | inl within ↦ rw within refl
      | inr out ↦ rw out (same x (grind (arith, nat_tests)))
    ] in
    λ j x. at x j

-- the bytes that were written are read back
written_is : (s t : List ExtentView) (at n : ℕ) (bs : List ℕ) → WritesBytes s t at n (λ k. get_or bs k 0) → n ≡ 24 → length bs ≡ 24 →
    bytes_at (byte_of t) at 24 ≡ bs
written_is s t at n bs w count long =
    sym (told_bytes (byte_of t) at 24 bs long (λ k below. sym (w.within k (omega (arith, below, count)))))

pub record_there : (f g : ℕ → ℕ) (a b : ℕ) → ((k : ℕ) → k < 24 → g (b + k) ≡ f (a + k)) → IsRecord (bytes_at f a 24) →
    IsRecord (bytes_at g b 24)
record_there f g a b same known = subst IsRecord (sym (same_bytes f g a b 24 same)) known

-- what is true of a table after an edit
pub record Edited (s u : List ExtentView) (place room count : ℕ) (list : List (RunOf LabelView)) : Type 0 where
  pub list_is : records_at (byte_of u) place count ≡ list
  pub table : IsTable (byte_of u) (is_prepared_at u) place room count
  pub others : bytes_outside_table (byte_of u) place room ≡ bytes_outside_table (byte_of s) place room
  pub ready : is_prepared_at u ≡ is_prepared_at s

-- an edit keeps the table's address and room, and every byte outside the table
pub edited_kept : (s u : List ExtentView) (place room count : ℕ) (list : List (RunOf LabelView)) → Edited s u place room count list →
    let h : Head = record { place = place; room = room; count = count } in part_kept_by_edits u h ≡ part_kept_by_edits s h
edited_kept s u place room count list e = λ j. record { place = place; room = room; others = e.others j; ready = e.ready j }

-- a record is written over the i-th
pub put_table : (s t : List ExtentView) (place room count i at n : ℕ) (r : RunOf LabelView) (bs : List ℕ) →
    IsTable (byte_of s) (is_prepared_at s) place room count →
    i < count → FitsRecord r → bs ≡ encode_record r → WritesBytes s t at n (λ k. get_or bs k 0) → at ≡ place + 24 * i → n ≡ length bs →
    Edited s t place room count (set (records_at (byte_of s) place count) i r)
put_table s t place room count i at n r bs table less fits is w here size =
    let f = byte_of s in
    let g = byte_of t in
    let long : length bs ≡ 24 = ap length is ∙ length-fields_of r.base r.size _ _ in
    let count_is : n ≡ 24 = size ∙ long in
    let off : (x : ℕ) → IsTrue (nat_lt x (place + 24 * i) || nat_le (place + 24 * i + 24) x) → g x ≡ f x =
    λ x beside. w.outside x (rw (here, count_is) beside) in
    let few = table.few in
    let new : bytes_at g (place + 24 * i) 24 ≡ bs = ap (λ x. bytes_at g x 24) (sym here) ∙ written_is s t at n bs w count_is long in
    let m : ℕ = count - suc i in
    let whole : i + suc m ≡ count = omega arith in
    let list = put_list f g place i (λ x from to. off x (grind (arith, nat_tests))) m bs new
    (λ x from to. off x (grind (arith, nat_tests))) in
    let back : decode_record bs ≡ r = ap decode_record is ∙ run_back r fits in
    record {
      list_is = subst (λ c. records_at g place c ≡ set (records_at f place c) i r) whole
          (list ∙ ap (set (records_at f place (i + suc m)) i) back);
      table = record {
        few = table.few;
        fits = table.fits;
        records = λ j below. elim (cases_eq j i) [
          | inl same ↦ subst (λ k. IsRecord (bytes_at g (place + 24 * k) 24)) (sym same)
              (subst IsRecord (sym (new ∙ is)) (is_record r fits))
          | inr other ↦ record_there f g (place + 24 * j) (place + 24 * j)
              (λ k in_it. off (place + 24 * j + k) (grind (arith, nat_tests))) (table.records j below)
        ];
        zeros = λ x from to. off x (grind (arith, nat_tests)) ∙ table.zeros x from to;
        prepared = λ x from to. w.ready x ∙ table.prepared x from to;
      };
      others = same_outside f g place room (λ x beside. off x (grind (arith, nat_tests)));
      ready = λ j x. w.ready x j;
    }

-- the records from the i-th on move up, and a record is written in the gap
pub insert_table : (s t u : List ExtentView) (place room count i to rest at n : ℕ) (r : RunOf LabelView) (bs : List ℕ) →
    IsTable (byte_of s) (is_prepared_at s) place room count →
    i ≤ count → count < room → FitsRecord r → bs ≡ encode_record r →
    WritesBytes s t to rest (λ k. byte_of s (at + k)) → WritesBytes t u at n (λ k. get_or bs k 0) →
    at ≡ place + 24 * i → to ≡ at + 24 → rest ≡ 24 * (count - i) → n ≡ length bs →
    Edited s u place room (count + 1) (take i (records_at (byte_of s) place count) ++ r ∷ drop i (records_at (byte_of s) place count))
insert_table s t u place room count i to rest at n r bs table less space fits is v w here there left size =
    let f = byte_of s in
    let g = byte_of u in
    let long : length bs ≡ 24 = ap length is ∙ length-fields_of r.base r.size _ _ in
    let count_is : n ≡ 24 = size ∙ long in
    let few = table.few in
    let moved : (k : ℕ) → k < 24 * (count - i) → g (place + 24 * i + 24 + k) ≡ f (place + 24 * i + k) = λ k in_it.
    w.outside (place + 24 * i + 24 + k) (grind (arith, nat_tests)) ∙ ap (byte_of t) (omega (arith, here, there))
    ∙ v.within k (omega (arith, left)) ∙ ap f (omega (arith, here)) in
    let off : (x : ℕ) → IsTrue (nat_lt x (place + 24 * i) || nat_le (place + 24 * (count + 1)) x) → g x ≡ f x = λ x beside.
    w.outside x (grind (arith, nat_tests)) ∙ v.outside x (grind (arith, nat_tests)) in
    let new : bytes_at g (place + 24 * i) 24 ≡ bs = ap (λ x. bytes_at g x 24) (sym here) ∙ written_is t u at n bs w count_is long in
    let m : ℕ = count - i in
    let whole : i + m ≡ count = omega arith in
    let more : i + suc m ≡ count + 1 = omega arith in
    let list = insert_list f g place i (λ x from below. off x (grind (arith, nat_tests))) m bs new moved in
    let back : decode_record bs ≡ r = ap decode_record is ∙ run_back r fits in
    record {
      list_is = ap (λ c. records_at g place c) (sym more) ∙ list
          ∙ ap (λ q. take i (records_at f place (i + m)) ++ q ∷ drop i (records_at f place (i + m))) back
          ∙ ap (λ c. take i (records_at f place c) ++ r ∷ drop i (records_at f place c)) whole;
      table = record {
        few = omega arith;
        fits = table.fits;
        records = λ j below. elim (cases_order j i) [
          | inl same ↦ subst (λ k. IsRecord (bytes_at g (place + 24 * k) 24)) (sym same)
              (subst IsRecord (sym (new ∙ is)) (is_record r fits))
          | inr other ↦ elim other [
            | inl before ↦ record_there f g (place + 24 * j) (place + 24 * j)
                (λ k in_it. off (place + 24 * j + k) (grind (arith, nat_tests))) (table.records j (omega arith))
            | inr after ↦ record_there f g (place + 24 * (j - 1)) (place + 24 * j)
                (λ k in_it. ap g (omega arith) ∙ moved (24 * (j - 1 - i) + k) (omega arith) ∙ ap f (omega arith))
                (table.records (j - 1) (omega arith))
          ]
        ];
        zeros = λ x from below. off x (grind (arith, nat_tests)) ∙ table.zeros x (omega arith) below;
        prepared = λ x from below. w.ready x ∙ v.ready x ∙ table.prepared x from below;
      };
      others = same_outside f g place room (λ x beside. off x (grind (arith, nat_tests)));
      ready = λ j x. (w.ready x ∙ v.ready x) j;
    }

-- the records after the n ones from the i-th on move down, and the bytes that they leave are 0
pub close_table : (s t u : List ExtentView) (place room count i n from to rest at size : ℕ)
    → IsTable (byte_of s) (is_prepared_at s) place room count →
    i + n ≤ count → WritesBytes s t to rest (λ k. byte_of s (from + k)) → WritesBytes t u at size (λ _. 0) →
    from ≡ place + 24 * (i + n) → to ≡ place + 24 * i → rest ≡ 24 * (count - (i + n)) → at ≡ place + 24 * (count - n) → size ≡ 24 * n →
    Edited s u place room (count - n) (take i (records_at (byte_of s) place count) ++ drop (i + n) (records_at (byte_of s) place count))
close_table s t u place room count i n from to rest at size table less v w from_is to_is rest_is at_is size_is =
    let f = byte_of s in
    let g = byte_of u in
    let few = table.few in
    let moved : (k : ℕ) → k < 24 * (count - (i + n)) → g (place + 24 * i + k) ≡ f (place + 24 * (i + n) + k) = λ k in_it.
    w.outside (place + 24 * i + k) (grind (arith, nat_tests)) ∙ ap (byte_of t) (omega (arith, to_is))
    ∙ v.within k (omega (arith, rest_is)) ∙ ap f (omega (arith, from_is)) in
    let off : (x : ℕ) → IsTrue (nat_lt x (place + 24 * i) || nat_le (place + 24 * count) x) → g x ≡ f x = λ x beside.
    w.outside x (grind (arith, nat_tests)) ∙ v.outside x (grind (arith, nat_tests)) in
    let m : ℕ = count - (i + n) in
    let whole : i + n + m ≡ count = omega arith in
    let fewer : i + m ≡ count - n = omega arith in
    let list = close_list f g place i (λ x low high. off x (grind (arith, nat_tests))) n m moved in
    record {
      list_is = ap (λ c. records_at g place c) (sym fewer) ∙ list
          ∙ ap (λ c. take i (records_at f place c) ++ drop (i + n) (records_at f place c)) whole;
      table = record {
        few = omega arith;
        fits = table.fits;
        records = λ j below. elim (cases_lt j i) [
          | inl before ↦ record_there f g (place + 24 * j) (place + 24 * j)
              (λ k in_it. off (place + 24 * j + k) (grind (arith, nat_tests))) (table.records j (omega arith))
          | inr after ↦ record_there f g (place + 24 * (j + n)) (place + 24 * j)
              (λ k in_it. ap g (omega arith) ∙ moved (24 * (j - i) + k) (omega arith) ∙ ap f (omega arith))
              (table.records (j + n) (omega arith))
        ];
        zeros = λ x low high. elim (cases_lt x (place + 24 * count)) [
          | inl freed ↦ ap g (omega (arith, at_is, low)) ∙ w.within (x - at) (omega (arith, at_is, size_is, low, freed))
          | inr after ↦ off x (grind (arith, nat_tests)) ∙ table.zeros x after high
        ];
        prepared = λ x low high. w.ready x ∙ v.ready x ∙ table.prepared x low high;
      };
      others = same_outside f g place room (λ x beside. off x (grind (arith, nat_tests)));
      ready = λ j x. (w.ready x ∙ v.ready x) j;
    }
