-- The bytes of a table are those of its records, and then zeros.
use Rattle.std.proofs.Common.{◌≡◌, ℕ, zero, suc, ◌+◌, ◌-◌, ◌*◌, ◌<◌, ◌≤◌, ◌==◌, List, ◌∷◌, ◌++◌, replicate, refl, sym, ◌∙◌, ap, subst, arith, inl, inr}
use Rattle.std.proofs.lemmas.Bool.{cases_Bool, eqb-true}
use Rattle.std.proofs.lemmas.List.{get_or-replicate, length-replicate}
use Rattle.phys_store.specs.Bytes.{ExtentView, byte_of, bytes_at}
use Rattle.phys_store.proofs.ByteLists.{told_bytes}
use Rattle.memblock_ranges.specs.declared.region.Head.{Head}
use Rattle.memblock_ranges.specs.Encoding.{base_in, size_in, flags_in, node_in, decode_region, region_of, encode_fields, label_of, node_field, decode_record, encode_record, records_at, encode_table, IsRecord}
use Rattle.memblock_ranges.specs.Tables.{HasTable, AreRecords, records_of_head, table_of_head, head_of, IsInStore}
use Rattle.memblock_ranges.proofs.SpellLaws.{length-records_at, get-records_at}

-- a node field is read back from the label that it gives
pub node_field-label_of : (flags n : ℕ) → node_field (label_of flags n) ≡ n
node_field-label_of flags n = elim (cases_Bool (n == 1024)) as (λ _. node_field (label_of flags n) ≡ n) [
  | inl none ↦ rw none (sym (eqb-true n 1024 none))
  | inr some ↦ rw some refl
]

pub spell_back : (bs : List ℕ) → IsRecord bs → encode_record (decode_record bs) ≡ bs
spell_back bs known =
    ap (λ (flags : ℕ). encode_fields (base_in bs) (size_in bs) flags (node_field (label_of (flags_in bs) (node_in bs)))) (sym known.flags)
    ∙ ap (encode_fields (base_in bs) (size_in bs) (flags_in bs)) (node_field-label_of (flags_in bs) (node_in bs)) ∙ sym known.spells

pub split_bytes : (f : ℕ → ℕ) (a m n : ℕ) → bytes_at f a (m + n) ≡ bytes_at f a m ++ bytes_at f (a + m) n
unfolding bytes_at
split_bytes f a zero n =
    let none : 0 + n ≡ n = omega arith in
    let here : a ≡ a + 0 = omega arith in
    ap (λ k. bytes_at f a k) none ∙ ap (λ x. bytes_at f x n) here
split_bytes f a (suc m) n =
    let more : suc m + n ≡ suc (m + n) = omega arith in
    let there : a + 1 + m ≡ a + suc m = omega arith in
    ap (λ k. bytes_at f a k) more
    ∙ ap (λ (bs : List ℕ). f a ∷ bs) (split_bytes f (a + 1) m n ∙ ap (λ x. bytes_at f (a + 1) m ++ bytes_at f x n) there)

spelled_from : (f : ℕ → ℕ) (count room a : ℕ) → count ≤ room → ((i : ℕ) → i < count → IsRecord (bytes_at f (a + 24 * i) 24)) →
    ((x : ℕ) → a + 24 * count ≤ x → x < a + 24 * room → f x ≡ 0) → bytes_at f a (24 * room) ≡ encode_table (records_at f a count) room
unfolding records_at encode_table
spelled_from f zero room a few known zeros =
    sym (told_bytes f a (24 * room) (replicate (24 * room) 0) (length-replicate (24 * room) 0)
    (λ k less. get_or-replicate (24 * room) k 0 0 less ∙ sym (zeros (a + k) (omega arith) (omega arith))))
spelled_from f (suc count) zero a few known zeros = absurd (omega arith)
spelled_from f (suc count) (suc room) a few known zeros =
    let long : 24 * suc room ≡ 24 + 24 * room = omega arith in
    let here : a + 24 * 0 ≡ a = omega arith in
    let first : encode_record (decode_record (bytes_at f a 24)) ≡ bytes_at f a 24 =
    spell_back (bytes_at f a 24) (subst (λ x. IsRecord (bytes_at f x 24)) here (known 0 (omega arith))) in
    let left : suc room - 1 ≡ room = omega arith in
    let rest = spelled_from f count room (a + 24) (omega arith)
    (λ i less. let there : a + 24 * suc i ≡ a + 24 + 24 * i = omega arith in
    subst (λ x. IsRecord (bytes_at f x 24)) there (known (suc i) (omega arith)))
    (λ x low high. zeros x (omega arith) (omega arith)) in
    ap (λ n. bytes_at f a n) long ∙ split_bytes f a 24 (24 * room)
    ∙ ap (λ (bs : List ℕ). bytes_at f a 24 ++ bs) rest
    ∙ sym (ap (λ (bs : List ℕ). bs ++ encode_table (records_at f (a + 24) count) (suc room - 1)) first
    ∙ ap (λ n. bytes_at f a 24 ++ encode_table (records_at f (a + 24) count) n) left)

-- the region of a record's bytes is that of the run that they describe
pub region_back : (bs : List ℕ) → IsRecord bs → decode_region bs ≡ region_of (decode_record bs)
region_back bs known =
    let node : node_in bs ≡ node_field (label_of (flags_in bs) (node_in bs)) = sym (node_field-label_of (flags_in bs) (node_in bs)) in
    λ j. record { base = base_in bs; size = size_in bs; flags = known.flags j; node = node j }

pub stands : (s : List ExtentView) (h : Head) → HasTable s h → AreRecords (records_of_head s h) → IsInStore (table_of_head s h) s
stands s h table known =
    let count = length-records_at (byte_of s) h.place h.count in
    record {
      few = omega (arith, count, table.few);
      fits = table.fits;
      records = known;
      bytes = spelled_from (byte_of s) h.count h.room h.place table.few table.records table.zeros;
      regions = λ i r less.
          let inner : i < h.count = omega (arith, less, count) in
          region_back (bytes_at (byte_of s) (h.place + 24 * i) 24) (table.records i inner)
          ∙ sym (ap region_of (get-records_at (byte_of s) h.place h.count i r inner));
      prepared = table.prepared;
    }

pub head_is : (s : List ExtentView) (h : Head) → h ≡ head_of (table_of_head s h)
head_is s h = ap (λ (n : ℕ). let g : Head = record { place = h.place; room = h.room; count = n } in
    g) (sym (length-records_at (byte_of s) h.place h.count))
