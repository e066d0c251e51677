-- Records as bytes: where they are, and that what was written is read back.
use Rattle.std.proofs.Common.{◌≡◌, ℕ, zero, suc, ◌+◌, ◌*◌, ◌^◌, ◌<◌, ◌≤◌, List, [], ◌∷◌, ◌++◌, length, get_or, drop, refl, sym, ◌∙◌, ap, subst, inl, inr, arith, length-append, append_assoc}
use Rattle.std.proofs.lemmas.Bool.{cases_Bool}
use Rattle.std.proofs.lemmas.Grind.{common_steps}
use Rattle.std.proofs.lemmas.List.{drop_at}
use Rattle.byteorder.specs.Endian.{little_number, little_bytes}
use Rattle.byteorder.specs.Numbers.{little_number-reads_back, length-bytes_low_first}
use Rattle.phys_store.specs.Bytes.{bytes_at}
use Rattle.phys_store.proofs.ByteLists.{length-bytes_at, get-bytes_at, told_bytes}
use Rattle.address_runs.specs.Runs.{RunOf}
use Rattle.memblock_model.specs.Labels.{LabelView}
use Rattle.memblock_ranges.specs.declared.region.Region.{Region}
use Rattle.memblock_ranges.specs.Encoding.{base_in, size_in, flags_in, node_in, decode_region, encode_fields, label_of, flags_field, node_field, decode_record, region_of, encode_record, records_at, FitsRecord, IsRecord}

-- if the bytes at two places are equal one by one, they are equal as lists
pub same_bytes : (f g : ℕ → ℕ) (a b n : ℕ) → ((k : ℕ) → k < n → g (b + k) ≡ f (a + k)) → bytes_at g b n ≡ bytes_at f a n
same_bytes f g a b n same = told_bytes f a n (bytes_at g b n) (length-bytes_at g b n) (λ k below. get-bytes_at g b n k below ∙ same k below)

pub same_records : (f g : ℕ → ℕ) (a b n : ℕ) → ((k : ℕ) → k < 24 * n → g (b + k) ≡ f (a + k)) → records_at g b n ≡ records_at f a n
unfolding records_at
same_records f g a b zero same = refl
same_records f g a b (suc n) same =
    let first : bytes_at g b 24 ≡ bytes_at f a 24 = same_bytes f g a b 24 (λ k below. same k (omega arith)) in
    let rest = same_records f g (a + 24) (b + 24) n (λ k below. ap g (omega arith) ∙ same (24 + k) (omega arith) ∙ ap f (omega arith)) in
    rw (first, rest) refl

-- the first m + n records are the first m records and the n after them
pub split_records : (f : ℕ → ℕ) (a m n : ℕ) → records_at f a (m + n) ≡ records_at f a m ++ records_at f (a + 24 * m) n
unfolding records_at
split_records f a zero n =
    let none : 0 + n ≡ n = omega arith in
    let here : a ≡ a + 24 * 0 = omega arith in
    ap (λ k. records_at f a k) none ∙ ap (λ x. records_at f x n) here
split_records f a (suc m) n =
    let more : suc m + n ≡ suc (m + n) = omega arith in
    let there : a + 24 + 24 * m ≡ a + 24 * suc m = omega arith in
    ap (λ k. records_at f a k) more
    ∙ ap (λ (rs : List (RunOf LabelView)). decode_record (bytes_at f a 24) ∷ rs)
    (split_records f (a + 24) m n ∙ ap (λ x. records_at f (a + 24) m ++ records_at f x n) there)

pub length-records_at : (f : ℕ → ℕ) (a n : ℕ) → length (records_at f a n) ≡ n
unfolding records_at
length-records_at f a zero = refl
length-records_at f a (suc n) = let rest = length-records_at f (a + 24) n in omega (arith, rest)

pub get-records_at : (f : ℕ → ℕ) (a n i : ℕ) (d : RunOf LabelView) → i < n
    → get_or (records_at f a n) i d ≡ decode_record (bytes_at f (a + 24 * i) 24)
unfolding records_at
get-records_at f a zero i d below = absurd (omega arith)
get-records_at f a (suc n) zero d below = ap (λ x. decode_record (bytes_at f x 24)) (omega arith)
get-records_at f a (suc n) (suc i) d below =
    get-records_at f (a + 24) n i d (omega arith) ∙ ap (λ x. decode_record (bytes_at f x 24)) (omega arith)

-- the lengths of the parts of a record's bytes
long8 : (n : ℕ) → length (little_bytes 8 n) ≡ 8
long8 n = length-bytes_low_first 0 8 n

long4 : (n : ℕ) → length (little_bytes 4 n) ≡ 4
long4 n = length-bytes_low_first 0 4 n

pub length-fields_of : (base size flags node : ℕ) → length (encode_fields base size flags node) ≡ 24
unfolding encode_fields
length-fields_of base size flags node =
    grind (arith, common_steps, long8 base, long8 size, long4 flags, long4 node)

after_two : (a b rest : List ℕ) → length a ≡ 8 → length b ≡ 8 → drop 16 (a ++ (b ++ rest)) ≡ rest
after_two a b rest first second =
    ap (drop 16) (sym (append_assoc a b rest)) ∙ drop_at (a ++ b) rest 16 (omega (arith, first, second, length-append a b))

after_three : (a b c rest : List ℕ) → length a ≡ 8 → length b ≡ 8 → length c ≡ 4 → drop 20 (a ++ (b ++ (c ++ rest))) ≡ rest
after_three a b c rest first second third =
    ap (λ (l : List ℕ). drop 20 (a ++ l)) (sym (append_assoc b c rest)) ∙ ap (drop 20) (sym (append_assoc a (b ++ c) rest))
    ∙ drop_at (a ++ (b ++ c)) rest 20 (omega (arith, first, second, third, length-append a (b ++ c), length-append b c))

after_base : (base size flags node : ℕ) → drop 8 (encode_fields base size flags node) ≡ little_bytes 8 size
    ++ (little_bytes 4 flags ++ little_bytes 4 node)
unfolding encode_fields
after_base base size flags node =
    drop_at (little_bytes 8 base) (little_bytes 8 size ++ (little_bytes 4 flags ++ little_bytes 4 node)) 8 (long8 base)

after_size : (base size flags node : ℕ) → drop 16 (encode_fields base size flags node) ≡ little_bytes 4 flags ++ little_bytes 4 node
unfolding encode_fields
after_size base size flags node = after_two (little_bytes 8 base) (little_bytes 8 size) (little_bytes 4 flags ++ little_bytes 4 node)
    (long8 base)
    (long8 size)

after_flags : (base size flags node : ℕ) → drop 20 (encode_fields base size flags node) ≡ little_bytes 4 node
unfolding encode_fields
after_flags base size flags node =
    after_three (little_bytes 8 base) (little_bytes 8 size) (little_bytes 4 flags) (little_bytes 4 node) (long8 base) (long8 size)
    (long4 flags)

-- what was written is read back
pub base-fields_of : (base size flags node : ℕ) → base < 2 ^ 64 → base_in (encode_fields base size flags node) ≡ base
unfolding base_in encode_fields
base-fields_of base size flags node small = little_number-reads_back 8 base
    (little_bytes 8 size ++ (little_bytes 4 flags ++ little_bytes 4 node)) small

pub size-fields_of : (base size flags node : ℕ) → size < 2 ^ 64 → size_in (encode_fields base size flags node) ≡ size
unfolding size_in
size-fields_of base size flags node small =
    ap (little_number 8) (after_base base size flags node) ∙ little_number-reads_back 8 size
    (little_bytes 4 flags ++ little_bytes 4 node) small

pub flags-fields_of : (base size flags node : ℕ) → flags < 2 ^ 32 → flags_in (encode_fields base size flags node) ≡ flags
unfolding flags_in
flags-fields_of base size flags node small =
    ap (little_number 4) (after_size base size flags node) ∙ little_number-reads_back 4 flags (little_bytes 4 node) small

pub node-fields_of : (base size flags node : ℕ) → node < 2 ^ 32 → node_in (encode_fields base size flags node) ≡ node
unfolding node_in
node-fields_of base size flags node small =
    ap (little_number 4) (after_flags base size flags node) ∙ little_number-reads_back 4 node [] small

-- the flags of a label are at most 2
few_flags : (label : LabelView) → flags_field label ≤ 2
few_flags label = elim (cases_Bool label.mirror) as (λ _. flags_field label ≤ 2) [
  | inl on ↦ rw on (omega arith)
  | inr off ↦ rw off (omega arith)
]

-- all numbers of a record's bytes are read back
read_back : (r : RunOf LabelView) → FitsRecord r → decode_region (encode_record r) ≡ region_of r
read_back r fits =
    let few = few_flags r.value in
    let f = flags_field r.value in
    let n = node_field r.value in
    let base = base-fields_of r.base r.size f n (omega (arith, fits.small)) in
    let size = size-fields_of r.base r.size f n (omega (arith, fits.small)) in
    let flags = flags-fields_of r.base r.size f n (omega (arith, few)) in
    let node = node-fields_of r.base r.size f n (omega (arith, fits.node)) in
    λ j. record { base = base j; size = size j; flags = flags j; node = node j }

pub run_back : (r : RunOf LabelView) → FitsRecord r → decode_record (encode_record r) ≡ r
run_back r fits =
    ap (λ (g : Region). record { base = g.base; size = g.size; value = label_of g.flags g.node }) (read_back r fits)
    ∙ ap (λ (l : LabelView). record { base = r.base; size = r.size; value = l }) fits.back

pub is_record : (r : RunOf LabelView) → FitsRecord r → IsRecord (encode_record r)
is_record r fits =
    let is = read_back r fits in
    record {
      spells = sym (ap (λ (g : Region). encode_fields g.base g.size g.flags g.node) is);
      within = subst (λ (g : Region). g.base + g.size < 2 ^ 64) (sym is) fits.small;
      flags = ap (λ (g : Region). g.flags) is
          ∙ sym (ap (λ (l : LabelView). flags_field l) (ap (λ (g : Region). label_of g.flags g.node) is ∙ fits.back));
      node = subst (λ (g : Region). g.node ≤ 1024) (sym is) fits.node;
    }
