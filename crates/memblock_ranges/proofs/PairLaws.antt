-- Two tables in one store: while one is edited, the other is unchanged.
use Rattle.std.proofs.Common.{◌≡◌, ℕ, ◌+◌, ◌*◌, ◌^◌, ◌<◌, ◌≤◌, true, false, ◌||◌, Option, Some, None, List, refl, sym, ◌∙◌, ap, subst, arith, inl, inr}
use Rattle.std.specs.Prelude.{if◌then◌else◌, unwrap_or}
use Rattle.std.proofs.lemmas.Bool.{cases_Bool, false_from_ne_true, and_from, or_right}
use Rattle.std.proofs.lemmas.Bool.Decides.{nat_tests}
use Rattle.bm_base.specs.Range.{RangeView, covers, Meet}
use Rattle.phys_store.specs.Bytes.{ExtentView, byte_of, is_prepared_at, WritesBytes}
use Rattle.address_runs.specs.Runs.{RunOf, value_at}
use Rattle.address_runs.specs.Edits.{change_range, cover_range, uncover_range}
use Rattle.memblock_model.specs.Labels.{LabelView, Labels, plain_label}
use Rattle.memblock_model.specs.Tables.{records_for}
use Rattle.memblock_model.proofs.TableLaws.{value_at-records}
use Rattle.run_edits.proofs.AmendLaws.{amended_ends}
use Rattle.memblock_model.specs.declared.owner.Which.TheVariants as which
use Rattle.memblock_ranges.specs.declared.region.Head.{Head}
use Rattle.memblock_ranges.specs.Tables.{HasTable, records_of_head, TablesView, OverlapsTable, table_of_head, bytes_of_head, TableView, PartKeptByEdits, part_kept_by_edits, MovesTable, AreRecords, AreTables, ArePlainRecords}
use Rattle.memblock_ranges.proofs.SpellLaws.{same_records}
use Rattle.memblock_ranges.proofs.ByteEdits.{record_there}

pub beside : (r s : RangeView) (x : ℕ) → ¬ Meet r s → covers s x ≡ true → covers r x ≡ false
beside r s x apart lies = false_from_ne_true (covers r x) (λ both. apart (x, and_from (covers r x) (covers s x) both lies))

swapped : (r s : RangeView) → Meet r s → Meet s r
swapped r s both = (both.0, grind (arith, nat_tests, both.1))

pub turned : (r s : RangeView) → ¬ Meet r s → ¬ Meet s r
turned r s apart both = apart (swapped s r both)

-- a table whose bytes stay is unchanged
pub stays : (s t : List ExtentView) (h : Head) → ((x : ℕ) → covers (bytes_of_head h) x ≡ true → byte_of t x ≡ byte_of s x) →
    ((x : ℕ) → is_prepared_at s x ≡ true → is_prepared_at t x ≡ true) → HasTable s h
    → HasTable t h × (table_of_head t h ≡ table_of_head s h)
stays s t h same ready table =
    let few = table.few in
    let at : (x : ℕ) → h.place ≤ x → x < h.place + 24 * h.room → byte_of t x ≡ byte_of s x =
    λ x low high. same x (grind (arith, nat_tests)) in (
      record {
        few = table.few;
        fits = table.fits;
        records = λ i less. record_there (byte_of s) (byte_of t) (h.place + 24 * i) (h.place + 24 * i)
            (λ k in_it. at (h.place + 24 * i + k) (omega arith) (omega arith)) (table.records i less);
        zeros = λ x low high. at x (omega arith) high ∙ table.zeros x low high;
        prepared = λ x low high. ready x (table.prepared x low high);
      },
      ap (λ (rs : List (RunOf LabelView)). let q : TableView = record { records = rs; place = h.place; room = h.room } in q)
          (same_records (byte_of s) (byte_of t) h.place h.place h.count (λ k in_it. at (h.place + k) (omega arith) (omega arith))),
    )

-- an edit of a table's records keeps its bytes' range, each byte outside it, and what is prepared
same_bytes_by : (s t : List ExtentView) (g h : Head) → part_kept_by_edits t h ≡ part_kept_by_edits s g → bytes_of_head h ≡ bytes_of_head g
same_bytes_by s t g h kept = ap (λ (o : PartKeptByEdits). let r : RangeView = record { base = o.place; size = 24 * o.room } in r) kept

edited_at : (s t : List ExtentView) (g h : Head) → part_kept_by_edits t h ≡ part_kept_by_edits s g → (x : ℕ)
    → covers (bytes_of_head g) x ≡ false
    → byte_of t x ≡ byte_of s x
edited_at s t g h kept x out =
    let e : (if covers (bytes_of_head h) x then 0 else byte_of t x) ≡ (if covers (bytes_of_head g) x then 0 else byte_of s x) =
    ap (λ (o : PartKeptByEdits). o.others x) kept in
    rw (ap (λ (r : RangeView). covers r x) (same_bytes_by s t g h kept) ∙ out, out) at e

-- the table of head g becomes that of head h with these records, and all else is unchanged
pub record EditsTable (s t : List ExtentView) (g h o : Head) (list : List (RunOf LabelView)) : Type 0 where
  pub table : table_of_head t h ≡ record (table_of_head s g) { records = list }
  pub other : table_of_head t o ≡ table_of_head s o
  pub elsewhere : (x : ℕ) → covers (bytes_of_head g) x ≡ false → byte_of t x ≡ byte_of s x
  pub ready : (x : ℕ) → is_prepared_at t x ≡ is_prepared_at s x

-- the table with other records
abbrev pub with_records : List ExtentView → Head → List (RunOf LabelView) → TableView
with_records s h list = record (table_of_head s h) { records = list }

edits : (s t : List ExtentView) (g h o : Head) (list : List (RunOf LabelView)) → part_kept_by_edits t h ≡ part_kept_by_edits s g
    → records_of_head t h ≡ list →
    table_of_head t o ≡ table_of_head s o → EditsTable s t g h o list
edits s t g h o list kept is other = record {
  table = rw (is, ap (λ (k : PartKeptByEdits). k.place) kept, ap (λ (k : PartKeptByEdits). k.room) kept) refl;
  other = other;
  elsewhere = edited_at s t g h kept;
  ready = λ x. ap (λ (k : PartKeptByEdits). k.ready x) kept;
}

-- the reserved table stays if it is apart from the edited memory table
beside_memory : (s t : List ExtentView) (m r h : Head) → AreTables s m r → HasTable t r × (table_of_head t r ≡ table_of_head s r)
    → HasTable t h →
    ¬ Meet (bytes_of_head h) (bytes_of_head r) →
    AreRecords (records_of_head t h) →
    AreTables t h r × (table_of_head t r ≡ table_of_head s r)
beside_memory s t m r h both other table apart known =
    let same : records_of_head t r ≡ records_of_head s r = ap (λ (q : TableView). q.records) other.1 in (
      record {
        memory = table;
        reserved = other.0;
        apart = apart;
        memory_records = known;
        reserved_records = rw same both.reserved_records;
        plain = rw same both.plain;
      },
      other.1,
    )

pub memory_edited : (s t : List ExtentView) (m r h : Head) (list : List (RunOf LabelView)) → AreTables s m r → HasTable t h →
    part_kept_by_edits t h ≡ part_kept_by_edits s m → AreRecords (records_of_head t h) × (records_of_head t h ≡ list)
    → AreTables t h r × EditsTable s t m h r list
memory_edited s t m r h list both table kept known =
    let other = stays s t r (λ x lies. edited_at s t m h kept x (beside (bytes_of_head m) (bytes_of_head r) x both.apart lies))
    (λ x was. ap (λ (k : PartKeptByEdits). k.ready x) kept ∙ was) both.reserved in
    let pair = beside_memory s t m r h both other table
    (λ meet. both.apart (subst (λ (q : RangeView). Meet q (bytes_of_head r)) (same_bytes_by s t m h kept) meet)) known.0 in
    (pair.0, edits s t m h r list kept known.1 pair.1)

pub reserved_edited : (s t : List ExtentView) (m r h : Head) (list : List (RunOf LabelView)) → AreTables s m r → HasTable t h →
    part_kept_by_edits t h ≡ part_kept_by_edits s r → AreRecords (records_of_head t h) × (records_of_head t h ≡ list) → ArePlainRecords list
    → AreTables t m h × EditsTable s t r h m list
reserved_edited s t m r h list both table kept known plain =
    let other = stays s t m (λ x lies. edited_at s t r h kept x
    (beside (bytes_of_head r) (bytes_of_head m) x (turned (bytes_of_head m) (bytes_of_head r) both.apart) lies))
    (λ x was. ap (λ (k : PartKeptByEdits). k.ready x) kept ∙ was) both.memory in
    let same : records_of_head t m ≡ records_of_head s m = ap (λ (q : TableView). q.records) other.1 in (
      record {
        memory = other.0;
        reserved = table;
        apart = λ meet. both.apart (subst (λ (q : RangeView). Meet (bytes_of_head m) q) (same_bytes_by s t r h kept) meet);
        memory_records = rw same both.memory_records;
        reserved_records = known.0;
        plain = rw known.1 plain;
      },
      edits s t r h m list kept known.1 other.1,
    )

-- an edit of the reserved table gives no record a node, if the change gives none
plain_amended : (change : Option LabelView → Option LabelView)
    → ((o : Option LabelView) (label : LabelView) → ((l : LabelView) → o ≡ Some l → l ≡ plain_label) → change o ≡ Some label
    → label ≡ plain_label)
    → (r : RangeView) (rs : List (RunOf LabelView)) → AreRecords rs → ArePlainRecords rs → r.base + r.size ≤ 2 ^ 64 →
    ArePlainRecords (records_for (change_range change r (value_at rs)))
plain_amended change written r rs known plain ends x label is =
    let f = value_at rs in
    let g = change_range change r f in
    let carried : g x ≡ Some label =
    sym (ap (λ (h : Labels). h x) (value_at-records g (amended_ends change r f (2 ^ 64) ends known.within))) ∙ is in
    elim (cases_Bool (covers r x)) as (λ _. label ≡ plain_label) [
      | inl lies ↦ written (f x) label (plain x) (rw lies at carried)
      | inr out ↦ plain x label (rw out at carried)
    ]

plain_or : (o : Option LabelView) (label : LabelView) → ((l : LabelView) → o ≡ Some l → l ≡ plain_label) →
    Some (unwrap_or o plain_label) ≡ Some label → label ≡ plain_label
plain_or None label plain is = sym (cc is)
plain_or (Some l) label plain is = plain label is

pub plain_covered : (r : RangeView) (rs : List (RunOf LabelView)) → AreRecords rs → ArePlainRecords rs → r.base + r.size ≤ 2 ^ 64 →
    ArePlainRecords (records_for (cover_range r plain_label (value_at rs)))
plain_covered = plain_amended (λ carried. Some (unwrap_or carried plain_label)) plain_or

pub plain_uncovered : (r : RangeView) (rs : List (RunOf LabelView)) → AreRecords rs → ArePlainRecords rs → r.base + r.size ≤ 2 ^ 64 →
    ArePlainRecords (records_for (uncover_range r (value_at rs)))
plain_uncovered = plain_amended (λ (carried : Option LabelView). None) (λ o label plain is. cc is)

-- a table that moves to a place apart from the other table stays apart from it
moved_apart : (s t : List ExtentView) (g h o : Head) (place : ℕ) → MovesTable s t g h place →
    ¬ Meet (bytes_of_head o) (record { base = place; size = 48 * g.room }) → ¬ Meet (bytes_of_head o) (bytes_of_head h)
moved_apart s t g h o place e apart both =
    let size : 24 * h.room ≡ 48 * g.room = omega (arith, e.room_is) in
    apart (subst (λ (r : RangeView). Meet (bytes_of_head o) r)
    (let at : bytes_of_head h ≡ record { base = place; size = 48 * g.room } = rw (e.place_is, size) refl in at) both)

moved_other : (s t : List ExtentView) (g h o : Head) (place : ℕ) → MovesTable s t g h place → ¬ Meet (bytes_of_head o) (bytes_of_head g) →
    ¬ Meet (bytes_of_head o) (record { base = place; size = 48 * g.room }) →
    HasTable s o → HasTable t o × (table_of_head t o ≡ table_of_head s o)
moved_other s t g h o place e old new table =
    let new_too = moved_apart s t g h o place e new in
    stays s t o (λ x lies.
    e.elsewhere x (beside (bytes_of_head h) (bytes_of_head o) x (turned (bytes_of_head o) (bytes_of_head h) new_too) lies)
    (beside (bytes_of_head g) (bytes_of_head o) x (turned (bytes_of_head o) (bytes_of_head g) old) lies)) (λ x was. e.ready x ∙ was) table

pub move_memory : (s t : List ExtentView) (m r h : Head) (place : ℕ) → AreTables s m r → MovesTable s t m h place →
    ¬ Meet (bytes_of_head r) (record { base = place; size = 48 * m.room }) → AreTables t h r × (table_of_head t r ≡ table_of_head s r)
move_memory s t m r h place both e apart =
    let other = moved_other s t m h r place e (turned (bytes_of_head m) (bytes_of_head r) both.apart) apart both.reserved in
    beside_memory s t m r h both other e.table (turned (bytes_of_head r) (bytes_of_head h) (moved_apart s t m h r place e apart))
    (rw e.list_is both.memory_records)

pub move_reserved : (s t : List ExtentView) (m r h : Head) (place : ℕ) → AreTables s m r → MovesTable s t r h place →
    ¬ Meet (bytes_of_head m) (record { base = place; size = 48 * r.room }) → AreTables t m h × (table_of_head t m ≡ table_of_head s m)
move_reserved s t m r h place both e apart =
    let other = moved_other s t r h m place e both.apart apart both.memory in
    let same : records_of_head t m ≡ records_of_head s m = ap (λ (q : TableView). q.records) other.1 in (
      record {
        memory = other.0;
        reserved = e.table;
        apart = moved_apart s t r h m place e apart;
        memory_records = rw same both.memory_records;
        reserved_records = rw e.list_is both.reserved_records;
        plain = rw e.list_is both.plain;
      },
      other.1,
    )

-- both tables stay if no byte of theirs changes
pub both_stay : (s t : List ExtentView) (m r : Head) → AreTables s m r
    → ((x : ℕ) → covers (bytes_of_head m) x ≡ true → byte_of t x ≡ byte_of s x) →
    ((x : ℕ) → covers (bytes_of_head r) x ≡ true → byte_of t x ≡ byte_of s x)
    → ((x : ℕ) → is_prepared_at s x ≡ true → is_prepared_at t x ≡ true) →
    AreTables t m r × (table_of_head t m ≡ table_of_head s m) × (table_of_head t r ≡ table_of_head s r)
both_stay s t m r both at_memory at_reserved ready =
    let first = stays s t m at_memory ready both.memory in
    let second = stays s t r at_reserved ready both.reserved in
    let same : records_of_head t m ≡ records_of_head s m = ap (λ (q : TableView). q.records) first.1 in
    let tables = beside_memory s t m r m both second first.0 both.apart (rw same both.memory_records) in
    (tables.0, first.1, tables.1)

-- both tables are unchanged if bytes outside them are filled
pub filled_stay : (s t : List ExtentView) (m r : Head) (range : RangeView) (g : ℕ → ℕ) → AreTables s m r
    → WritesBytes s t range.base range.size g →
    ¬ OverlapsTable (let v : TablesView = record { memory = table_of_head s m; reserved = table_of_head s r; store = s } in v) range →
    AreTables t m r × (table_of_head t m ≡ table_of_head s m) × (table_of_head t r ≡ table_of_head s r)
filled_stay s t m r range g both w apart =
    both_stay s t m r both
    (λ x lies. let off : covers range x ≡ false = beside range (bytes_of_head m) x
    (λ meet. apart (which.Memory, swapped range (bytes_of_head m) meet)) lies in
    w.outside x (grind (arith, nat_tests)))
    (λ x lies. let off : covers range x ≡ false = beside range (bytes_of_head r) x
    (λ meet. apart (which.Reserved, swapped range (bytes_of_head r) meet)) lies in
    w.outside x (grind (arith, nat_tests)))
    (λ x was. w.ready x ∙ was)

-- both tables are unchanged if more addresses are prepared and no byte changes
pub prepared_stay : (s t : List ExtentView) (m r : Head) (range : RangeView) → AreTables s m r → ((x : ℕ) → byte_of t x ≡ byte_of s x) →
    ((x : ℕ) → is_prepared_at t x ≡ (covers range x || is_prepared_at s x)) → AreTables t m r × (table_of_head t m ≡ table_of_head s m)
    × (table_of_head t r ≡ table_of_head s r)
prepared_stay s t m r range both bytes ready =
    both_stay s t m r both (λ x lies. bytes x) (λ x lies. bytes x) (λ x was. ready x ∙ or_right (covers range x) (is_prepared_at s x) was)
