-- One equation for each byte after an edit of one table's records or a move of one table.
use Rattle.std.proofs.Common.{◌≡◌, ℕ, ◌+◌, ◌-◌, ◌*◌, Bool, true, false, if◌then◌else◌, List, get_or, sym, ◌∙◌, ap, arith}
use Rattle.std.proofs.lemmas.Bool.{cond_both}
use Rattle.std.proofs.lemmas.Bool.Decides.{nat_tests}
use Rattle.bm_base.specs.Range.{covers}
use Rattle.phys_store.specs.Bytes.{ExtentView, byte_of, bytes_at}
use Rattle.phys_store.proofs.ByteLists.{get-bytes_at}
use Rattle.address_runs.specs.Runs.{RunOf}
use Rattle.memblock_model.specs.Labels.{LabelView}
use Rattle.memblock_model.specs.declared.owner.Which.{Which}
use Rattle.memblock_model.specs.declared.owner.Which.TheVariants as which
use Rattle.memblock_ranges.specs.Encoding.{encode_table}
use Rattle.memblock_ranges.specs.Tables.{TableView, TablesView, table_in, bytes_of, table_range_in, IsInStore}
use Rattle.growth_model.specs.Bytes.{table_byte_at, byte_with_tables, byte_without_table}

-- if the bytes at a table's place are its encoding, so is each of them
pub listed-told : (t : TableView) (f : ℕ → ℕ) (x : ℕ) → bytes_at f t.place (24 * t.room) ≡ encode_table t.records t.room →
    covers (bytes_of t) x ≡ true → f x ≡ table_byte_at t x
listed-told t f x spelled here =
    let back : t.place + (x - t.place) ≡ x = grind (arith, nat_tests, here) in
    sym (ap (λ (bs : List ℕ). get_or bs (x - t.place) 0) (sym spelled)
    ∙ get-bytes_at f t.place (24 * t.room) (x - t.place) (grind (arith, nat_tests, here)) ∙ ap f back)

-- a byte of a table in the store is that of the table's encoding
pub table-told : (t : TableView) (s : List ExtentView) (x : ℕ) → IsInStore t s → covers (bytes_of t) x ≡ true
    → byte_of s x ≡ table_byte_at t x
table-told t s x stands here = listed-told t (byte_of s) x stands.bytes here

pub chosen : (m r : Bool) (y a b c : ℕ) → (m ≡ true → y ≡ a) → (r ≡ true → y ≡ b) → (m ≡ false → r ≡ false → y ≡ c) →
    y ≡ (if m then a else (if r then b else c))
chosen m r y a b c first second neither =
    cond_both m a (if r then b else c) (λ (n : ℕ). y ≡ n) first (λ out. cond_both r b c (λ (n : ℕ). y ≡ n) second (neither out))

-- every byte of a store that has both tables, from those outside them
pub all-told : (m r : TableView) (s : List ExtentView) (g : ℕ → ℕ) → IsInStore m s → IsInStore r s →
    ((x : ℕ) → covers (bytes_of m) x ≡ false → covers (bytes_of r) x ≡ false → byte_of s x ≡ g x) → (x : ℕ) →
    byte_of s x ≡ byte_with_tables m r x (g x)
all-told m r s g first second beside x =
    chosen (covers (bytes_of m) x) (covers (bytes_of r) x) (byte_of s x) (table_byte_at m x) (table_byte_at r x) (g x)
    (table-told m s x first) (table-told r s x second) (beside x)

-- outside both tables an address is in neither
beside-one : (w : Which) (t : TablesView) (x : ℕ) → covers (bytes_of t.memory) x ≡ false → covers (bytes_of t.reserved) x ≡ false →
    covers (table_range_in w t) x ≡ false
beside-one which.Memory t x first second = first
beside-one which.Reserved t x first second = second

-- the bytes after an edit of one table's records (`insert`, `remove`, and for the memory table
-- `set_node` and `trim`)
pub edit-told : (w : Which) (old new : TablesView) (records : List (RunOf LabelView)) →
    table_in w new ≡ record (table_in w old) { records = records } →
    ((x : ℕ) → covers (table_range_in w old) x ≡ false → byte_of new.store x ≡ byte_of old.store x) → IsInStore new.memory new.store →
    IsInStore new.reserved new.store → (x : ℕ) → byte_of new.store x ≡ byte_with_tables new.memory new.reserved x (byte_of old.store x)
edit-told w old new records edited elsewhere first second =
    all-told new.memory new.reserved new.store (byte_of old.store) first second
    (λ x out too. elsewhere x (ap (λ (t : TableView). covers (bytes_of t) x) (sym edited) ∙ beside-one w new x out too))

-- the bytes after a move of one table (`relocate`)
pub move-told : (w : Which) (old new : TablesView) → ((x : ℕ) → covers (table_range_in w old) x ≡ true → byte_of new.store x ≡ 0) →
    ((x : ℕ) → covers (table_range_in w new) x ≡ false → covers (table_range_in w old) x ≡ false
    → byte_of new.store x ≡ byte_of old.store x) →
    IsInStore new.memory new.store → IsInStore new.reserved new.store → (x : ℕ) →
    byte_of new.store x ≡ byte_with_tables new.memory new.reserved x (byte_without_table (table_in w old) x (byte_of old.store x))
move-told w old new gone elsewhere first second =
    all-told new.memory new.reserved new.store (λ x. byte_without_table (table_in w old) x (byte_of old.store x)) first second
    (λ x out too. cond_both (covers (table_range_in w old) x) 0 (byte_of old.store x) (λ (n : ℕ). byte_of new.store x ≡ n) (gone x)
    (λ away. elsewhere x (beside-one w new x out too) away))
