-- If both tables are apart, the bytes at the place of each are those of its records.
use Rattle.std.proofs.Common.{◌≡◌, ℕ, zero, suc, ◌+◌, ◌-◌, ◌*◌, ◌<◌, ◌≤◌, true, false, List, [], ◌∷◌, ◌++◌, length, get_or, refl, sym, ◌∙◌, ap, arith, length-append}
use Rattle.std.proofs.lemmas.Bool.{false_from_ne_true}
use Rattle.std.proofs.lemmas.Bool.Decides.{nat_tests}
use Rattle.std.proofs.lemmas.List.{length-replicate}
use Rattle.bm_base.specs.Range.{RangeView, covers}
use Rattle.phys_store.specs.Bytes.{bytes_at}
use Rattle.phys_store.proofs.ByteLists.{told_bytes}
use Rattle.address_runs.specs.Runs.{RunOf}
use Rattle.memblock_model.specs.Labels.{LabelView}
use Rattle.memblock_model.specs.declared.owner.Which.{Which}
use Rattle.memblock_model.specs.declared.owner.Which.TheVariants as which
use Rattle.memblock_model.specs.declared.item.Item.{Item}
use Rattle.memblock_model.specs.Tables.{records_of, room_of, table_place, table_bytes}
use Rattle.memblock_ranges.specs.Encoding.{encode_table, encode_record, flags_field, node_field}
use Rattle.memblock_ranges.proofs.SpellLaws.{length-fields_of}
use Rattle.growth_model.specs.Tables.{TablesAreClaimed, TablesHaveRoom, AreDisjoint}
use Rattle.growth_model.proofs.ToldLaws.{listed-told, chosen}
use Rattle.growth_model.specs.Bytes.{table_from_items, table_byte_at, TablesAreEncoded}

-- no byte is in both tables
pub table_bytes-clear : (kernel : RangeView) (items : List Item) → TablesAreClaimed kernel items →
    AreDisjoint (table_bytes which.Memory kernel items) (table_bytes which.Reserved kernel items)
table_bytes-clear kernel items placed = λ x here too. placed.seats.apart x x here too refl

-- the byte at an address of a table is that of its encoding
pub journal-stands : (w : Which) (kernel : RangeView) (items : List Item) (f : ℕ → ℕ) (x : ℕ) → TablesAreClaimed kernel items →
    TablesAreEncoded (table_from_items which.Memory kernel items) (table_from_items which.Reserved kernel items) f
    → covers (table_bytes w kernel items) x ≡ true →
    f x ≡ table_byte_at (table_from_items w kernel items) x
journal-stands which.Memory kernel items f x placed spelled here = spelled x ∙ rw here refl
journal-stands which.Reserved kernel items f x placed spelled here =
    let beside : covers (table_bytes which.Memory kernel items) x ≡ false =
    false_from_ne_true _ (λ too. table_bytes-clear kernel items placed x too here) in
    spelled x ∙ rw (beside, here) refl

-- conversely, if the bytes at both places are those of the encodings, both tables are in their
-- bytes
pub spelled-from : (kernel : RangeView) (items : List Item) (f : ℕ → ℕ) →
    ((w : Which) (x : ℕ) → covers (table_bytes w kernel items) x ≡ true → f x ≡ table_byte_at (table_from_items w kernel items) x) →
    TablesAreEncoded (table_from_items which.Memory kernel items) (table_from_items which.Reserved kernel items) f
spelled-from kernel items f each = λ x.
    chosen (covers (table_bytes which.Memory kernel items) x) (covers (table_bytes which.Reserved kernel items) x) (f x)
    (table_byte_at (table_from_items which.Memory kernel items) x) (table_byte_at (table_from_items which.Reserved kernel items) x) (f x)
    (each which.Memory x) (each which.Reserved x) (λ out too. refl)

-- the same statement for lists of bytes
pub spelled-lists : (kernel : RangeView) (items : List Item) (f : ℕ → ℕ) →
    ((w : Which) → bytes_at f (table_place w kernel items) (24 * room_of w items) ≡ encode_table (records_of w items) (room_of w items)) →
    TablesAreEncoded (table_from_items which.Memory kernel items) (table_from_items which.Reserved kernel items) f
spelled-lists kernel items f lists =
    spelled-from kernel items f (λ w x here. listed-told (table_from_items w kernel items) f x (lists w) here)

-- a table with room for its records has 24 bytes for each
pub length-spelled_table : (rs : List (RunOf LabelView)) (n : ℕ) → length rs ≤ n → length (encode_table rs n) ≡ 24 * n
unfolding encode_table
length-spelled_table [] n few = length-replicate (24 * n) 0
length-spelled_table (r ∷ rs) zero few = absurd (omega arith)
length-spelled_table (r ∷ rs) (suc n) few =
    let left : suc n - 1 ≡ n = omega arith in
    let rest = length-spelled_table rs n (omega arith) in
    let first = length-fields_of r.base r.size (flags_field r.value) (node_field r.value) in
    ap (λ (k : ℕ). length (encode_record r ++ encode_table rs k)) left ∙ length-append (encode_record r) (encode_table rs n)
    ∙ omega (arith, first, rest)

spelled_here : (w : Which) (kernel : RangeView) (items : List Item) (f : ℕ → ℕ) (k : ℕ) → TablesAreClaimed kernel items →
    TablesAreEncoded (table_from_items which.Memory kernel items) (table_from_items which.Reserved kernel items) f
    → k < 24 * room_of w items →
    get_or (encode_table (records_of w items) (room_of w items)) k 0 ≡ f (table_place w kernel items + k)
spelled_here w kernel items f k placed spelled below =
    let place = table_place w kernel items in
    let back : place + k - place ≡ k = omega arith in
    sym (journal-stands w kernel items f (place + k) placed spelled (grind (arith, nat_tests, below))
    ∙ ap (λ (i : ℕ). get_or (encode_table (records_of w items) (room_of w items)) i 0) back)

-- as one list: the bytes at the place of a table are the encoding of its records
pub list-stands : (w : Which) (kernel : RangeView) (items : List Item) (f : ℕ → ℕ) → TablesAreClaimed kernel items → TablesHaveRoom items →
    TablesAreEncoded (table_from_items which.Memory kernel items) (table_from_items which.Reserved kernel items) f →
    bytes_at f (table_place w kernel items) (24 * room_of w items) ≡ encode_table (records_of w items) (room_of w items)
list-stands w kernel items f placed fits spelled =
    sym (told_bytes f (table_place w kernel items) (24 * room_of w items) (encode_table (records_of w items) (room_of w items))
    (length-spelled_table (records_of w items) (room_of w items) (fits w))
    (λ k below. spelled_here w kernel items f k placed spelled below))
