-- A fill that overlaps no table is the newest write to its range, and both tables stay in their
-- bytes.
use Rattle.std.proofs.Common.{◌≡◌, ℕ, ◌+◌, ◌<◌, ◌≤◌, ◌==◌, Bool, true, false, ◌&&◌, if◌then◌else◌, List, [], ◌∷◌, ◌++◌, length, refl, sym, ◌∙◌, ap, arith, eq-eqb, length-append}
use Rattle.std.proofs.lemmas.Bool.{ne_eqb}
use Rattle.bm_base.specs.Range.{RangeView, covers}
use Rattle.memblock_model.specs.declared.owner.Which.TheVariants as which
use Rattle.memblock_model.specs.declared.item.Item.{Item}
use Rattle.memblock_ranges.specs.Tables.{TableView, bytes_of}
use Rattle.growth_model.specs.Tables.{AreDisjoint, OverlapsNoTable}
use Rattle.growth_model.specs.Bytes.{table_from_items, table_byte_at, byte_with_tables, TablesAreEncoded, byte_with_item_tables, is_vacated_by, byte_after_items, Fill, byte_after_fill, byte_after_fills, byte_outside_tables, byte_from_history, AreFillsUpTo, Follows, AreBytesFromHistory}
use Rattle.growth_model.proofs.BytesLaws.{AreFillsUpTo-more, after-byte}

byte_after_fills-append : (n : ℕ) (fills : List Fill) (f : Fill) (x b : ℕ) →
    byte_after_fills n (fills ++ f ∷ []) x b ≡ (if (f.at == n) && covers f.range x then f.byte else byte_after_fills n fills x b)
byte_after_fills-append n [] f x b = refl
byte_after_fills-append n (g ∷ fills) f x b = byte_after_fills-append n fills f x (if (g.at == n) && covers g.range x then g.byte else b)

-- a fill at this number of items is applied last
byte_after_fills-newest : (n : ℕ) (fills : List Fill) (f : Fill) (x b : ℕ) → f.at ≡ n →
    byte_after_fills n (fills ++ f ∷ []) x b ≡ byte_after_fill f x (byte_after_fills n fills x b)
byte_after_fills-newest n fills f x b now =
    byte_after_fills-append n fills f x b
    ∙ ap (λ (t : Bool). if t && covers f.range x then f.byte else byte_after_fills n fills x b) (eq-eqb f.at n now)

-- a fill isn't applied before its number of items is reached
byte_after_fills-before : (n : ℕ) (fills : List Fill) (f : Fill) (x b : ℕ) → n < f.at
    → byte_after_fills n (fills ++ f ∷ []) x b ≡ byte_after_fills n fills x b
byte_after_fills-before n fills f x b later =
    byte_after_fills-append n fills f x b
    ∙ ap (λ (t : Bool). if t && covers f.range x then f.byte else byte_after_fills n fills x b) (ne_eqb f.at n (λ same. omega arith))

byte_outside_tables-newest : (kernel : RangeView) (fills : List Fill) (f : Fill) (items : List Item) (i : Item) (more : List Item) (x b : ℕ)
    →
    f.at ≡ length items + length (i ∷ more) →
    byte_outside_tables kernel (fills ++ f ∷ []) items (i ∷ more) x b
    ≡ byte_after_fill f x (byte_outside_tables kernel fills items (i ∷ more) x b)
byte_outside_tables-newest kernel fills f items i [] x b last =
    byte_after_fills-newest (length items + 1) fills f x (if is_vacated_by kernel items i x then 0 else b) (omega arith)
byte_outside_tables-newest kernel fills f items i (k ∷ more) x b last =
    let now : ℕ = if is_vacated_by kernel items i x then 0 else b in
    let long : length (items ++ i ∷ []) ≡ length items + 1 = length-append items (i ∷ []) in
    ap (λ (n : ℕ). byte_outside_tables kernel (fills ++ f ∷ []) (items ++ i ∷ []) (k ∷ more) x n)
    (byte_after_fills-before (length items + 1) fills f x now (omega arith))
    ∙ byte_outside_tables-newest kernel fills f (items ++ i ∷ []) k more x (byte_after_fills (length items + 1) fills x now) (omega arith)

all-newest : (kernel : RangeView) (fills : List Fill) (f : Fill) (items : List Item) (x : ℕ) → f.at ≡ length items →
    byte_outside_tables kernel (fills ++ f ∷ []) [] items x (byte_after_fills 0 (fills ++ f ∷ []) x 0)
    ≡ byte_after_fill f x (byte_outside_tables kernel fills [] items x (byte_after_fills 0 fills x 0))
all-newest kernel fills f [] x last = byte_after_fills-newest 0 fills f x 0 last
all-newest kernel fills f (i ∷ more) x last =
    ap (λ (n : ℕ). byte_outside_tables kernel (fills ++ f ∷ []) [] (i ∷ more) x n) (byte_after_fills-before 0 fills f x 0 (omega arith))
    ∙ byte_outside_tables-newest kernel fills f [] i more x (byte_after_fills 0 fills x 0) (omega arith)

put_through : (m r c : Bool) (a b v n : ℕ) → (c ≡ true → m ≡ true → ⊥) → (c ≡ true → r ≡ true → ⊥) →
    (if m then a else (if r then b else (if c then v else n))) ≡ (if c then v else (if m then a else (if r then b else n)))
put_through m r false a b v n first second = refl
put_through true r true a b v n first second = absurd (first refl refl)
put_through false true true a b v n first second = absurd (second refl refl)
put_through false false true a b v n first second = refl

-- a fill that overlaps no table changes the byte by the same rule as without tables
pub byte_with_tables-put : (m r : TableView) (f : Fill) (x b : ℕ) → AreDisjoint f.range (bytes_of m) → AreDisjoint f.range (bytes_of r) →
    byte_with_tables m r x (byte_after_fill f x b) ≡ byte_after_fill f x (byte_with_tables m r x b)
byte_with_tables-put m r f x b first second =
    put_through (covers (bytes_of m) x) (covers (bytes_of r) x) (covers f.range x) (table_byte_at m x) (table_byte_at r x) f.byte b
    (first x) (second x)

-- the byte after the newest fill, which overlaps no table
pub fill-newest : (kernel : RangeView) (items : List Item) (fills : List Fill) (f : Fill) (x : ℕ) → f.at ≡ length items →
    OverlapsNoTable kernel f.range items
    → byte_from_history kernel items (fills ++ f ∷ []) x ≡ byte_after_fill f x (byte_from_history kernel items fills x)
unfolding byte_from_history
fill-newest kernel items fills f x last away =
    ap (λ (n : ℕ). byte_with_item_tables kernel items x n) (all-newest kernel fills f items x last)
    ∙ byte_with_tables-put (table_from_items which.Memory kernel items) (table_from_items which.Reserved kernel items) f x
    (byte_outside_tables kernel fills [] items x (byte_after_fills 0 fills x 0)) away.0 away.1

-- after a fill that overlaps no table, both tables are still encoded in their bytes
pub fill-spelled : (m r : TableView) (fill : Fill) (f g : ℕ → ℕ) → AreDisjoint fill.range (bytes_of m) → AreDisjoint fill.range (bytes_of r)
    →
    TablesAreEncoded m r f → ((x : ℕ) → g x ≡ byte_after_fill fill x (f x)) → TablesAreEncoded m r g
fill-spelled m r fill f g first second spelled filled_in = λ x.
    filled_in x ∙ ap (λ (n : ℕ). byte_after_fill fill x n) (spelled x)
    ∙ sym (byte_with_tables-put m r fill x (f x) first second)
    ∙ ap (λ (n : ℕ). byte_with_tables m r x n) (sym (filled_in x))

AreFillsUpTo-append : (n : ℕ) (fills : List Fill) (f : Fill) → AreFillsUpTo n fills → f.at ≤ n → AreFillsUpTo n (fills ++ f ∷ [])
AreFillsUpTo-append n [] f made now = (now, tt)
AreFillsUpTo-append n (g ∷ fills) f made now = (made.0, AreFillsUpTo-append n fills f made.1 now)

-- if each byte is the one that items and fills define, it still is after a call
pub holds-call : (kernel : RangeView) (items longer : List Item) (fills : List Fill) (f g : ℕ → ℕ)
    → AreBytesFromHistory kernel items fills f →
    Follows kernel items longer f g → AreBytesFromHistory kernel longer fills g
holds-call kernel items longer fills f g holds follows =
    let long : length longer ≡ length items + length follows.more = ap length follows.goes_on ∙ length-append items follows.more in
    record {
      made = AreFillsUpTo-more (length items) (length longer) fills (omega arith) holds.made;
      each = λ x. follows.each x ∙ ap (λ (n : ℕ). byte_after_items kernel items longer x n) (holds.each x)
          ∙ ap (λ (l : List Item). byte_after_items kernel items l x (byte_from_history kernel items fills x)) follows.goes_on
          ∙ after-byte kernel items follows.more fills x holds.made
          ∙ ap (λ (l : List Item). byte_from_history kernel l fills x) (sym follows.goes_on);
    }

-- if each byte is the one that items and fills define, it still is after a further fill
pub holds-fill : (kernel : RangeView) (items : List Item) (fills : List Fill) (fill : Fill) (f g : ℕ → ℕ)
    → AreBytesFromHistory kernel items fills f →
    fill.at ≡ length items → OverlapsNoTable kernel fill.range items → ((x : ℕ) → g x ≡ byte_after_fill fill x (f x)) →
    AreBytesFromHistory kernel items (fills ++ fill ∷ []) g
holds-fill kernel items fills fill f g holds last away filled_in = record {
  made = AreFillsUpTo-append (length items) fills fill holds.made (omega arith);
  each = λ x. filled_in x ∙ ap (λ (n : ℕ). byte_after_fill fill x n) (holds.each x) ∙ sym (fill-newest kernel items fills fill x last away);
}
