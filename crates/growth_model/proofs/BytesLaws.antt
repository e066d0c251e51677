-- Why the effect of further items can be computed in parts: a table stays at an address until an
-- item moves it away, and as long as it is there the older bytes don't matter.
use Rattle.std.proofs.Common.{◌≡◌, ℕ, ◌+◌, ◌<◌, ◌≤◌, ◌==◌, Bool, true, false, ◌&&◌, ◌||◌, if◌then◌else◌, List, [], ◌∷◌, ◌++◌, length, refl, sym, ◌∙◌, ap, subst, append_assoc, arith, length-append}
use Rattle.std.proofs.lemmas.Bool.{ne_eqb, or_parts}
use Rattle.std.proofs.lemmas.List.{append-nil}
use Rattle.std.proofs.Math.Seq.{drop-append_seam}
use Rattle.bm_base.specs.Range.{RangeView, covers}
use Rattle.memblock_model.specs.declared.owner.Which.{Which}
use Rattle.memblock_model.specs.declared.owner.Which.TheVariants as which
use Rattle.memblock_model.specs.declared.item.Item.{Item}
use Rattle.memblock_model.specs.declared.item.Item.TheVariants as item
use Rattle.memblock_model.specs.Tables.{room_after, room_of, moved_after, moved_to, table_bytes}
use Rattle.memblock_model.proofs.ItemLaws.{room_of-push, moved_to-push}
use Rattle.memblock_ranges.specs.Tables.{TableView, bytes_of}
use Rattle.growth_model.proofs.PlacedLaws.{live_by, table_bytes-is}
use Rattle.growth_model.specs.Bytes.{table_from_items, table_byte_at, byte_with_tables, byte_with_item_tables, is_vacated_by, is_vacated, byte_after_items, Fill, byte_after_fills, byte_outside_tables, byte_from_history, AreFillsUpTo}

-- the range of a table's bytes after one more item
table_bytes-push : (w : Which) (kernel : RangeView) (items : List Item) (i : Item) →
    table_bytes w kernel (items ++ i ∷ []) ≡ live_by w kernel (moved_after w (moved_to w items) i) (room_after w (room_of w items) i)
table_bytes-push w kernel items i = table_bytes-is w kernel (items ++ i ∷ []) _ _ (moved_to-push w items i) (room_of-push w items i)

-- an item that doesn't move a table away from an address leaves it there
stays_at : (w : Which) (kernel : RangeView) (items : List Item) (i : Item) (x : ℕ) → covers (table_bytes w kernel items) x ≡ true →
    is_vacated_by kernel items i x ≡ false →
    covers (live_by w kernel (moved_after w (moved_to w items) i) (room_after w (room_of w items) i)) x ≡ true
stays_at which.Memory kernel items (item.Grown which.Memory place room) x here stays = cc
stays_at which.Memory kernel items (item.Grown which.Reserved place room) x here stays = here
stays_at which.Reserved kernel items (item.Grown which.Memory place room) x here stays = here
stays_at which.Reserved kernel items (item.Grown which.Reserved place room) x here stays = cc
stays_at w kernel items i x here stays = here

pub stays_or_left : (w : Which) (kernel : RangeView) (items : List Item) (i : Item) (x : ℕ) → covers (table_bytes w kernel items) x ≡ true →
    is_vacated_by kernel items i x ≡ false → covers (table_bytes w kernel (items ++ i ∷ [])) x ≡ true
stays_or_left w kernel items i x here stays =
    subst (λ (r : RangeView). covers r x ≡ true) (sym (table_bytes-push w kernel items i)) (stays_at w kernel items i x here stays)

-- several such items leave it there too
pub still_live : (w : Which) (kernel : RangeView) (items more : List Item) (x : ℕ) → covers (table_bytes w kernel items) x ≡ true →
    is_vacated kernel items more x ≡ false → covers (table_bytes w kernel (items ++ more)) x ≡ true
still_live w kernel items [] x here stays =
    subst (λ (is : List Item). covers (table_bytes w kernel is) x ≡ true) (sym (append-nil items)) here
still_live w kernel items (i ∷ more) x here stays =
    let parts = or_parts (is_vacated_by kernel items i x) (is_vacated kernel (items ++ i ∷ []) more x) stays in
    subst (λ (is : List Item). covers (table_bytes w kernel is) x ≡ true) (append_assoc items (i ∷ []) more)
    (still_live w kernel (items ++ i ∷ []) more x (stays_or_left w kernel items i x here parts.0) parts.1)

-- two tables that cover what two older ones covered hide the older ones' bytes
over_bools : (m r n s : Bool) (a b d e c : ℕ) → (m ≡ true → n ≡ true) → (r ≡ true → s ≡ true) →
    (if n then a else (if s then b else (if m then d else (if r then e else c)))) ≡ (if n then a else (if s then b else c))
over_bools m r true s a b d e c first second = refl
over_bools m r false true a b d e c first second = refl
over_bools true r false false a b d e c first second = let clash : false ≡ true = first refl in cc clash
over_bools false true false false a b d e c first second = let clash : false ≡ true = second refl in cc clash
over_bools false false false false a b d e c first second = refl

pub byte_with_tables-over : (m r n s : TableView) (x c : ℕ) → (covers (bytes_of m) x ≡ true → covers (bytes_of n) x ≡ true) →
    (covers (bytes_of r) x ≡ true → covers (bytes_of s) x ≡ true)
    → byte_with_tables n s x (byte_with_tables m r x c) ≡ byte_with_tables n s x c
byte_with_tables-over m r n s x c first second =
    over_bools (covers (bytes_of m) x) (covers (bytes_of r) x) (covers (bytes_of n) x) (covers (bytes_of s) x)
    (table_byte_at n x) (table_byte_at s x) (table_byte_at m x) (table_byte_at r x) c first second

-- putting the bytes of two tables over a byte twice is the same as doing it once
pub byte_with_tables-again : (m r : TableView) (x c : ℕ) → byte_with_tables m r x (byte_with_tables m r x c) ≡ byte_with_tables m r x c
byte_with_tables-again m r x c = byte_with_tables-over m r m r x c (λ here. here) (λ here. here)

pub byte_with_item_tables-further : (kernel : RangeView) (items more : List Item) (x c : ℕ) → is_vacated kernel items more x ≡ false →
    byte_with_item_tables kernel (items ++ more) x (byte_with_item_tables kernel items x c)
    ≡ byte_with_item_tables kernel (items ++ more) x c
byte_with_item_tables-further kernel items more x c stays =
    byte_with_tables-over (table_from_items which.Memory kernel items) (table_from_items which.Reserved kernel items)
    (table_from_items which.Memory kernel (items ++ more)) (table_from_items which.Reserved kernel (items ++ more)) x c
    (λ here. still_live which.Memory kernel items more x here stays)
    (λ here. still_live which.Reserved kernel items more x here stays)

or_assoc : (a b c : Bool) → (a || (b || c)) ≡ ((a || b) || c)
or_assoc true b c = refl
or_assoc false b c = refl

-- a table moves away from an address in two lists of items if it does in the first, or in the
-- second after the first
pub is_vacated-append : (kernel : RangeView) (items more further : List Item) (x : ℕ) →
    is_vacated kernel items (more ++ further) x ≡ (is_vacated kernel items more x || is_vacated kernel (items ++ more) further x)
is_vacated-append kernel items [] further x = ap (λ (is : List Item). is_vacated kernel is further x) (sym (append-nil items))
is_vacated-append kernel items (i ∷ more) further x =
    ap (λ (b : Bool). is_vacated_by kernel items i x || b)
    (is_vacated-append kernel (items ++ i ∷ []) more further x
    ∙ ap (λ (is : List Item). is_vacated kernel (items ++ i ∷ []) more x || is_vacated kernel is further x)
    (append_assoc items (i ∷ []) more))
    ∙ or_assoc (is_vacated_by kernel items i x) (is_vacated kernel (items ++ i ∷ []) more x)
    (is_vacated kernel (items ++ i ∷ more) further x)

pub after-is : (kernel : RangeView) (items more : List Item) (x b : ℕ) →
    byte_after_items kernel items (items ++ more) x b
    ≡ byte_with_item_tables kernel (items ++ more) x (if is_vacated kernel items more x then 0 else b)
unfolding byte_after_items
after-is kernel items more x b =
    ap (λ (is : List Item). byte_with_item_tables kernel (items ++ more) x (if is_vacated kernel items is x then 0 else b))
    (drop-append_seam items more)

pub after-along : (kernel : RangeView) (items more longer : List Item) (x b : ℕ) → longer ≡ items ++ more →
    byte_after_items kernel items longer x b ≡ byte_with_item_tables kernel longer x (if is_vacated kernel items more x then 0 else b)
after-along kernel items more longer x b goes = rw goes (after-is kernel items more x b)

-- computing the byte after two parts of the items, one after the other, gives the byte after both
left_twice : (g h : ℕ → ℕ) (first second : Bool) (b : ℕ) → (second ≡ false → (c : ℕ) → g (h c) ≡ g c) →
    g (if second then 0 else h (if first then 0 else b)) ≡ g (if first || second then 0 else b)
left_twice g h true true b hides = refl
left_twice g h false true b hides = refl
left_twice g h true false b hides = hides refl 0
left_twice g h false false b hides = hides refl b

-- the further items, applied to the byte after the first ones, give the byte after all of them
pub after-after : (kernel : RangeView) (items more further : List Item) (x b : ℕ) →
    byte_after_items kernel (items ++ more) ((items ++ more) ++ further) x (byte_after_items kernel items (items ++ more) x b)
    ≡ byte_after_items kernel items ((items ++ more) ++ further) x b
after-after kernel items more further x b =
    after-is kernel (items ++ more) further x (byte_after_items kernel items (items ++ more) x b)
    ∙ ap (λ (n : ℕ). byte_with_item_tables kernel ((items ++ more) ++ further) x (if is_vacated kernel (items ++ more) further x then 0
    else n))
    (after-is kernel items more x b)
    ∙ left_twice (byte_with_item_tables kernel ((items ++ more) ++ further) x) (byte_with_item_tables kernel (items ++ more) x)
    (is_vacated kernel items more x)
    (is_vacated kernel (items ++ more) further x) b (λ stays c. byte_with_item_tables-further kernel (items ++ more) further x c stays)
    ∙ sym (after-along kernel items (more ++ further) ((items ++ more) ++ further) x b (append_assoc items more further)
    ∙ ap (λ (t : Bool). byte_with_item_tables kernel ((items ++ more) ++ further) x (if t then 0 else b))
    (is_vacated-append kernel items more further x))

pub after-chain : (kernel : RangeView) (items more further mid last : List Item) (x b : ℕ) → mid ≡ items ++ more → last ≡ mid ++ further →
    byte_after_items kernel mid last x (byte_after_items kernel items mid x b) ≡ byte_after_items kernel items last x b
after-chain kernel items more further mid last x b goes goes_on = rw (goes_on, goes) (after-after kernel items more further x b)

-- fills that were made earlier change nothing later
byte_after_fills-later : (n m : ℕ) (fills : List Fill) (x b : ℕ) → AreFillsUpTo n fills → n < m → byte_after_fills m fills x b ≡ b
byte_after_fills-later n m [] x b made less = refl
byte_after_fills-later n m (f ∷ fills) x b made less =
    let earlier : f.at ≤ n = made.0 in
    let other : (f.at == m) ≡ false = ne_eqb f.at m (λ same. omega arith) in
    ap (λ (t : Bool). byte_after_fills m fills x (if t && covers f.range x then f.byte else b)) other
    ∙ byte_after_fills-later n m fills x b made.1 less

pub AreFillsUpTo-more : (n m : ℕ) (fills : List Fill) → n ≤ m → AreFillsUpTo n fills → AreFillsUpTo m fills
AreFillsUpTo-more n m [] less made = tt
AreFillsUpTo-more n m (f ∷ fills) less made = let earlier : f.at ≤ n = made.0 in (omega arith, AreFillsUpTo-more n m fills less made.1)

pub byte_outside_tables-append : (kernel : RangeView) (fills : List Fill) (items more further : List Item) (x b : ℕ) →
    byte_outside_tables kernel fills items (more ++ further) x b
    ≡ byte_outside_tables kernel fills (items ++ more) further x (byte_outside_tables kernel fills items more x b)
byte_outside_tables-append kernel fills items [] further x b =
    ap (λ (is : List Item). byte_outside_tables kernel fills is further x b) (sym (append-nil items))
byte_outside_tables-append kernel fills items (i ∷ more) further x b =
    let now = byte_after_fills (length items + 1) fills x (if is_vacated_by kernel items i x then 0 else b) in
    byte_outside_tables-append kernel fills (items ++ i ∷ []) more further x now
    ∙ ap (λ (is : List Item). byte_outside_tables kernel fills is further x (byte_outside_tables kernel fills (items ++ i ∷ []) more x now))
    (append_assoc items (i ∷ []) more)

-- after the last fill only moves write
byte_outside_tables-beyond : (kernel : RangeView) (fills : List Fill) (items more : List Item) (x b : ℕ)
    → AreFillsUpTo (length items) fills →
    byte_outside_tables kernel fills items more x b ≡ (if is_vacated kernel items more x then 0 else b)
byte_outside_tables-beyond kernel fills items [] x b made = refl
byte_outside_tables-beyond kernel fills items (i ∷ more) x b made =
    let now : ℕ = if is_vacated_by kernel items i x then 0 else b in
    let long : length (items ++ i ∷ []) ≡ length items + 1 = length-append items (i ∷ []) in
    ap (λ (n : ℕ). byte_outside_tables kernel fills (items ++ i ∷ []) more x n)
    (byte_after_fills-later (length items) (length items + 1) fills x now made (omega arith))
    ∙ byte_outside_tables-beyond kernel fills (items ++ i ∷ []) more x now
    (AreFillsUpTo-more (length items) (length (items ++ i ∷ [])) fills (omega arith) made)
    ∙ left_twice (λ (n : ℕ). n) (λ (n : ℕ). n) (is_vacated_by kernel items i x) (is_vacated kernel (items ++ i ∷ []) more x) b (λ stays c.
    refl)

-- the byte of the longer list is the byte of the first items, with the further items applied
pub after-byte : (kernel : RangeView) (items more : List Item) (fills : List Fill) (x : ℕ) → AreFillsUpTo (length items) fills →
    byte_after_items kernel items (items ++ more) x (byte_from_history kernel items fills x)
    ≡ byte_from_history kernel (items ++ more) fills x
unfolding byte_from_history
after-byte kernel items more fills x made =
    let old = byte_outside_tables kernel fills [] items x (byte_after_fills 0 fills x 0) in
    after-is kernel items more x (byte_with_item_tables kernel items x old)
    ∙ left_twice (byte_with_item_tables kernel (items ++ more) x) (byte_with_item_tables kernel items x) false
    (is_vacated kernel items more x) old
    (λ stays c. byte_with_item_tables-further kernel items more x c stays)
    ∙ ap (λ (n : ℕ). byte_with_item_tables kernel (items ++ more) x n)
    (sym (byte_outside_tables-append kernel fills [] items more x (byte_after_fills 0 fills x 0)
    ∙ byte_outside_tables-beyond kernel fills items more x old made))
