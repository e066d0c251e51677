-- How bytes follow items: no item, one item, and one call after another.
use Rattle.std.proofs.Common.{◌≡◌, ℕ, Bool, false, if◌then◌else◌, List, [], ◌∷◌, ◌++◌, refl, sym, ◌∙◌, ap, subst, append_assoc}
use Rattle.std.proofs.lemmas.List.{append-nil}
use Rattle.std.proofs.Math.Bool.{or-false}
use Rattle.bm_base.specs.Range.{RangeView}
use Rattle.memblock_model.specs.declared.owner.Which.{Which}
use Rattle.memblock_model.specs.declared.owner.Which.TheVariants as which
use Rattle.memblock_model.specs.declared.item.Item.{Item}
use Rattle.memblock_model.specs.declared.item.Item.TheVariants as item
use Rattle.memblock_ranges.specs.Tables.{TableView}
use Rattle.growth_model.specs.Bytes.{table_from_items, byte_with_tables, TablesAreEncoded, byte_without_table, byte_with_item_tables, is_vacated_by, is_vacated, byte_after_items, Follows}
use Rattle.growth_model.proofs.BytesLaws.{byte_with_tables-again, after-along, after-chain}

-- two tables that are those of the items show the same bytes
pub byte_with_item_tables-by : (kernel : RangeView) (items : List Item) (m r : TableView) (x b : ℕ)
    → m ≡ table_from_items which.Memory kernel items →
    r ≡ table_from_items which.Reserved kernel items → byte_with_tables m r x b ≡ byte_with_item_tables kernel items x b
byte_with_item_tables-by kernel items m r x b first second = rw (first, second) refl

-- the tables of the items are encoded in the bytes if equal tables are
pub spelled-by : (kernel : RangeView) (items : List Item) (m r : TableView) (f : ℕ → ℕ) → m ≡ table_from_items which.Memory kernel items →
    r ≡ table_from_items which.Reserved kernel items → TablesAreEncoded m r f →
    TablesAreEncoded (table_from_items which.Memory kernel items) (table_from_items which.Reserved kernel items) f
spelled-by kernel items m r f first second spelled = λ x. spelled x ∙ byte_with_item_tables-by kernel items m r x (f x) first second

pub follows-along : (kernel : RangeView) (items more longer : List Item) (f g : ℕ → ℕ) → longer ≡ items ++ more →
    ((x : ℕ) → g x ≡ byte_with_item_tables kernel longer x (if is_vacated kernel items more x then 0 else f x))
    → Follows kernel items longer f g
follows-along kernel items more longer f g goes each = record {
  more = more;
  goes_on = goes;
  each = λ x. each x ∙ sym (after-along kernel items more longer x (f x) goes);
}

-- bytes that don't change follow a list of items that doesn't grow
pub follows-still : (kernel : RangeView) (items : List Item) (m r : TableView) (f g : ℕ → ℕ)
    → m ≡ table_from_items which.Memory kernel items →
    r ≡ table_from_items which.Reserved kernel items → TablesAreEncoded m r f → ((x : ℕ) → g x ≡ f x) → Follows kernel items items f g
follows-still kernel items m r f g first second spelled same =
    follows-along kernel items [] items f g (sym (append-nil items))
    (λ x. same x ∙ spelled-by kernel items m r f first second spelled x)

pub follows-none : (kernel : RangeView) (items : List Item) (m r : TableView) (f : ℕ → ℕ) → m ≡ table_from_items which.Memory kernel items →
    r ≡ table_from_items which.Reserved kernel items → TablesAreEncoded m r f → Follows kernel items items f f
follows-none kernel items m r f first second spelled = follows-still kernel items m r f f first second spelled (λ x. refl)

-- the bytes after one item that moves no table; the premise about that is proved by `λ x. refl`
pub follows-item : (kernel : RangeView) (items : List Item) (i : Item) (m r : TableView) (f g : ℕ → ℕ) →
    ((x : ℕ) → is_vacated_by kernel items i x ≡ false) → m ≡ table_from_items which.Memory kernel (items ++ i ∷ []) →
    r ≡ table_from_items which.Reserved kernel (items ++ i ∷ []) → ((x : ℕ) → g x ≡ byte_with_tables m r x (f x)) →
    Follows kernel items (items ++ i ∷ []) f g
follows-item kernel items i m r f g stays first second told =
    follows-along kernel items (i ∷ []) (items ++ i ∷ []) f g refl
    (λ x. told x ∙ byte_with_item_tables-by kernel (items ++ i ∷ []) m r x (f x) first second
    ∙ ap (λ (t : Bool). byte_with_item_tables kernel (items ++ i ∷ []) x (if t then 0 else f x))
    (sym (or-false (is_vacated_by kernel items i x) ∙ stays x)))

-- the bytes after the item that moves a table
pub follows-grown : (kernel : RangeView) (items : List Item) (w : Which) (place room : ℕ) (old m r : TableView) (f g : ℕ → ℕ) →
    old ≡ table_from_items w kernel items → m ≡ table_from_items which.Memory kernel (items ++ item.Grown w place room ∷ []) →
    r ≡ table_from_items which.Reserved kernel (items ++ item.Grown w place room ∷ []) →
    ((x : ℕ) → g x ≡ byte_with_tables m r x (byte_without_table old x (f x)))
    → Follows kernel items (items ++ item.Grown w place room ∷ []) f g
follows-grown kernel items w place room old m r f g was first second told =
    let i : Item = item.Grown w place room in
    follows-along kernel items (i ∷ []) (items ++ i ∷ []) f g refl
    (λ x. told x ∙ byte_with_item_tables-by kernel (items ++ i ∷ []) m r x (byte_without_table old x (f x)) first second
    ∙ ap (λ (t : TableView). byte_with_item_tables kernel (items ++ i ∷ []) x (byte_without_table t x (f x))) was
    ∙ ap (λ (t : Bool). byte_with_item_tables kernel (items ++ i ∷ []) x (if t then 0 else f x))
    (sym (or-false (is_vacated_by kernel items i x))))

-- one call after another
pub follows-then : (kernel : RangeView) (items mid last : List Item) (f g h : ℕ → ℕ) → Follows kernel items mid f g →
    Follows kernel mid last g h → Follows kernel items last f h
follows-then kernel items mid last f g h first second = record {
  more = first.more ++ second.more;
  goes_on = second.goes_on ∙ ap (λ (is : List Item). is ++ second.more) first.goes_on ∙ append_assoc items first.more second.more;
  each = λ x. second.each x ∙ ap (λ (n : ℕ). byte_after_items kernel mid last x n) (first.each x)
      ∙ after-chain kernel items first.more second.more mid last x (f x) first.goes_on second.goes_on;
}

-- the bytes after two calls, of which the second has an equal range for the kernel
pub follows-next : (kernel other : RangeView) (items mid last : List Item) (f g h : ℕ → ℕ) → other ≡ kernel →
    Follows kernel items mid f g → Follows other mid last g h → Follows kernel items last f h
follows-next kernel other items mid last f g h same first second =
    follows-then kernel items mid last f g h first (subst (λ (k : RangeView). Follows k mid last g h) same second)

-- after the items both tables are encoded in their bytes again
pub follows-spelled : (kernel : RangeView) (items longer : List Item) (f g : ℕ → ℕ) → Follows kernel items longer f g →
    TablesAreEncoded (table_from_items which.Memory kernel longer) (table_from_items which.Reserved kernel longer) g
unfolding byte_after_items
follows-spelled kernel items longer f g follows = λ x.
    let m = table_from_items which.Memory kernel longer in
    let r = table_from_items which.Reserved kernel longer in
    follows.each x ∙ sym (ap (λ (n : ℕ). byte_with_tables m r x n) (follows.each x) ∙ byte_with_tables-again m r x _)

-- two tables that are those of the longer list are encoded in their bytes
pub follows-stands : (kernel : RangeView) (items longer : List Item) (m r : TableView) (f g : ℕ → ℕ) →
    m ≡ table_from_items which.Memory kernel longer → r ≡ table_from_items which.Reserved kernel longer → Follows kernel items longer f g →
    TablesAreEncoded m r g
follows-stands kernel items longer m r f g first second follows =
    λ x. follows-spelled kernel items longer f g follows x ∙ sym (byte_with_item_tables-by kernel longer m r x (g x) first second)
