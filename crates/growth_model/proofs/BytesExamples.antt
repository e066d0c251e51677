-- Examples: a kernel's image with both tables in its last two frames, a memory table that moves
-- twice, and fills before, between and after the moves.
use Rattle.std.proofs.Common.{◌≡◌, ℕ, List, [], ◌∷◌, ◌++◌, refl, sym, arith, lit≤}
use Rattle.bm_base.specs.Range.{RangeView}
use Rattle.address_runs.specs.Runs.{RunOf}
use Rattle.memblock_model.specs.Labels.{LabelView, plain_label}
use Rattle.memblock_model.specs.declared.owner.Owner.TheVariants as owner
use Rattle.memblock_model.specs.declared.owner.Which.TheVariants as which
use Rattle.memblock_model.specs.declared.item.Item.{Item}
use Rattle.memblock_model.specs.declared.item.Item.TheVariants as item
use Rattle.memblock_ranges.specs.Encoding.{encode_table, encode_fields}
use Rattle.memblock_ranges.specs.Tables.{TableView}
use Rattle.growth_model.specs.Bytes.{byte_with_tables, TablesAreEncoded, byte_after_items, Fill, byte_from_history, AreFillsUpTo}
use Rattle.growth_model.proofs.BytesLaws.{byte_with_tables-again}

abbrev at_base : ℕ → ℕ → RangeView
at_base base size = record { base = base; size = size }

-- one record, 0x1000 to 0x17FF, in a table at 0x500000 with room for two
abbrev one_run : RunOf LabelView
one_run = record { base = 0x1000; size = 0x800; value = plain_label }

abbrev small_table : TableView
small_table = record { records = one_run ∷ []; place = 0x500000; room = 2 }

abbrev empty_table : TableView
empty_table = record { records = []; place = 0x600000; room = 1 }

-- a byte of the record's base, one of an empty slot, and one outside both tables
shown_by_examples : (byte_with_tables small_table empty_table 0x500001 7 ≡ 0x10) × (byte_with_tables small_table empty_table 0x600000 7 ≡ 0)
    × (byte_with_tables small_table empty_table 0x500030 7 ≡ 7)
unfolding encode_table encode_fields
shown_by_examples = (refl, refl, refl)

-- memory with the tables in it and 7 elsewhere has both tables; memory with 7 everywhere hasn't
are_spelled : TablesAreEncoded small_table empty_table (λ x. byte_with_tables small_table empty_table x 7)
are_spelled = λ x. sym (byte_with_tables-again small_table empty_table x 7)

not_spelled : ¬ TablesAreEncoded small_table empty_table (λ x. 7)
unfolding encode_table encode_fields
not_spelled = λ spelled. let clash : 7 ≡ 0x10 = spelled 0x500001 in omega (arith, clash)

-- the image ends at 0x1100000; at first the memory table is at 0x10FE000 and the reserved one at
-- 0x10FF000
abbrev kernel : RangeView
kernel = at_base 0x1000000 0x100000

abbrev begun : List Item
begun = item.Claim kernel owner.Kernel ∷ []

abbrev first_move : Item
first_move = item.Grown which.Memory 0x2000000 256

abbrev second_move : Item
second_move = item.Grown which.Memory 0x3000000 512

abbrev moved_once : List Item
moved_once = begun ++ first_move ∷ []

abbrev moved_twice : List Item
moved_twice = moved_once ++ second_move ∷ []

-- the old bytes of a table are 0, whatever they were
after_examples : (byte_after_items kernel begun moved_twice 0x10FE000 7 ≡ 0) × (byte_after_items kernel begun moved_twice 0x2000000 7 ≡ 0)
    × (byte_after_items kernel begun moved_twice 0x4000000 7 ≡ 7)
unfolding byte_after_items
after_examples = (refl, refl, refl)

-- a fill before the first move, one between the moves, and one after both
abbrev early : Fill
early = record { range = at_base 0x10FE000 0x1000; byte = 1; at = 1 }

abbrev between : Fill
between = record { range = at_base 0x10FE800 0x1000; byte = 2; at = 2 }

abbrev late : Fill
late = record { range = at_base 0x2000000 0x10; byte = 3; at = 3 }

abbrev fills : List Fill
fills = early ∷ between ∷ late ∷ []

-- the early fill is lost when the table moves; the fill between stays; the late one overwrites the
-- bytes that the second move left
byte_examples : (byte_from_history kernel moved_twice fills 0x10FE000 ≡ 0) × (byte_from_history kernel moved_twice fills 0x10FE900 ≡ 2)
    × (byte_from_history kernel moved_twice fills 0x2000000 ≡ 3)
unfolding byte_from_history
byte_examples = (refl, refl, refl)

made_examples : AreFillsUpTo 3 fills × ¬ AreFillsUpTo 2 fills
made_examples = ((lit≤ tt, (lit≤ tt, (lit≤ tt, tt))), λ made. absurd (omega (arith, made.1.1.0)))
