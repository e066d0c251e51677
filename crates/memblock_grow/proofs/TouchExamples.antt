-- Examples of small ranges that overlap the built-in tables, or don't, computed.
use Rattle.std.proofs.Common.{List, [], ◌∷◌, refl, arith}
use Rattle.std.proofs.lemmas.Bool.Decides.{nat_tests}
use Rattle.bm_base.specs.Range.{RangeView}
use Rattle.memblock_model.specs.declared.owner.Owner.TheVariants as owner
use Rattle.memblock_model.specs.declared.owner.Which.TheVariants as which
use Rattle.memblock_model.specs.declared.item.Item.{Item}
use Rattle.memblock_model.specs.declared.item.Item.TheVariants as item
use Rattle.memblock_grow.specs.Touch.{OverlapsTableOfItems}

-- four frames from 64 KiB on, with the tables in the last two
abbrev image : RangeView
image = record { base = 65536; size = 16384 }

abbrev begun : List Item
begun = item.Claim image owner.Kernel ∷ []

over_the_memory_table : OverlapsTableOfItems image (record { base = 70000; size = 4000 }) begun
over_the_memory_table = (which.Memory, (73728, refl))

last_byte_of_the_reserved_table : OverlapsTableOfItems image (record { base = 80895; size = 1 }) begun
last_byte_of_the_reserved_table = (which.Reserved, (80895, refl))

after_the_reserved_table : OverlapsTableOfItems image (record { base = 80896; size = 1024 }) begun → ⊥
after_the_reserved_table (which.Memory, (x, both)) = grind (arith, nat_tests, both)
after_the_reserved_table (which.Reserved, (x, both)) = grind (arith, nat_tests, both)
