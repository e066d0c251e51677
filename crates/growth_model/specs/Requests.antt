-- Lists of items that are to be written, each item after the growth that it needs. This file also
-- defines which items change memory.
use Rattle.std.specs.Prelude.{◌≡◌, Bool, true, false, if◌then◌else◌, Option, Some, None, List, [], ◌∷◌, Result, Ok, Err}
use Rattle.bm_base.specs.ResultSteps.{◌>>=◌}
use Rattle.memblock_model.specs.declared.item.Item.{Item}
use Rattle.memblock_model.specs.declared.item.Item.TheVariants as item
use Rattle.growth_model.specs.Change.{RefusedGrowth, ChangeEffect, Change, items_after_change, write_item}
use Rattle.growth_model.specs.Growth.{claim_range, free_range, add_range, set_range_node, set_range_mirror}

-- the change that appends this item to the journal. Before a Mem, Node, Mirror, Claim or Free item
-- it makes the growths that are needed. Other items are written without growth.
abbrev pub change_writing_item : Item → Change
change_writing_item (item.Mem range) = add_range range
change_writing_item (item.Node range node) = set_range_node range node
change_writing_item (item.Mirror range) = set_range_mirror range
change_writing_item (item.Claim range who) = claim_range range who
change_writing_item (item.Free range) = free_range range
change_writing_item i = write_item i

-- the items if no growth was refused, else the refused growth
abbrev pub unless_refused : Option RefusedGrowth → List Item → Result (List Item) RefusedGrowth
unless_refused None items = Ok items
unless_refused (Some refused) items = Err refused

-- the items after a change, or the growth that was refused in it
abbrev pub items_or_refusal : List Item → ChangeEffect → Result (List Item) RefusedGrowth
items_or_refusal items o = unless_refused o.refused (items_after_change items o)

-- the journal's items after all items of the first list have been written, each with the growth
-- that it needs; or the first growth that was refused
unfoldable pub carry_out_items : List Item → List Item → Result (List Item) RefusedGrowth
carry_out_items [] items = Ok items
carry_out_items (i ∷ is) items = items_or_refusal items (change_writing_item i items) >>= λ next. carry_out_items is next

-- whether the item changes what is memory, the labels of memory, or the limit; the other items
-- change owners, places of tables, or the search direction
abbrev pub is_memory_item : Item → Bool
is_memory_item (item.Mem range) = true
is_memory_item item.Trim = true
is_memory_item (item.Node range node) = true
is_memory_item (item.Mirror range) = true
is_memory_item (item.Limit at) = true
is_memory_item i = false

-- those items of the list that change memory; memory and the limit depend on no others
abbrev pub memory_items : List Item → List Item
memory_items [] = []
memory_items (i ∷ is) = if is_memory_item i then i ∷ memory_items is else memory_items is

-- no step writes an item that changes memory
abbrev pub StepsKeepMemory : List (List Item) → Type 0
StepsKeepMemory [] = Unit {0}
StepsKeepMemory (s ∷ ss) = (memory_items s ≡ []) × StepsKeepMemory ss
