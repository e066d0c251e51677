-- Changes of memblock. A change is a function of the journal's items so far. Its value lists the
-- items that it appends to the journal, and says whether a table that had to grow found no memory.
use Rattle.std.specs.Prelude.{ℕ, Bool, if◌then◌else◌, Option, Some, None, List, [], ◌∷◌, ◌++◌}
use Rattle.memblock_model.specs.declared.owner.Which.{Which}
use Rattle.memblock_model.specs.declared.item.Item.{Item}

-- a growth that was refused because no free memory was found (`memblock_double_array` failed): the
-- table, and the number of records that it has room for, which was too small
pub record RefusedGrowth : Type 0 where
  pub which : Which
  pub room : ℕ

-- what a change does: its steps, each a group of items that is written as a whole or not at all;
-- and the growth that was refused, if one was
pub record ChangeEffect : Type 0 where
  pub steps : List (List Item)
  pub refused : Option RefusedGrowth

-- a change of memblock: what it does, given the journal's items so far
abbrev pub Change : Type 0
Change = List Item → ChangeEffect

-- the items of all steps
abbrev pub items_of_steps : List (List Item) → List Item
items_of_steps [] = []
items_of_steps (s ∷ ss) = s ++ items_of_steps ss

-- the journal's items after a change with this effect
abbrev pub items_after_change : List Item → ChangeEffect → List Item
items_after_change items o = items ++ items_of_steps o.steps

-- the change that writes no item
abbrev pub no_change : Change
no_change items = record { steps = []; refused = None }

-- the change that appends these items to the journal in one step
abbrev pub write_items : List Item → Change
write_items written items = record { steps = written ∷ []; refused = None }

abbrev pub write_item : Item → Change
write_item i = write_items (i ∷ [])

-- the change of a table that must grow but finds no memory for twice its room: it writes no item,
-- and the growth is refused
abbrev pub refuse_growth : Which → ℕ → Change
refuse_growth w room items = record { steps = []; refused = Some (record { which = w; room = room }) }

-- the effect of two changes in turn: that of the first, and then that of the second unless the
-- first was refused
abbrev pub followed_by : ChangeEffect → Option RefusedGrowth → ChangeEffect → ChangeEffect
followed_by first None second = record { steps = first.steps ++ second.steps; refused = second.refused }
followed_by first (Some r) second = first

infixr 10 ◌>>◌
abbrev pub ◌>>◌ : Change → Change → Change
(first >> second) items = followed_by (first items) (first items).refused (second (items_after_change items (first items)))

-- the change if the test `due` holds for the items so far, else no change
abbrev pub if_due : (List Item → Bool) → Change → Change
if_due due change items = if due items then change items else no_change items

-- the change without its refused growth: a refusal isn't reported, and what was written before it
-- stays written
abbrev pub ignore_refusal : Change → Change
ignore_refusal change items = record { steps = (change items).steps; refused = None }
