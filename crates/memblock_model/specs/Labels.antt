-- The label of a byte of memory: its node and whether it is mirrored; and the labels that a table
-- gives all bytes.
use Rattle.std.specs.Prelude.{ℕ, Bool, true, false, Option, Some, None}
use Rattle.memblock_model.specs.declared.label.Tag.{Tag}
use Rattle.memblock_model.specs.declared.label.Tag.TheVariants as tag

-- what contracts see of a `Label`: the node, or none yet, and whether the memory is mirrored
-- (`struct memblock_region`: `nid`, `MEMBLOCK_MIRROR` of `flags`)
pub record LabelView : Type 0 where
  pub node : Option ℕ
  pub mirror : Bool

-- the label that a table gives each byte: that of the record that covers it, or None if no record
-- does
abbrev pub Labels : Type 0
Labels = ℕ → Option LabelView

-- the label of new memory, and of everything in the reserved table (`memblock_add`,
-- `memblock_reserve`)
abbrev pub plain_label : LabelView
plain_label = record { node = None; mirror = false }

-- the same label with this node
abbrev pub with_node : Option ℕ → LabelView → LabelView
with_node node label = record label { node = node }

-- the same label, marked as mirrored (`memblock_mark_mirror`)
abbrev pub with_mirror : LabelView → LabelView
with_mirror label = record label { mirror = true }

-- the tag of a byte with this label in the memory table: `Absent` if it has none
abbrev pub tag_for : Option LabelView → Tag
tag_for None = tag.Absent
tag_for (Some label) = tag.Memory label.node label.mirror

-- the node in a tag, or None if the byte isn't memory or has no node yet
abbrev pub node_of_tag : Tag → Option ℕ
node_of_tag tag.Absent = None
node_of_tag (tag.Memory node mirror) = node
