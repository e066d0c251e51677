-- The report `journal`: a line for each journal item, which is one recorded change of memblock. The
-- formats are this project's own; the kernel prints each call when it happens (`memblock=debug`).
use Rattle.std.specs.Prelude.{ℕ, ◌+◌, Bool, if◌then◌else◌, List, ◌++◌, codes, decimal}
use Rattle.bm_base.specs.Text.{hex_text}
use Rattle.memblock_model.specs.declared.item.Item.{Item}
use Rattle.memblock_model.specs.declared.item.Item.TheVariants as item
use Rattle.report_memory.specs.Lines.{indexed_lines, range_text}
use Rattle.report_memory.specs.OwnersText.{owner_text, memblock_table_name}

-- `on` if the value is true, else `off`
abbrev pub on_off_text : Bool → List ℕ
on_off_text on = if on then codes "on" else codes "off"

-- the text of a journal item without its number: a word for the memblock call, and the values of
-- the call, as in `free 0x0000000000001000..0x0000000000001fff`
abbrev pub item_text : Item → List ℕ
item_text (item.Mem range) = codes "mem " ++ range_text range
item_text item.Trim = codes "trim"
item_text (item.Node range node) = codes "node " ++ decimal node ++ codes " " ++ range_text range
item_text (item.Mirror range) = codes "mirror " ++ range_text range
item_text (item.Claim range owner) = codes "claim " ++ owner_text owner ++ codes " " ++ range_text range
item_text (item.Free range) = codes "free " ++ range_text range
item_text (item.Limit at) = codes "limit " ++ hex_text at
item_text (item.Upward on) = codes "upward " ++ on_off_text on
item_text (item.Grown which place room) =
    codes "grown " ++ memblock_table_name which ++ codes " " ++ hex_text place ++ codes " room " ++ decimal room

-- the line of a journal item, as in `12: trim`: the item's number, which is `n` + 1, and its text
abbrev pub item_line : ℕ → Item → List ℕ
item_line n i = decimal (n + 1) ++ codes ": " ++ item_text i ++ codes "\n"

-- the report `journal`: a line for each item, oldest first, numbered from 1
abbrev pub journal_text : List Item → List ℕ
journal_text items = indexed_lines item_line 0 items
