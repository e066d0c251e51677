-- The report `tables`: where memblock's two tables are and how full they are (`struct
-- memblock_type`: regions, max, cnt), as lines of this project's own.
use Rattle.std.specs.Prelude.{ℕ, List, ◌++◌, codes, decimal}
use Rattle.bm_base.specs.Text.{hex_text}
use Rattle.memblock_model.specs.declared.owner.Which.{Which}
use Rattle.memblock_model.specs.declared.owner.Which.TheVariants as which
use Rattle.memblock_ranges.specs.declared.region.Head.{Head}
use Rattle.memblock_ranges.specs.declared.region.Heads.{Heads}
use Rattle.report_memory.specs.OwnersText.{memblock_table_name}

-- the line of a table: its address, the number of records that it has room for, and the number of
-- records that it has
abbrev pub table_line : Which → Head → List ℕ
table_line w head =
    memblock_table_name w ++ codes " place " ++ hex_text head.place ++ codes " room " ++ decimal head.room ++ codes " records "
    ++ decimal head.count
    ++ codes "\n"

-- the report `tables`: a line for each of memblock's two tables
abbrev pub tables_text : Heads → List ℕ
tables_text heads = table_line which.Memory heads.memory ++ table_line which.Reserved heads.reserved
