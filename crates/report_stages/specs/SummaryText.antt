-- The report `summary`: the totals at the end of a boot, as lines of this project's own.
use Rattle.std.specs.Prelude.{ℕ, List, ◌++◌, codes, decimal}
use Rattle.memblock_model.specs.declared.owner.Which.{Which}
use Rattle.memblock_model.specs.declared.owner.Which.TheVariants as which
use Rattle.report_memory.specs.OwnersText.{memblock_table_name}
use Rattle.report_stages.specs.declared.summary.Fullness.{Fullness}
use Rattle.report_stages.specs.declared.summary.Summary.{Summary}

-- the line of a number: the text `word`, and the number in decimal
abbrev pub number_line : List ℕ → ℕ → List ℕ
number_line word n = word ++ decimal n ++ codes "\n"

-- the line of one of memblock's tables: the number of its records, and the number of records that
-- it has room for
abbrev pub fullness_line : Which → Fullness → List ℕ
fullness_line w full =
    memblock_table_name w ++ codes " records " ++ decimal full.records ++ codes " room " ++ decimal full.room ++ codes "\n"

-- the report `summary`: six lines, for the runs of the map, the usable frames, the frames in free
-- blocks, memblock's two tables, and the free blocks
abbrev pub summary_text : Summary → List ℕ
summary_text s =
    number_line (codes "runs ") s.runs ++ number_line (codes "usable ") s.usable ++ number_line (codes "free ") s.free
    ++ fullness_line which.Memory s.memory ++ fullness_line which.Reserved s.reserved ++ number_line (codes "blocks ") s.blocks
