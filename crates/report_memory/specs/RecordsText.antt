-- The reports `memory` and `reserved`: the records of one of memblock's tables, as lines in the
-- format of `/sys/kernel/debug/memblock` (`memblock_debug_show`).
use Rattle.std.specs.Prelude.{ℕ, List, ◌++◌, codes}
use Rattle.bm_base.specs.Range.{RangeView}
use Rattle.address_runs.specs.Runs.{RunOf, range_of_run}
use Rattle.memblock_model.specs.Labels.{LabelView}
use Rattle.memblock_ranges.specs.declared.region.Region.{Region}
use Rattle.report_memory.specs.Lines.{index_text, indexed_lines, range_text}

-- the line of a range, as in `   0: 0x0000000000001000..0x000000000009ffff`, with the index `n`
abbrev pub extent_line : ℕ → RangeView → List ℕ
extent_line n r = index_text n ++ range_text r ++ codes "\n"

-- the line of a record: its index and its range, without its flags and its node. `record_line`
-- takes a record of the definitions. `region_line` takes a record that was read from the bytes of a
-- table.
abbrev pub record_line : ℕ → RunOf LabelView → List ℕ
record_line n r = extent_line n (range_of_run r)

abbrev pub region_line : ℕ → Region → List ℕ
region_line n r = extent_line n (record { base = r.base; size = r.size })

-- the lines of the records of a table, with indices from 0
abbrev pub records_text : List (RunOf LabelView) → List ℕ
records_text records = indexed_lines record_line 0 records
