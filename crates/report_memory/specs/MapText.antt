-- The report `map`: a line for each run of the map, a range of addresses with one e820 type. The
-- kernel's `e820__print_table` prints one for each entry; the format of the line is this project's
-- own.
use Rattle.std.specs.Prelude.{ℕ, ◌==◌, if◌then◌else◌, List, ◌++◌, codes, decimal}
use Rattle.address_runs.specs.Runs.{RunOf, range_of_run}
use Rattle.e820_model.specs.declared.entry.TheConstants.{E820_TYPE_RAM, E820_TYPE_RESERVED, E820_TYPE_ACPI, E820_TYPE_NVS, E820_TYPE_UNUSABLE, E820_TYPE_PMEM, E820_TYPE_PRAM, E820_TYPE_RESERVED_KERN, E820_TYPE_SOFT_RESERVED}
use Rattle.report_memory.specs.Lines.{indexed_lines, range_text}

-- the name of the e820 type `k` (`enum e820_type`)
abbrev pub e820_type_name : ℕ → List ℕ
e820_type_name k =
    if k == E820_TYPE_RAM then codes "usable"
    else (if k == E820_TYPE_RESERVED then codes "reserved"
    else (if k == E820_TYPE_ACPI then codes "ACPI data"
    else (if k == E820_TYPE_NVS then codes "ACPI NVS"
    else (if k == E820_TYPE_UNUSABLE then codes "unusable"
    else (if k == E820_TYPE_PMEM then codes "persistent"
    else (if k == E820_TYPE_PRAM then codes "persistent legacy"
    else (if k == E820_TYPE_RESERVED_KERN then codes "usable kernel"
    else (if k == E820_TYPE_SOFT_RESERVED then codes "soft reserved"
    else codes "other"))))))))

-- the line of a run, as in `0x0000000000100000..0x0000000007fdffff 1 usable`: its range, and the
-- number and name of its type; the index `n` isn't printed
abbrev pub map_line : ℕ → RunOf ℕ → List ℕ
map_line n r = range_text (range_of_run r) ++ codes " " ++ decimal r.value ++ codes " " ++ e820_type_name r.value ++ codes "\n"

-- the report `map`: a line for each run of the map
abbrev pub map_text : List (RunOf ℕ) → List ℕ
map_text runs = indexed_lines map_line 0 runs
