-- The report `owners`: who owns which bytes, as lines. The kernel's `memblock_dbg` prints the
-- caller of a reservation; the names of owners here are this project's own.
use Rattle.std.specs.Prelude.{ℕ, List, ◌++◌, codes, decimal}
use Rattle.address_runs.specs.Runs.{RunOf, range_of_run}
use Rattle.memblock_model.specs.declared.owner.Owner.{Owner}
use Rattle.memblock_model.specs.declared.owner.Owner.TheVariants as owner
use Rattle.memblock_model.specs.declared.owner.Which.{Which}
use Rattle.memblock_model.specs.declared.owner.Which.TheVariants as which
use Rattle.report_memory.specs.Lines.{index_text, indexed_lines, range_text}

-- the name of one of memblock's two tables
abbrev pub memblock_table_name : Which → List ℕ
memblock_table_name which.Memory = codes "memory"
memblock_table_name which.Reserved = codes "reserved"

-- the name of an owner, such as `kernel` or `node-data 0`. The number is that of the owner's node,
-- section root or section, or the ID of a script.
abbrev pub owner_text : Owner → List ℕ
owner_text owner.Kernel = codes "kernel"
owner_text owner.Low64K = codes "low-64k"
owner_text owner.Initrd = codes "initrd"
owner_text owner.Low1M = codes "low-1m"
owner_text owner.Soft = codes "soft-reserved"
owner_text (owner.Table w) = codes "table-" ++ memblock_table_name w
owner_text (owner.NodeData n) = codes "node-data " ++ decimal n
owner_text owner.Crash = codes "crash"
owner_text owner.CrashLow = codes "crash-low"
owner_text owner.Roots = codes "roots"
owner_text (owner.Root n) = codes "root " ++ decimal n
owner_text (owner.Usage n) = codes "usage " ++ decimal n
owner_text (owner.Map n) = codes "map " ++ decimal n
owner_text (owner.Script n) = codes "script " ++ decimal n

-- the line of a run of bytes with one owner: its index, its range and the owner
abbrev pub owner_line : ℕ → RunOf Owner → List ℕ
owner_line n r = index_text n ++ range_text (range_of_run r) ++ codes " " ++ owner_text r.value ++ codes "\n"

-- the report `owners`: a line for each run of bytes with one owner
abbrev pub owners_text : List (RunOf Owner) → List ℕ
owners_text runs = indexed_lines owner_line 0 runs
