-- Which blocks of the firmware's table are kept, and which of them overlap (`numa_add_memblk`,
-- `numa_cleanup_meminfo`).
use Rattle.std.specs.Prelude.{ℕ, ◌+◌, ◌-◌, ◌<◌, ◌==◌, Bool, ◌&&◌, not, nat_lt, if◌then◌else◌, Option, None, List, [], ◌∷◌, ◌++◌, map, find, count_by}
use Rattle.std.specs.List.{list_any}
use Rattle.std.specs.Option.{option_map, option_or}
use Rattle.address_runs.specs.Runs.{run_end, range_of_run}
use Rattle.bm_base.specs.Each.{each_in}
use Rattle.bm_base.specs.Range.{RangeView, covers, end_of}
use Rattle.bm_base.specs.Frames.{frame_around}
use Rattle.srat_reader.specs.declared.table.SratBlock.{SratBlock}
use Rattle.srat_nodes.specs.declared.kept.KeptBlock.{KeptBlock}
use Rattle.srat_nodes.specs.Domains.{node_of_domain}
use Rattle.srat_nodes.specs.NodeAt.{NumaBlock, block_meets}

-- whether the address lies in one of the ranges of memory
abbrev pub is_in_any_range : List RangeView → ℕ → Bool
is_in_any_range ranges x = list_any (λ r. covers r x) ranges

-- no range of memory is empty
abbrev pub NoMemoryIsEmpty : List RangeView → Type 0
NoMemoryIsEmpty [] = Unit {0}
NoMemoryIsEmpty (r ∷ rs) = (0 < r.size) × NoMemoryIsEmpty rs

-- the first address of the frame of 4,096 bytes that contains the address
abbrev pub frame_base : ℕ → ℕ
frame_base x = (frame_around x).base

-- the range with its base and its end rounded down to multiples of 4,096
abbrev pub round_ends_down : RangeView → RangeView
round_ends_down r = record { base = frame_base r.base; size = frame_base (end_of r) - frame_base r.base }

-- whether some byte of the range is memory; `memory` says of each address whether it is
abbrev pub meets_memory : (ℕ → Bool) → RangeView → Bool
meets_memory memory r = not (each_in r (λ y. not (memory y)))

-- a block of the table with both ends rounded down to frames, and with the node of its domain
abbrev pub block_in_frames : List ℕ → SratBlock → NumaBlock
block_in_frames domains b =
    record { base = (round_ends_down b.range).base; size = (round_ends_down b.range).size; value = node_of_domain domains b.domain }

-- the block with its number `i`, as a list, if the block contains a byte of memory; else the empty
-- list
abbrev pub keep_block : (ℕ → Bool) → ℕ → NumaBlock → List KeptBlock
keep_block memory i b = if meets_memory memory (range_of_run b) then record { number = i; block = b } ∷ [] else []

-- those of the blocks that contain a byte of memory, each with its number. The first block of the
-- list has the number `i`, the next one `i + 1`, and so on.
abbrev pub keep_blocks_from : (ℕ → Bool) → List ℕ → ℕ → List SratBlock → List KeptBlock
keep_blocks_from memory domains i [] = []
keep_blocks_from memory domains i (b ∷ bs) = keep_block memory i (block_in_frames domains b) ++ keep_blocks_from memory domains (i + 1) bs

-- the kept blocks of a table: those that contain a byte of memory after their ends have been
-- rounded down to frames. Each has its number among all blocks of the table, from 0.
abbrev pub keep_blocks : (ℕ → Bool) → List ℕ → List SratBlock → List KeptBlock
keep_blocks memory domains blocks = keep_blocks_from memory domains 0 blocks

-- the kept blocks without their numbers
abbrev pub numa_blocks_of : List KeptBlock → List NumaBlock
numa_blocks_of kept = map (λ (k : KeptBlock). k.block) kept

-- whether some kept block has node n
abbrev pub is_node_of : List KeptBlock → ℕ → Bool
is_node_of kept n = list_any (λ (k : KeptBlock). k.block.value == n) kept

-- whether some block contains a byte of memory after its ends have been rounded down to frames
abbrev pub is_any_kept : (ℕ → Bool) → List SratBlock → Bool
is_any_kept memory blocks = list_any (λ (b : SratBlock). meets_memory memory (round_ends_down b.range)) blocks

-- the number of blocks of the table whose size isn't 0, before any rounding
abbrev pub count_with_addresses : List SratBlock → ℕ
count_with_addresses blocks = count_by (λ (b : SratBlock). nat_lt 0 b.range.size) blocks

-- whether two kept blocks have different nodes and share an address
abbrev pub nodes_overlap : KeptBlock → KeptBlock → Bool
nodes_overlap a b = not (a.block.value == b.block.value) && block_meets a.block.base (run_end a.block) b.block

-- whether the kept blocks with the numbers i and j, where i is below j, have different nodes and
-- share an address
abbrev pub numbers_overlap : List KeptBlock → ℕ → ℕ → Bool
numbers_overlap kept i j = nat_lt i j && list_any (λ a. (a.number == i) && list_any (λ b. (b.number == j) && nodes_overlap a b) kept) kept

-- the first two kept blocks of different nodes that share an address, as their numbers (i, j): i is
-- the first block that overlaps a later one, and j the first later one that it overlaps. None if
-- no two do.
abbrev pub first_overlap : List KeptBlock → Option (ℕ × ℕ)
first_overlap [] = None
first_overlap (a ∷ rest) =
    option_or (option_map (λ (b : KeptBlock). (a.number, b.number)) (find (nodes_overlap a) rest)) (first_overlap rest)
