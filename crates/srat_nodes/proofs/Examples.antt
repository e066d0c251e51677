-- Worked examples of small machines.
use Rattle.std.proofs.Common.{◌≡◌, ℕ, Bool, true, false, List, [], ◌∷◌, Some, None, refl, ◌∙◌, lit<, lit≤, arith}
use Rattle.std.specs.Prelude.{◌==◌, nat_lt, ◌||◌, replicate}
use Rattle.std.specs.List.{range_with_len}
use Rattle.address_runs.specs.Runs.{AreRuns, runs_from, value_at}
use Rattle.bm_base.specs.Each.{each_from, each_in}
use Rattle.bm_base.specs.Range.{RangeView}
use Rattle.srat_reader.specs.declared.table.SratBlock.{SratBlock}
use Rattle.srat_reader.specs.Table.{SratView}
use Rattle.srat_nodes.specs.declared.kept.KeptBlock.{KeptBlock}
use Rattle.srat_nodes.specs.declared.reasons.Why.TheVariants as why
use Rattle.srat_nodes.specs.Domains.{domains_once, named_domains}
use Rattle.srat_nodes.specs.NodeAt.{NumaBlock, node_at, same_node}
use Rattle.srat_nodes.specs.SratNodesView.{count_frames_with_node, lower_node, lowest_node, unused_srat, used_srat, nodes_if_covering, nodes_by_blocks, fallback_node, judge_kept_blocks, judge_srat_table, judge_srat}
use Rattle.srat_nodes.proofs.RestLaws.{frames_none, frames_step}
use Rattle.srat_nodes.specs.Kept.{is_in_any_range, round_ends_down, meets_memory, block_in_frames, keep_blocks_from, keep_blocks, nodes_overlap, first_overlap}

abbrev block : ℕ → ℕ → ℕ → NumaBlock
block n base size = record { base = base; size = size; value = n }

-- blocks in another order than that of their addresses: node 0 at 1 and 2 and at 8 and 9, node 1
-- at 5
abbrev one_between : List NumaBlock
one_between = block 0 8 2 ∷ block 1 5 1 ∷ block 0 1 2 ∷ []

-- blocks of node 0 on both sides of a hole, and of node 1 above them
abbrev hole : List NumaBlock
hole = block 0 1 2 ∷ block 1 9 2 ∷ block 0 5 2 ∷ []

node_examples : (node_at hole 10 ≡ Some 1) × (node_at one_between 5 ≡ Some 1) × (node_at one_between 6 ≡ None)
unfolding node_at
node_examples = (refl, refl, refl)

-- the runs of nodes over twelve addresses: a hole of one node is filled, and a gap with another
-- node in it isn't; and a block inside another of its node, with one that touches it
filled_examples : (runs_from same_node (node_at hole) 0 12 ≡ block 0 1 6 ∷ block 1 9 2 ∷ [])
    × (runs_from same_node (node_at one_between) 0 12 ≡ block 0 1 2 ∷ block 1 5 1 ∷ block 0 8 2 ∷ [])
    × (runs_from same_node (node_at (block 2 3 1 ∷ block 2 1 5 ∷ block 2 6 1 ∷ [])) 0 12 ≡ block 2 1 6 ∷ [])
unfolding runs_from node_at
filled_examples = (refl, refl, refl)

abbrev told : ℕ → ℕ → ℕ → SratBlock
told domain base size = record { domain = domain; range = record { base = base; size = size } }

-- the domains of processors come before those that only memory names
processors_first : (named_domains (12 ∷ 11 ∷ []) (told 3 0 1 ∷ told 12 1 1 ∷ []) ≡ 12 ∷ 11 ∷ 3 ∷ [])
    × (named_domains [] (told 3 0 1 ∷ told 12 1 1 ∷ []) ≡ 3 ∷ 12 ∷ [])
unfolding domains_once
processors_first = (refl, refl)

-- memory from 0x1000 to 0x2FFF, and one byte of memory at 0x5000
abbrev memory : ℕ → Bool
memory = is_in_any_range (record { base = 0x1000; size = 0x2000 } ∷ record { base = 0x5000; size = 1 } ∷ [])

abbrev range : ℕ → ℕ → RangeView
range base size = record { base = base; size = size }

-- both ends are rounded down, so a range inside a frame becomes empty
framed_examples : (round_ends_down (range 0x1800 0x1000) ≡ range 0x1000 0x1000) × (round_ends_down (range 0x1800 0x7FF) ≡ range 0x1000 0)
framed_examples = (refl, refl)

-- a range has memory if one byte of it is memory, and has none if no byte is
has_memory_examples : (meets_memory memory (range 0x4FFE 4) ≡ true) × (meets_memory memory (range 0x4FFE 2) ≡ false)
    × (meets_memory memory (range 0x1000 0) ≡ false)
unfolding each_in each_from
has_memory_examples = (refl, refl, refl)

-- a test of a few addresses, so that the examples can be computed for whole frames
abbrev some_frames : ℕ → Bool
some_frames x = (x == 0x1000) || (x == 0x3000)

of_node_examples : (block_in_frames (8 ∷ 5 ∷ []) (told 5 0x1800 0x1000) ≡ block 1 0x1000 0x1000)
    × (block_in_frames (8 ∷ 5 ∷ []) (told 8 0 0xFFF) ≡ block 0 0 0)
of_node_examples = (refl, refl)

-- blocks that aren't kept are numbered too: here the first one, which is empty after rounding
kept_examples : (keep_blocks some_frames (5 ∷ 6 ∷ []) (told 5 0 0xFFF ∷ told 6 0x1000 0x1000 ∷ [])
    ≡ record { number = 1; block = block 1 0x1000 0x1000 } ∷ [])
    × (keep_blocks_from some_frames (5 ∷ []) 4 (told 5 0 0x800 ∷ []) ≡ [])
unfolding each_in each_from
kept_examples = (refl, refl)

abbrev kept : ℕ → NumaBlock → KeptBlock
kept i b = record { number = i; block = b }

-- blocks of different nodes that share an address; blocks that touch don't, and blocks of one node
-- may overlap
clash_examples : (nodes_overlap (kept 0 (block 0 1 2)) (kept 1 (block 1 2 2)) ≡ true)
    × (nodes_overlap (kept 0 (block 0 1 2)) (kept 1 (block 1 3 2)) ≡ false)
    × (nodes_overlap (kept 0 (block 0 1 2)) (kept 1 (block 0 2 2)) ≡ false)
clash_examples = (refl, refl, refl)

-- the pair that is reported is the least, by its first number and then by its second; None if no
-- blocks overlap
pair_examples : (first_overlap (kept 1 (block 0 9 1) ∷ kept 2 (block 0 1 4) ∷ kept 5 (block 1 7 1) ∷ kept 6 (block 1 3 1)
    ∷ kept 8 (block 2 2 1) ∷ []) ≡ Some (2, 6))
    × (first_overlap (kept 0 (block 0 1 2) ∷ kept 1 (block 1 3 2) ∷ []) ≡ None)
pair_examples = (refl, refl)

-- an address of memory without a node gets node n; one that has a node, or isn't memory, gets none
abbrev below_4 : ℕ → Bool
below_4 x = nat_lt x 4

lowest_examples : (lower_node 3 (block 1 0 1) ≡ 1) × (lower_node 0 (block 1 0 1) ≡ 0)
    × (lowest_node (block 3 0 1 ∷ block 1 2 1 ∷ block 2 4 1 ∷ []) ≡ 1)
    × (lowest_node [] ≡ 0)
lowest_examples = (refl, refl, refl, refl)

-- the node of an address by the kept blocks, and the memory to which they give none, which gets the
-- lowest node
by_kept_examples : (nodes_by_blocks (kept 3 (block 2 1 1) ∷ kept 4 (block 2 3 1) ∷ []) 2 ≡ Some 2)
    × (fallback_node below_4 (kept 3 (block 2 1 1) ∷ kept 4 (block 2 3 1) ∷ []) 0 ≡ Some 2)
    × (fallback_node below_4 (kept 3 (block 2 1 1) ∷ kept 4 (block 2 3 1) ∷ []) 2 ≡ None)
unfolding node_at
by_kept_examples = (refl, refl, refl)

two_overlap : judge_kept_blocks below_4 (5 ∷ 6 ∷ []) (kept 3 (block 0 1 2) ∷ kept 4 (block 1 2 1) ∷ []) ≡ unused_srat (why.Overlap 3 4)
unfolding judge_kept_blocks
two_overlap = refl

off_or_absent : (judge_srat below_4 true (Some (record { processors = []; blocks = [] })) ≡ unused_srat why.Off)
    × (judge_srat below_4 true None ≡ unused_srat why.Off)
    × (judge_srat below_4 false None ≡ unused_srat why.Absent)
off_or_absent = (refl, refl, refl)

-- frames that begin in runs: a frame that begins below a run isn't counted, and one that ends
-- above it is
frames_of_runs : count_frames_with_node (value_at (block 0 0x800 0x1000 ∷ (block 1 0x3000 0x2001 ∷ []))) ≡ 4
frames_of_runs =
    let runs : AreRuns (block 0 0x800 0x1000 ∷ (block 1 0x3000 0x2001 ∷ [])) =
    (lit< tt, (lit≤ tt, λ touch. absurd (omega arith)), (lit< tt, tt, tt)) in
    frames_step (block 0 0x800 0x1000) (block 1 0x3000 0x2001 ∷ []) runs (lit< tt)
    ∙ rw (frames_step (block 1 0x3000 0x2001) [] runs.2 (lit< tt), frames_none) refl

one_mebibyte : count_frames_with_node (value_at (block 0 0 0x100000 ∷ [])) ≡ 256
one_mebibyte = frames_step (block 0 0 0x100000) [] (lit< tt, tt, tt) (lit< tt) ∙ rw frames_none refl

one_frame_less : count_frames_with_node (value_at (block 0 0 0xFF000 ∷ [])) ≡ 255
one_frame_less = frames_step (block 0 0 0xFF000) [] (lit< tt, tt, tt) (lit< tt) ∙ rw frames_none refl

-- the table isn't used with 256 frames without a node; it is with 255 frames, and with none
covering_examples : (nodes_if_covering (5 ∷ []) (value_at []) (value_at (block 0 0 0x100000 ∷ [])) ≡ unused_srat (why.NotCovered 256))
    × (nodes_if_covering (5 ∷ []) (value_at []) (value_at (block 0 0 0xFF000 ∷ []))
    ≡ used_srat (5 ∷ []) (value_at []) (value_at (block 0 0 0xFF000 ∷ [])))
    × (nodes_if_covering (5 ∷ []) (value_at (block 0 0 1 ∷ [])) (value_at [])
    ≡ used_srat (5 ∷ []) (value_at (block 0 0 1 ∷ [])) (value_at []))
covering_examples = (rw one_mebibyte refl, rw one_frame_less refl, rw frames_none refl)

-- the result if the table is used, and if it isn't
used_gives : ((used_srat (5 ∷ []) (value_at []) (value_at (block 0 0 0x100000 ∷ []))).uncovered ≡ 256)
    × ((used_srat (5 ∷ []) (value_at []) (value_at [])).domains ≡ 5 ∷ [])
used_gives = (one_mebibyte, refl)

-- a table with one empty block and `n` others, and a table with `n` domains
abbrev told_often : ℕ → SratView
told_often n = record { processors = []; blocks = told 5 0 0 ∷ replicate n (told 5 0x1000 0x1000) }

abbrev told_domains : ℕ → SratView
told_domains n = record { processors = range_with_len 0 n; blocks = told 5 0x1000 0x1000 ∷ [] }

-- no block is kept; 2,048 blocks that aren't empty are accepted, since an empty one doesn't count;
-- 2,049 are too many; 1,024 domains are accepted, and 1,025 are too many
table_examples : (judge_srat_table some_frames (record { processors = 4 ∷ []; blocks = told 2 0 0xFFF ∷ [] }) ≡ unused_srat why.NoBlocks)
    × (judge_srat_table some_frames (told_often 2048)
    ≡ judge_kept_blocks some_frames (5 ∷ []) (keep_blocks some_frames (5 ∷ []) (told_often 2048).blocks))
    × (judge_srat_table some_frames (told_often 2049) ≡ unused_srat why.TooManyBlocks)
    × (judge_srat_table some_frames (told_domains 1024)
    ≡ judge_kept_blocks some_frames (range_with_len 0 1024) (keep_blocks some_frames (range_with_len 0 1024) (told_domains 1024).blocks))
    × (judge_srat_table some_frames (told_domains 1025) ≡ unused_srat why.TooManyDomains)
unfolding judge_srat_table domains_once each_in each_from
table_examples = (refl, refl, refl, refl, refl)
