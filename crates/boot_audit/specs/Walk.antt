-- The search for the first block that could merge with its buddy, in one pass over ascending
-- blocks. For each block the pass knows the first frame of the run that ends with this block. A
-- run consists of blocks of one node and zone, without a gap between them.
use Rattle.std.specs.Prelude.{ℕ, ◌+◌, ◌==◌, ◌&&◌, Bool, true, false, nat_le, nat_lt, if◌then◌else◌, List, [], ◌∷◌, Option, Some, None}
use Rattle.bm_base.specs.Range.{end_of}
use Rattle.audit_lines.specs.Blocks.{BlockLineView}
use Rattle.boot_audit.specs.Frames.{are_of_one_zone, frames_of_block, parent_of}

-- whether block `c` begins where block `b` ends, and has the same node and zone
abbrev pub is_next_in_run : BlockLineView → BlockLineView → Bool
is_next_in_run b c = (end_of (frames_of_block b) == (frames_of_block c).base) && are_of_one_zone b c

-- the first frame of the run that ends with block `b`. The first argument is the block before `b`,
-- if there is one, and `from` is the first frame of the run that ends with that block.
abbrev pub run_start : Option BlockLineView → ℕ → BlockLineView → ℕ
run_start None from b = (frames_of_block b).base
run_start (Some c) from b = if is_next_in_run c b then from else (frames_of_block b).base

-- whether the first blocks of the list cover all frames from `at` up to but not including `until`,
-- without a gap, and all have the node and zone of block `b`
abbrev pub is_covered_up_to : BlockLineView → ℕ → ℕ → List BlockLineView → Bool
is_covered_up_to b at until [] = nat_le until at
is_covered_up_to b at until (c ∷ cs) =
    if nat_le until at then true else
    (if ((frames_of_block c).base == at) && are_of_one_zone b c then is_covered_up_to b (end_of (frames_of_block c)) until cs else false)

-- whether the block could merge with its buddy; `from` is the first frame of the run that ends with
-- the block, and `others` are the blocks after it
abbrev pub could_merge_after_run : ℕ → BlockLineView → List BlockLineView → Bool
could_merge_after_run from b others =
    nat_lt b.order 10 && (nat_le from (parent_of b).base && is_covered_up_to b (end_of (frames_of_block b)) (end_of (parent_of b)) others)

-- the number of the first line whose block could merge with its buddy, among the blocks of a list.
-- `last` is the block before the list, if there is one, `from` the first frame of the run that
-- ends with `last`, and `line` the number of the list's first line.
abbrev pub first_mergeable_from : Option BlockLineView → ℕ → ℕ → List BlockLineView → Option ℕ
first_mergeable_from last from line [] = None
first_mergeable_from last from line (b ∷ bs) =
    if could_merge_after_run (run_start last from b) b bs then Some line
    else first_mergeable_from (Some b) (run_start last from b) (line + 1) bs
