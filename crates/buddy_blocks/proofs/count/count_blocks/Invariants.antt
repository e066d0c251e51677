use Rattle.std.proofs.Common.{◌≡◌, ◌+◌, drop}
use Rattle.std.specs.List.{count_by}
use Rattle.address_runs.specs.Runs.{value_at}
use Rattle.buddy_blocks.specs.BlockList.{is_block_of, count_blocks}
use Rattle.buddy_blocks.proofs.LookLaws.{listed}
use Rattle.buddy_blocks.proofs.count.count_blocks.Given as goal

abbrev pub invariant-loop-run : goal.invariant-loop-run
invariant-loop-run l =
    l.total + count_by (is_block_of l.node l.zone l.order) (listed (value_at l.runs) (drop l.run-index l.runs)) ≡ count_blocks
    (value_at l.runs) l.node l.zone l.order
