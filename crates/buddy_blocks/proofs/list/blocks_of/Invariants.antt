use Rattle.std.proofs.Common.{◌≡◌, ◌++◌, drop}
use Rattle.address_runs.specs.Runs.{value_at}
use Rattle.buddy_blocks.specs.BlockList.{blocks_of}
use Rattle.buddy_blocks.proofs.LookLaws.{listed}
use Rattle.buddy_blocks.proofs.list.blocks_of.Given as goal

abbrev pub invariant-loop-run : goal.invariant-loop-run
invariant-loop-run l = l.blocks.items ++ listed (value_at l.runs) (drop l.run-index l.runs) ≡ blocks_of (value_at l.runs)
