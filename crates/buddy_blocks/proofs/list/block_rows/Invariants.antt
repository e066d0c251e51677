use Rattle.std.proofs.Common.{◌≡◌, ◌++◌, drop}
use Rattle.address_runs.specs.Runs.{value_at}
use Rattle.buddy_blocks.specs.BlockList.{blocks_of}
use Rattle.buddy_blocks.specs.Rows.{blocks_of_rows, AreCanonicalRows}
use Rattle.buddy_blocks.specs.Sets.{LastRowFulfils, LastFrameIsFree}
use Rattle.buddy_blocks.proofs.LookLaws.{listed}
use Rattle.buddy_blocks.proofs.list.block_rows.Given as goal

abbrev pub invariant-loop-run : goal.invariant-loop-run
invariant-loop-run l = record {
  listed : blocks_of_rows l.rows.items ++ listed (value_at l.runs) (drop l.run-index l.runs) ≡ blocks_of (value_at l.runs);
  free : LastRowFulfils (LastFrameIsFree (value_at l.runs)) l.rows.items;
  longest : AreCanonicalRows l.rows.items;
}
