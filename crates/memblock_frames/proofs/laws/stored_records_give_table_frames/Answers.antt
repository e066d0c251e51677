use Rattle.memblock_frames.proofs.StandLaws.{stands_ascending, stands_below, stands_whole, stands_node, stands_free}
use Rattle.memblock_frames.proofs.laws.stored_records_give_table_frames.Goals as goal

pub returns : goal.returns
returns c = record {
  records = stands_ascending;
  below = stands_below;
  whole = stands_whole;
  node = stands_node;
  free = stands_free;
}
