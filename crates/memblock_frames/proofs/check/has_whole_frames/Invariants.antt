use Rattle.std.proofs.Common.{◌↔◌, drop}
use Rattle.memblock_ranges.specs.Tables.{records_of_head}
use Rattle.memblock_frames.specs.HeadRecords.{AreWholeFrames}
use Rattle.memblock_frames.proofs.check.has_whole_frames.Given as goal

abbrev pub invariant-loop-i : goal.invariant-loop-i
invariant-loop-i l = AreWholeFrames (drop l.i (records_of_head l.store l.head)) ↔ AreWholeFrames (records_of_head l.store l.head)
