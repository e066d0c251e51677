use Rattle.std.proofs.Common.{◌↔◌, drop}
use Rattle.memblock_ranges.specs.Tables.{records_of_head}
use Rattle.memblock_frames.specs.HeadRecords.{AreAscendingBelow}
use Rattle.memblock_frames.proofs.CheckLaws.{Ascends}
use Rattle.memblock_frames.proofs.check.has_records.Given as goal

abbrev pub invariant-loop-i : goal.invariant-loop-i
invariant-loop-i l =
    Ascends l.from l.bound (drop l.i (records_of_head l.store l.head)) ↔ AreAscendingBelow l.bound (records_of_head l.store l.head)
