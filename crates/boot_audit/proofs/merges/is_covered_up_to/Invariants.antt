use Rattle.std.proofs.Common.{◌≡◌, drop}
use Rattle.bm_base.specs.Range.{end_of}
use Rattle.boot_audit.specs.Frames.{frames_of_block}
use Rattle.boot_audit.specs.Walk.{is_covered_up_to}
use Rattle.boot_audit.proofs.merges.is_covered_up_to.Given as goal

abbrev pub invariant-loop-other : goal.invariant-loop-other
invariant-loop-other l =
    is_covered_up_to l.block l.at l.until (drop l.other-index l.others)
    ≡ is_covered_up_to l.block (end_of (frames_of_block l.block)) l.until l.others
