-- If the blocks' bytes are ascending, so are their frames.
use Rattle.std.proofs.Common.{ℕ, ◌+◌, ◌*◌, ◌/◌, ◌^◌, ◌≤◌, List, [], ◌∷◌, map, arith}
use Rattle.bm_base.specs.Range.{end_of}
use Rattle.audit_lines.specs.Blocks.{BlockLineView, bytes_of_block}
use Rattle.audit_lines.specs.Lines.{StartFrom, AscendApart}
use Rattle.boot_audit.specs.Frames.{frames_of_block}

in_frames : (a n c : ℕ) → a + 4096 * n ≤ c → a / 4096 + n ≤ c / 4096
in_frames a n c above = omega arith

starts : (b : BlockLineView) (bs : List BlockLineView) → StartFrom (end_of (bytes_of_block b)) (map bytes_of_block bs)
    → StartFrom (end_of (frames_of_block b)) (map frames_of_block bs)
starts b [] above = tt
starts b (c ∷ cs) above = in_frames b.at (2 ^ b.order) c.at above

pub frames_ascend : (bs : List BlockLineView) → AscendApart (map bytes_of_block bs) → AscendApart (map frames_of_block bs)
frames_ascend [] order = tt
frames_ascend (b ∷ bs) order = (starts b bs order.0, frames_ascend bs order.1)
