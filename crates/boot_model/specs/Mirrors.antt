-- Mirrored memory in the inputs of a boot: ranges of whole frames, as bytes and as frames.
use Rattle.std.specs.Prelude.{◌≡◌, ◌/◌, ◌%◌, ◌<◌}
use Rattle.bm_base.specs.Range.{RangeView}
use Rattle.early_memory.specs.EarlyInputs.{FrameRange}

-- the range consists of whole frames, at least one
pub record IsMirror (range : RangeView) : Type 0 where
  pub some : 0 < range.size
  pub at_frame : range.base % 4096 ≡ 0
  pub of_frames : range.size % 4096 ≡ 0

-- the frames of the range
abbrev pub frame_range_of : RangeView → FrameRange
frame_range_of range = record { first = range.base / 4096; count = range.size / 4096 }
