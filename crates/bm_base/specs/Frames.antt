-- Frames, the pages of 4,096 bytes in which memory is handed out (`PAGE_SIZE`).
use Rattle.std.specs.Prelude.{ℕ, ◌-◌, ◌*◌, ◌%◌, nat_lt, if◌then◌else◌, Option, Some, None}
use Rattle.std.specs.Int.{next_multiple_of}
use Rattle.bm_base.specs.Range.{RangeView, end_of}
use Rattle.bm_base.specs.declared.range.TheConstants.{FRAME_SIZE}

-- the range of the bytes of a frame, by the frame's number (`PFN_PHYS`)
abbrev pub bytes_of_frame : ℕ → RangeView
bytes_of_frame frame = record { base = FRAME_SIZE * frame; size = FRAME_SIZE }

-- the range of the bytes of the frame that contains the address (`PHYS_PFN`)
abbrev pub frame_around : ℕ → RangeView
frame_around x = record { base = x - x % FRAME_SIZE; size = FRAME_SIZE }

-- the range of the addresses from the first one up to the second, without the second; `None` unless
-- the first is below the second
abbrev pub range_between : ℕ → ℕ → Option RangeView
range_between from until = if nat_lt from until then Some (record { base = from; size = until - from }) else None

-- the range of all frames that lie completely in the range, or `None` if there are none: the
-- range's base is rounded up to a frame (`PFN_UP`), its end down (`PFN_DOWN`)
abbrev pub frames_within : RangeView → Option RangeView
frames_within r = range_between (next_multiple_of r.base FRAME_SIZE) (end_of r - end_of r % FRAME_SIZE)
