-- Which frames are free while the handover goes over the memory records.
use Rattle.std.specs.Prelude.{ℕ, ◌&&◌, nat_le, nat_lt, if◌then◌else◌, Some, None}
use Rattle.memblock_model.specs.Labels.{Labels}
use Rattle.buddy_blocks.specs.Frames.{Frames}
use Rattle.memblock_frames.specs.Frames.{node_of_frame, is_unclaimed}

-- the free frames after the unclaimed frames from `first` to below `end` were freed on the node;
-- the others are unchanged
abbrev pub free_unclaimed_frames : ℕ → ℕ → ℕ → Labels → Frames → Frames
free_unclaimed_frames first end node reserved f x = if (nat_le first x && nat_lt x end) && is_unclaimed reserved x then Some node else f x

-- the node of each frame of memory in which no byte is reserved; `None` for any other frame
abbrev pub unclaimed_frames : Labels → Labels → Frames
unclaimed_frames memory reserved x = if is_unclaimed reserved x then node_of_frame memory x else None
