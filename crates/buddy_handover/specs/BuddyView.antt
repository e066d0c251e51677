-- What contracts see of the free frames of a `Buddy`.
use Rattle.std.specs.Prelude.{ℕ, List}
use Rattle.address_runs.specs.Runs.{RunOf, value_at}
use Rattle.buddy_blocks.specs.Frames.{Frames}

-- `runs` are the runs of free frames, ascending, each of one node. `spare` says for how many more
-- runs the list has room.
pub record BuddyView : Type 0 where
  pub runs : List (RunOf ℕ)
  pub spare : ℕ

-- the node of each free frame, or `None` for a frame that isn't free
abbrev pub node_of_free_frame : BuddyView → Frames
node_of_free_frame b = value_at b.runs
