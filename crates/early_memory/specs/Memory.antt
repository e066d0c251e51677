-- The memory that a map gives: its usable frames, some of them mirrored, and the end of the last
-- one.
use Rattle.std.specs.Prelude.{ℕ, ◌/◌, Bool, if◌then◌else◌, Option, Some, None, List, [], ◌∷◌}
use Rattle.std.specs.List.{list_any}
use Rattle.std.specs.Option.{option_map}
use Rattle.bm_base.specs.Range.{covers, end_of}
use Rattle.bm_base.specs.Frames.{bytes_of_frame}
use Rattle.bm_base.specs.declared.range.TheConstants.{FRAME_SIZE}
use Rattle.address_runs.specs.Runs.{RunOf, run_end}
use Rattle.e820_model.specs.Map.{TypeAt}
use Rattle.e820_model.specs.Usable.{types_below, is_usable_frame}
use Rattle.memblock_model.specs.Labels.{Labels, plain_label, with_mirror}
use Rattle.memblock_model.specs.Search.{last_below}
use Rattle.early_memory.specs.EarlyInputs.{FrameRange, bytes_of_frames}

-- the label of each address before any memory is marked as mirrored: a byte of a usable frame is
-- memory without a node, and any other byte isn't memory (`e820__memblock_setup`)
abbrev pub usable_memory : ℕ → TypeAt → Labels
usable_memory limit f x = if is_usable_frame (types_below limit f) (x / FRAME_SIZE) then Some plain_label else None

-- whether the address lies in one of these ranges of mirrored frames
abbrev pub is_mirrored : List FrameRange → ℕ → Bool
is_mirrored mirrors x = list_any (λ r. covers (bytes_of_frames r) x) mirrors

-- the labels after mirroring: memory in the frames `mirrors` is mirrored and keeps its node
-- (`memblock_mark_mirror`)
abbrev pub mirrored_memory : List FrameRange → Labels → Labels
mirrored_memory mirrors f x = if is_mirrored mirrors x then option_map with_mirror (f x) else f x

-- the first address above the frame of this number, or 0 for `None`
abbrev pub end_of_last_frame : Option ℕ → ℕ
end_of_last_frame None = 0
end_of_last_frame (Some frame) = end_of (bytes_of_frame frame)

-- the end of the last usable frame, or 0 if no frame is usable (`e820__end_of_ram_pfn`)
unfoldable pub memory_end : ℕ → TypeAt → ℕ
memory_end limit f = end_of_last_frame (last_below (is_usable_frame (types_below limit f)) (limit / FRAME_SIZE))

-- `end_of_last_run` is the end of the last run of a list, or 0 if the list is empty
-- (`memblock_end_of_DRAM`). `last_run_end_or` gives `at` instead of 0 for an empty list.
abbrev pub last_run_end_or : {X : Type 0} → ℕ → List (RunOf X) → ℕ
last_run_end_or at [] = at
last_run_end_or at (r ∷ rs) = last_run_end_or (run_end r) rs

abbrev pub end_of_last_run : {X : Type 0} → List (RunOf X) → ℕ
end_of_last_run rs = last_run_end_or 0 rs
