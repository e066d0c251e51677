-- What memblock's two tables say of a frame (`for_each_free_mem_range`, `for_each_mem_pfn_range`).
use Rattle.std.specs.Prelude.{◌≡◌, ℕ, ◌+◌, ◌-◌, ◌*◌, ◌/◌, ◌≤◌, Bool, ◌&&◌, nat_lt, is_some, is_none, if◌then◌else◌, Option, Some, None, List, drop}
use Rattle.bm_base.specs.Each.{each_in}
use Rattle.bm_base.specs.Frames.{bytes_of_frame}
use Rattle.bm_base.specs.declared.range.TheConstants.{FRAME_SIZE}
use Rattle.address_runs.specs.Runs.{RunOf, value_at}
use Rattle.memblock_model.specs.Labels.{LabelView, Labels}
use Rattle.memblock_frames.specs.declared.frames.RecordFrames.{RecordFrames}
use Rattle.bm_base.specs.declared.zone.TheConstants.{MAX_NODES}

-- the node, if its number is below 1,024; any larger number means no node
abbrev pub valid_node : Option ℕ → Option ℕ
valid_node None = None
valid_node (Some n) = if nat_lt n MAX_NODES then Some n else None

-- the node of a byte with this value in the memory table
abbrev pub node_of_label : Option LabelView → Option ℕ
node_of_label None = None
node_of_label (Some label) = valid_node label.node

-- the frames that overlap a record, and their node
abbrev pub frames_of_record : RunOf LabelView → RecordFrames
frames_of_record r = record { first = r.base / FRAME_SIZE; end = (r.base + (r.size - 1)) / FRAME_SIZE + 1; node = valid_node r.value.node }

-- the node of a frame is that of its first byte
abbrev pub node_of_frame : Labels → ℕ → Option ℕ
node_of_frame memory frame = node_of_label (memory (FRAME_SIZE * frame))

-- the frame is unclaimed: no byte of it is in the reserved table
unfoldable pub is_unclaimed : Labels → ℕ → Bool
is_unclaimed reserved frame = each_in (bytes_of_frame frame) (λ x. is_none (reserved x))

-- the node of a frame that is free by the memory table and the reserved table, else None. A frame
-- is free if all of it is memory and no byte of it is reserved.
unfoldable pub free_node_in : Labels → Labels → ℕ → Option ℕ
free_node_in memory reserved frame =
    if each_in (bytes_of_frame frame) (λ x. is_some (memory x) && is_none (reserved x)) then node_of_frame memory frame else None

-- the records before index `i` overlap neither the frame nor any above it
abbrev pub OverlapOnlyBelow : List (RunOf LabelView) → ℕ → ℕ → Type 0
OverlapOnlyBelow rs i frame = (x : ℕ) → FRAME_SIZE * frame ≤ x → value_at (drop i rs) x ≡ value_at rs x
