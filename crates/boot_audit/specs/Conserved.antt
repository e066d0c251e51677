-- When the lines of three reports show that memory was conserved.
use Rattle.std.specs.Prelude.{◌≡◌, ℕ, ◌+◌, ◌<◌, true, false, if◌then◌else◌, List, [], ◌∷◌, ◌⊎◌}
use Rattle.std.specs.List.{All}
use Rattle.bm_base.specs.Range.{RangeView, covers}
use Rattle.bm_base.specs.Width.{address_limit_of}
use Rattle.bm_base.specs.declared.width.Width.{Width}
use Rattle.audit_lines.specs.Blocks.{BlockLineView}
use Rattle.audit_lines.specs.declared.lines.MapLine.{MapLine}
use Rattle.boot_audit.specs.declared.judgement.Saved.{Saved}
use Rattle.boot_audit.specs.Frames.{could_merge, frames_of_block, is_aligned, is_in_zone, is_untouched, is_usable}

-- the number of blocks of the list that contain the frame
abbrev pub count_blocks_of_frame : List BlockLineView → ℕ → ℕ
count_blocks_of_frame [] frame = 0
count_blocks_of_frame (b ∷ bs) frame =
    if covers (frames_of_block b) frame then count_blocks_of_frame bs frame + 1 else count_blocks_of_frame bs frame

-- the frame is touched and in no block, or untouched and in exactly one block
abbrev pub IsTouchedOrInOne : List RangeView → List BlockLineView → ℕ → Type 0
IsTouchedOrInOne owners blocks frame =
    ((is_untouched owners frame ≡ false) × (count_blocks_of_frame blocks frame ≡ 0))
    ⊎ ((is_untouched owners frame ≡ true) × (count_blocks_of_frame blocks frame ≡ 1))

-- the block's address is a multiple of its size, its frames are in its zone, and it couldn't merge
-- with its buddy
pub record IsSoundBlock (blocks : List BlockLineView) (b : BlockLineView) : Type 0 where
  pub aligned : is_aligned b ≡ true
  pub in_zone : is_in_zone b ≡ true
  pub maximal : could_merge blocks b ≡ false

-- the lines of the three reports show that memory was conserved; `limit` is the limit of physical
-- addresses, 2^46 or 2^52
pub record LinesConserveMemory (limit : ℕ) (map_lines : List MapLine) (owners : List RangeView) (blocks : List BlockLineView) : Type 0 where
  -- each usable frame is either touched or in exactly one block
  pub frames : (frame : ℕ) → is_usable limit map_lines frame ≡ true → IsTouchedOrInOne owners blocks frame
  -- each frame of a block is usable and untouched
  pub others : (frame : ℕ) → 0 < count_blocks_of_frame blocks frame
      → (is_usable limit map_lines frame ≡ true) × (is_untouched owners frame ≡ true)
  pub each : All (IsSoundBlock blocks) blocks

-- the lines of the three saved reports show that memory was conserved, for physical addresses of
-- this width
abbrev pub SavedConservesMemory : Saved → Width → Type 0
SavedConservesMemory saved width = LinesConserveMemory (address_limit_of width) saved.map.items saved.owners.items saved.blocks.items
