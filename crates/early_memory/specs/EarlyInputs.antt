-- The inputs of the early stages other than the map.
use Rattle.std.specs.Prelude.{ℕ, ◌*◌, Bool, Option, List}
use Rattle.bm_base.specs.Range.{RangeView}
use Rattle.bm_base.specs.declared.range.TheConstants.{FRAME_SIZE}

-- consecutive frames: the number of the first, and how many there are
pub record FrameRange : Type 0 where
  pub first : ℕ
  pub count : ℕ

-- the range of the bytes in these frames; a frame has 4,096 bytes
abbrev pub bytes_of_frames : FrameRange → RangeView
bytes_of_frames r = record { base = FRAME_SIZE * r.first; size = FRAME_SIZE * r.count }

-- `limit` is the limit of physical addresses: the address past the highest one that memory can
-- have. `kernel` and `initrd` are the ranges of the kernel's image and of the initrd. `mirrors`
-- are the frames that firmware mirrors (`efi_find_mirror`). `upward` says whether searches go from
-- the lowest address up (`movable_node_is_enabled`, `memblock_set_bottom_up`).
pub record EarlyInputs : Type 0 where
  pub limit : ℕ
  pub kernel : RangeView
  pub initrd : Option RangeView
  pub mirrors : List FrameRange
  pub upward : Bool
