-- Free blocks of the page allocator, as the lines of the report `blocks` state them.
use Rattle.std.specs.Prelude.{ℕ, ◌*◌, ◌^◌, ◌≤◌}
use Rattle.bm_base.specs.declared.zone.Zone.{Zone}
use Rattle.bm_base.specs.Range.{RangeView, end_of}
use Rattle.bm_base.specs.declared.range.TheConstants.{FRAME_SIZE}

-- what a line of `blocks` states: a block of 2^order frames from the address `at` on, with its node
-- and zone
pub record BlockLineView : Type 0 where
  pub node : ℕ
  pub zone : Zone
  pub order : ℕ
  pub at : ℕ

-- the range of addresses of a block's bytes
abbrev pub bytes_of_block : BlockLineView → RangeView
bytes_of_block b = record { base = b.at; size = FRAME_SIZE * 2 ^ b.order }

-- the order of the block is at most 10, as the kernel's `MAX_ORDER` is 11, and the block ends at
-- or below 2^52
abbrev pub IsBlockLine : BlockLineView → Type 0
IsBlockLine b = (b.order ≤ 10) × (end_of (bytes_of_block b) ≤ 2 ^ 52)
