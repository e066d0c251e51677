-- The totals of a boot: of the map, of the two tables, and of the free frames at the end.
use Rattle.std.specs.Prelude.{ℕ, ◌^◌, List, length}
use Rattle.std.specs.List.{sum_by}
use Rattle.address_runs.specs.Runs.{value_at}
use Rattle.e820_model.specs.Usable.{types_below, usable_frames}
use Rattle.buddy_blocks.specs.declared.block.Block.{Block}
use Rattle.buddy_blocks.specs.BlockList.{blocks_of}
use Rattle.memblock_ranges.specs.declared.region.Head.{Head}
use Rattle.report_stages.specs.declared.summary.Fullness.{Fullness}
use Rattle.report_stages.specs.declared.summary.Summary.{Summary}
use Rattle.boot_model.specs.Boot.{BootedView, booted_address_limit}

-- the number of frames in these blocks; a block has 2^order frames
abbrev pub total_frames_of_blocks : List Block → ℕ
total_frames_of_blocks blocks = sum_by (λ b. 2 ^ b.order) blocks

-- how full a table is: its number of records, and the number that it has room for (`cnt` and `max`
-- of `struct memblock_type`)
abbrev pub fullness_of : Head → Fullness
fullness_of head = record { records = head.count; room = head.room }

-- The totals of a boot. The usable frames are the whole frames of memory of the map below the limit
-- of physical addresses (`e820__memblock_setup`). The free frames are those that the page allocator
-- gets (`memblock_free_all`).
abbrev pub summary_of : BootedView → Summary
summary_of booted = record {
  runs = length booted.map;
  usable = usable_frames (types_below (booted_address_limit booted) (value_at booted.map));
  free = total_frames_of_blocks (blocks_of booted.free);
  memory = fullness_of booted.heads.memory;
  reserved = fullness_of booted.heads.reserved;
  blocks = length (blocks_of booted.free);
}
