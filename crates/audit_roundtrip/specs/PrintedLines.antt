-- The line as which a run or a block is read back, and what must be true of a run, an owner or a
-- block so that its line can be read back.
use Rattle.std.specs.Prelude.{◌≡◌, ℕ, ◌/◌, ◌%◌, ◌<◌, ◌^◌}
use Rattle.address_runs.specs.Runs.{RunOf, range_of_run}
use Rattle.bm_base.specs.Range.{end_of}
use Rattle.bm_base.specs.Frames.{bytes_of_frame}
use Rattle.bm_base.specs.declared.range.TheConstants.{FRAME_SIZE}
use Rattle.audit_lines.specs.Blocks.{BlockLineView, IsBlockLine}
use Rattle.audit_lines.specs.declared.lines.MapLine.{MapLine}
use Rattle.buddy_blocks.specs.declared.block.Block.{Block}
use Rattle.memblock_model.specs.declared.owner.Owner.{Owner}
use Rattle.memblock_model.specs.declared.owner.Owner.TheVariants as owners

-- the line of the report `map` for a run: its range of addresses and its type
abbrev pub line_of_run : RunOf ℕ → MapLine
line_of_run r = record { range = range_of_run r; kind = r.value }

-- the range of the run isn't empty, and ends below 2^64
abbrev pub IsPrintableRange : {V : Type 0} → RunOf V → Type 0
IsPrintableRange r = (0 < r.size) × (end_of (range_of_run r) < 2 ^ 64)

-- the run isn't empty and ends below 2^64, and its type is above 0 and fits in 32 bits
abbrev pub IsPrintableRun : RunOf ℕ → Type 0
IsPrintableRun r = IsPrintableRange r × ((0 < r.value) × (r.value < 2 ^ 32))

-- the owner's number, if it has one, fits in 32 bits
abbrev pub IsPrintableOwner : Owner → Type 0
IsPrintableOwner (owners.NodeData n) = n < 2 ^ 32
IsPrintableOwner (owners.Root n) = n < 2 ^ 32
IsPrintableOwner (owners.Usage n) = n < 2 ^ 32
IsPrintableOwner (owners.Map n) = n < 2 ^ 32
IsPrintableOwner (owners.Script n) = n < 2 ^ 32
IsPrintableOwner other = Unit {0}

abbrev pub IsPrintableOwnerRun : RunOf Owner → Type 0
IsPrintableOwnerRun r = IsPrintableRange r × IsPrintableOwner r.value

-- the line of the report `blocks` for a block: its node, zone and order, and the address of its
-- first byte
abbrev pub line_of_block : Block → BlockLineView
line_of_block b = record { node = b.node; zone = b.zone; order = b.order; at = (bytes_of_frame b.first).base }

-- the node of the block fits in 32 bits, its order is at most 10, and it ends at or below 2^52
abbrev pub IsPrintableBlock : Block → Type 0
IsPrintableBlock b = (b.node < 2 ^ 32) × IsBlockLine (line_of_block b)

-- `run_of_line` is the run that a line of `map` states, and `block_of_line` the block that a
-- line of `blocks` states
abbrev pub run_of_line : MapLine → RunOf ℕ
run_of_line l = record { base = l.range.base; size = l.range.size; value = l.kind }

abbrev pub block_of_line : BlockLineView → Block
block_of_line b = record { node = b.node; zone = b.zone; order = b.order; first = b.at / FRAME_SIZE }

-- the address of the block is a multiple of the frame size
abbrev pub BeginsAtFrame : BlockLineView → Type 0
BeginsAtFrame b = b.at % FRAME_SIZE ≡ 0
