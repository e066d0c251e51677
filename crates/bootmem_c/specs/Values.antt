-- The results of a boot as values for C.
use Rattle.std.specs.Prelude.{◌≡◌, ℕ, zero, suc, ◌+◌, List, [], ◌∷◌, ◌++◌, map, take, drop, length, Option, Some, None}
use Rattle.std.specs.List.{slice_get}
use Rattle.phys_store.specs.Bytes.{bytes_at}
use Rattle.address_runs.specs.Runs.{RunOf}
use Rattle.memblock_model.specs.Labels.{LabelView}
use Rattle.memblock_model.specs.Tables.{records_of}
use Rattle.memblock_model.specs.declared.owner.Which.TheVariants as which
use Rattle.memblock_ranges.specs.declared.region.Region.{Region}
use Rattle.memblock_ranges.specs.Encoding.{decode_region, region_of}
use Rattle.bm_base.specs.Range.{RangeView}
use Rattle.bm_base.specs.declared.zone.Zone.{Zone}
use Rattle.bm_base.specs.declared.zone.Zone.TheVariants as zone
use Rattle.boot_model.specs.Boot.{BootedView}
use Rattle.conservation.specs.Headline.{booted_blocks}
use Rattle.crash_kernel.specs.declared.crash.Crash.{Crash}
use Rattle.crash_kernel.specs.declared.crash.Crash.TheVariants as crash
use Rattle.buddy_blocks.specs.declared.block.Block.{Block}
use Rattle.zone_spans.specs.declared.span.Span.{Span}
use Rattle.bootmem_c.specs.declared.values.CrashArea.{CrashArea}
use Rattle.bootmem_c.specs.declared.values.FreeBlock.{FreeBlock}
use Rattle.bootmem_c.specs.declared.values.MapRun.{MapRun}
use Rattle.bootmem_c.specs.declared.values.MemoryNode.{MemoryNode}
use Rattle.bootmem_c.specs.declared.values.MemoryRange.{MemoryRange}
use Rattle.bootmem_c.specs.declared.values.ZoneSpan.{ZoneSpan}

-- How values are copied to a buffer of the caller, `old` before and `new` after: the buffer begins
-- with the first of the values, as many as fit, and its rest is unchanged. `booted` is the number of
-- all values.
pub record CopiesValues {T : Type 0} (values old new : List T) (number : ℕ) : Type 0 where
  pub count : number ≡ length values
  pub front : new ≡ take (length old) values ++ drop (length values) old

-- the value of a run of the map: its range in bytes and its type
abbrev pub run_value : RunOf ℕ → MapRun
run_value run = record { base = run.base; size = run.size; kind = run.value }

-- the runs of the map that the boot made
abbrev pub map_values : BootedView → List MapRun
map_values booted = map run_value booted.map

-- the range of the crash area or of its low part; base and size are 0 if it isn't reserved
abbrev pub crash_part_value : Option RangeView → RangeView
crash_part_value None = record { base = 0; size = 0 }
crash_part_value (Some part) = part

-- the value of the crash area, from `state`, which says why there is or isn't an area, the area
-- itself, and its low part below 4 GiB
abbrev pub crash_parts_value : ℕ → Option RangeView → Option RangeView → CrashArea
crash_parts_value state main low = record {
  base = (crash_part_value main).base;
  size = (crash_part_value main).size;
  low_base = (crash_part_value low).base;
  low_size = (crash_part_value low).size;
  state = state;
}

-- the number that says why there is or isn't a crash area (`BOOTMEM_CRASH_..` in C); 1 means that
-- there is one
abbrev pub crash_state_value : Crash → ℕ
crash_state_value crash.Nothing = 0
crash_state_value (crash.At main low) = 1
crash_state_value crash.NoArea = 2
crash_state_value crash.InUse = 3
crash_state_value crash.LowFailed = 4

-- the value of each outcome for the crash area; only `At` has an area
abbrev pub crash_outcome_value : Crash → CrashArea
crash_outcome_value crash.Nothing = crash_parts_value (crash_state_value crash.Nothing) None None
crash_outcome_value (crash.At main low) = crash_parts_value (crash_state_value (crash.At main low)) (Some main) low
crash_outcome_value crash.NoArea = crash_parts_value (crash_state_value crash.NoArea) None None
crash_outcome_value crash.InUse = crash_parts_value (crash_state_value crash.InUse) None None
crash_outcome_value crash.LowFailed = crash_parts_value (crash_state_value crash.LowFailed) None None

-- the number of a zone (`enum zone_type`)
abbrev pub zone_number : Zone → ℕ
zone_number zone.Dma = 0
zone_number zone.Dma32 = 1
zone_number zone.Normal = 2

-- the value of a free block: its first frame, order, node and zone
abbrev pub block_value : Block → FreeBlock
block_value b = record { first = b.first; order = b.order; node = b.node; zone = zone_number b.zone }

-- the free blocks of the boot
abbrev pub block_values : BootedView → List FreeBlock
block_values booted = map block_value (booted_blocks booted)

-- the value of the range of frames that a node spans in a zone: the first frame, the frame after
-- the last one, the number of frames in the range that are memory of the node, and the node and
-- zone
abbrev pub span_value : Span → ZoneSpan
span_value s = record { start = s.start; end = s.end; present = s.present; node = s.node; zone = zone_number s.zone }

-- the ranges of frames that the boot's nodes span in zones
abbrev pub zone_values : BootedView → List ZoneSpan
zone_values booted = map span_value booted.spans

-- the value of a node with its proximity domain; without a domain, `domain` and `has_domain` are 0
abbrev pub domain_value : ℕ → Option ℕ → MemoryNode
domain_value node None = record { node = node; domain = 0; has_domain = 0 }
domain_value node (Some domain) = record { node = node; domain = domain; has_domain = 1 }

-- the value of a node; `domains` has the proximity domain of each node, and is empty if the SRAT
-- isn't used
abbrev pub node_value : List ℕ → ℕ → MemoryNode
node_value domains node = domain_value node (slice_get domains node)

-- the nodes of the boot that have memory
abbrev pub node_values : BootedView → List MemoryNode
node_values booted = map (node_value booted.nodes.domains) booted.nodes.with_memory

-- the value of a record of memory: its range, flags and node (`struct memblock_region`)
abbrev pub region_value : Region → MemoryRange
region_value r = record { base = r.base; size = r.size; flags = r.flags; node = r.node }

-- the values of the n memory records whose bytes begin at address `place`, 24 bytes each; `f`
-- gives the byte at an address
abbrev pub regions_at : (ℕ → ℕ) → ℕ → ℕ → List MemoryRange
regions_at f place zero = []
regions_at f place (suc n) = region_value (decode_region (bytes_at f place 24)) ∷ regions_at f (place + 24) n

-- the value of a memory record, from a run of bytes with one label (node and mirror flag)
abbrev pub record_value : RunOf LabelView → MemoryRange
record_value r = region_value (region_of r)

-- the values of the records of memblock's memory table, as the boot's journal defines them
abbrev pub memory_values : BootedView → List MemoryRange
memory_values booted = map record_value (records_of which.Memory booted.items)
