-- Examples of the reports of this crate and of their parts.
use Rattle.std.proofs.Common.{◌≡◌, [], ◌∷◌, codes, Some, refl}
use Rattle.std.specs.Fmt.{digits}
use Rattle.hex.specs.Hex.{encode_with}
use Rattle.bm_base.specs.Range.{RangeView}
use Rattle.bm_base.specs.declared.zone.Zone.TheVariants as zone
use Rattle.memblock_model.specs.declared.item.Item.TheVariants as item
use Rattle.memblock_model.specs.declared.owner.Which.TheVariants as which
use Rattle.early_script.specs.declared.outcome.Outcome.TheVariants as outcomes
use Rattle.buddy_blocks.specs.declared.block.Block.{Block}
use Rattle.crash_kernel.specs.declared.crash.Crash.TheVariants as crash
use Rattle.srat_nodes.specs.declared.reasons.Why.TheVariants as why
use Rattle.page_alloc.specs.declared.outcome.PageOutcome.TheVariants as page
use Rattle.slit_zonelists.specs.declared.uses.SlitUse.TheVariants as uses
use Rattle.section_maps.specs.declared.placed.Placed.{Placed}
use Rattle.zone_spans.specs.declared.span.Span.{Span}
use Rattle.report_memory.specs.Lines.{indexed_lines}
use Rattle.report_stages.specs.BlocksText.{block_line}
use Rattle.report_stages.specs.CrashText.{crash_text}
use Rattle.report_stages.specs.ListsText.{list_zone_text, slit_use_line}
use Rattle.report_stages.specs.NodesText.{nodes_text, srat_use_line}
use Rattle.report_stages.specs.PagesText.{page_outcome_text, pages_text}
use Rattle.report_stages.specs.ScriptText.{outcome_text, script_text}
use Rattle.report_stages.specs.SectionsText.{sections_text}
use Rattle.report_stages.specs.SummaryText.{summary_text}
use Rattle.report_stages.specs.ZonesText.{buddyinfo_line, block_counts_text, frames_in_zone, zone_line}

-- the report `script`; a line has its number in the script, not its index in the report
script_examples : (outcome_text outcomes.Done ≡ codes "done")
    × (outcome_text outcomes.NoGap ≡ codes "no gap")
    × (outcome_text (outcomes.NoGapForTable which.Reserved 128) ≡ codes "no gap for table reserved room 128")
    × (outcome_text outcomes.Taken ≡ codes "taken")
    × (outcome_text outcomes.Unknown ≡ codes "unknown")
    × (outcome_text outcomes.TableInUse ≡ codes "table in use")
    × (outcome_text outcomes.TooLargeKeep ≡ codes "keep too large")
    × (outcome_text outcomes.TooLargeFill ≡ codes "fill too large")
    × (outcome_text (outcomes.Bytes (record { items = 0 ∷ 0xAB ∷ 9 ∷ 255 ∷ [] })) ≡ codes "bytes 00ab09ff")
    × (script_text (record { line = 2; outcome = outcomes.At 0 } ∷ record { line = 7; outcome = outcomes.NotWhole } ∷ [])
    ≡ codes "2: at 0x0000000000000000\n7: not whole\n")
unfolding digits encode_with
script_examples = (refl, refl, refl, refl, refl, refl, refl, refl, refl, refl)

-- the report `pages`; a line has its number in the script, not its index in the report
page_examples : (page_outcome_text page.Done ≡ codes "done")
    × (page_outcome_text page.NoBlock ≡ codes "no block")
    × (page_outcome_text page.Taken ≡ codes "taken")
    × (page_outcome_text page.Unknown ≡ codes "unknown")
    × (pages_text (record { line = 2; outcome = page.At 0 } ∷ record { line = 7; outcome = page.NoBlock } ∷ [])
    ≡ codes "2: at 0x0000000000000000\n7: no block\n")
unfolding digits
page_examples = (refl, refl, refl, refl, refl)

-- the report `zonelists`: each text for whether the SLIT is used, and zone lists
list_examples : (slit_use_line uses.Used ≡ codes "slit used\n") × (slit_use_line uses.Absent ≡ codes "slit absent\n")
    × (slit_use_line uses.NoSrat ≡ codes "slit no srat\n") × (slit_use_line (uses.NotValid 1 12) ≡ codes "slit not valid 1 12\n")
    × (list_zone_text (record { node = 12; zone = zone.Dma32 }) ≡ codes " 12/DMA32")
unfolding digits
list_examples = (refl, refl, refl, refl, refl)

-- the first MiB, for the report `nodes`
first_MiB : RangeView
first_MiB = record { base = 0; size = 0x100000 }

-- the report `nodes`: each text for whether the SRAT is used, and two whole reports; an item that
-- gives no node has no line
node_examples : (srat_use_line why.Off ≡ codes "numa off\n")
    × (srat_use_line why.NoBlocks ≡ codes "numa no blocks\n")
    × (srat_use_line why.TooManyDomains ≡ codes "numa too many domains\n")
    × (srat_use_line why.TooManyBlocks ≡ codes "numa too many blocks\n")
    × (srat_use_line (why.Overlap 2 11) ≡ codes "numa overlap 2 11\n")
    × (srat_use_line (why.NotCovered 256) ≡ codes "numa not covered 256\n")
    × (nodes_text
    (record { why = why.Used; domains = 0 ∷ 8 ∷ []; uncovered = 5; with_memory = 0 ∷ [] })
    (item.Limit 0x100000 ∷ item.Node first_MiB 0 ∷ item.Trim ∷ [])
    ≡ codes "numa used\ndomain 0 node 0\ndomain 8 node 1\nuncovered 5\nnode 0 0x0000000000000000..0x00000000000fffff\n")
    × (nodes_text (record { why = why.Absent; domains = []; uncovered = 0; with_memory = 0 ∷ [] }) []
    ≡ codes "numa absent\nuncovered 0\n")
unfolding digits first_MiB
node_examples = (refl, refl, refl, refl, refl, refl, refl, refl)

-- a crash area at 4 GiB, for the report `crash`
above_4G : RangeView
above_4G = record { base = 0x100000000; size = 0x20000000 }

low_part : RangeView
low_part = record { base = 0x6F000000; size = 0x10000000 }

-- the report `crash` for each outcome
crash_examples : (crash_text crash.Nothing ≡ codes "crash none\n")
    × (crash_text crash.NoArea ≡ codes "crash no area\n")
    × (crash_text crash.InUse ≡ codes "crash in use\n")
    × (crash_text crash.LowFailed ≡ codes "crash low failed\n")
    × (crash_text (crash.At above_4G (Some low_part))
    ≡ codes "crash at 0x0000000100000000..0x000000011fffffff\ncrash low 0x000000006f000000..0x000000007effffff\n")
unfolding low_part digits above_4G
crash_examples = (refl, refl, refl, refl, refl)

-- a section, for the report `sections`
low_section : Placed
low_section = record { section = 0; node = 1; map = 0x7A00000; usage = 0x7FDAFC0 }

-- the report `sections` with one section, and with none
section_examples : (sections_text (record { table = 0x7FDC000; roots = record { number = 0; place = 0x7FDB000 } ∷ [] }) (low_section ∷ [])
    ≡ codes "roots 0x0000000007fdc000\nroot 0 0x0000000007fdb000\nsection 0 node 1 map 0x0000000007a00000 usage 0x0000000007fdafc0\n")
    × (sections_text (record { table = 0x1000; roots = [] }) [] ≡ codes "roots 0x0000000000001000\n")
unfolding digits low_section
section_examples = (refl, refl)

-- a block of one frame, for the reports of blocks and zones
one_frame : Block
one_frame = record { order = 0; first = 1; node = 0; zone = zone.Dma }

two_frames : Block
two_frames = record { order = 1; first = 2; node = 0; zone = zone.Dma }

far_block : Block
far_block = record { order = 10; first = 0x100000; node = 12; zone = zone.Normal }

low_span : Span
low_span = record { node = 0; zone = zone.Dma; start = 1; end = 4096; present = 3998 }

-- lines of the reports `blocks`, `zones` and `buddyinfo`: only blocks of the span's node and zone
-- are counted
zone_examples : (indexed_lines block_line 0 (two_frames ∷ far_block ∷ [])
    ≡ codes "node 0 zone DMA order 1 0x0000000000002000\nnode 12 zone Normal order 10 0x0000000100000000\n")
    × (frames_in_zone 12 zone.Normal (one_frame ∷ two_frames ∷ far_block ∷ []) ≡ 1024)
    × (zone_line (one_frame ∷ two_frames ∷ far_block ∷ []) 0 low_span
    ≡ codes "Node 0, zone DMA start 1 end 4096 present 3998 free 3\n")
    × (buddyinfo_line (one_frame ∷ two_frames ∷ far_block ∷ []) 0 low_span
    ≡ codes "Node 0, zone      DMA      1      1      0      0      0      0      0      0      0      0      0 \n")
unfolding two_frames far_block digits one_frame frames_in_zone low_span buddyinfo_line block_counts_text
zone_examples = (refl, refl, refl, refl)

-- the report `summary`
summary_examples : summary_text (record {
  runs = 3;
  usable = 32639;
  free = 30000;
  memory = record { records = 2; room = 128 };
  reserved = record { records = 17; room = 128 };
  blocks = 41;
})
    ≡ codes "runs 3\nusable 32639\nfree 30000\nmemory records 2 room 128\nreserved records 17 room 128\nblocks 41\n"
unfolding digits
summary_examples = refl
