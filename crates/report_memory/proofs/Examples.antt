-- Examples of the reports of this crate and of their parts.
use Rattle.std.proofs.Common.{◌≡◌, ℕ, true, false, [], ◌∷◌, ◌++◌, codes, None, Some, decimal, refl}
use Rattle.std.specs.Fmt.{digits}
use Rattle.bm_base.specs.Range.{RangeView}
use Rattle.address_runs.specs.Runs.{RunOf}
use Rattle.e820_model.specs.declared.entry.Edit.TheVariants as edits
use Rattle.boot_options.specs.declared.crash.CrashRange.{CrashRange}
use Rattle.memblock_model.specs.declared.item.Item.TheVariants as item
use Rattle.memblock_model.specs.declared.owner.Owner.{Owner}
use Rattle.memblock_model.specs.declared.owner.Owner.TheVariants as owner
use Rattle.memblock_model.specs.declared.owner.Which.TheVariants as which
use Rattle.memblock_model.specs.Labels.{LabelView, plain_label, with_node}
use Rattle.report_memory.specs.Lines.{index_text, indexed_lines, range_text}
use Rattle.report_memory.specs.JournalText.{item_text, journal_text}
use Rattle.report_memory.specs.MapText.{e820_type_name, map_text}
use Rattle.report_memory.specs.OptionsText.{crash_lines, crash_range_line, crash_range_text, edit_text, options_text}
use Rattle.report_memory.specs.OwnersText.{owner_text, owners_text}
use Rattle.report_memory.specs.RecordsText.{records_text, region_line}
use Rattle.report_memory.specs.TablesText.{tables_text}

-- elements are numbered from the first index on; a range of one byte, and an empty one; an index
-- has at least four columns
line_examples : (indexed_lines (λ n x. decimal n ++ x) 8 (codes "a" ∷ codes "b" ∷ codes "c" ∷ []) ≡ codes "8a9b10c")
    × (range_text (record { base = 0x1000; size = 1 }) ≡ codes "0x0000000000001000..0x0000000000001000")
    × (range_text (record { base = 0; size = 0 }) ≡ codes "0x0000000000000000..0x0000000000000000")
    × (index_text 7 ≡ codes "   7: ") × (index_text 9999 ≡ codes "9999: ") × (index_text 12345 ≡ codes "12345: ")
unfolding digits
line_examples = (refl, refl, refl, refl, refl, refl)

-- a run of RAM, for the report `map`
ram_at_1M : RunOf ℕ
ram_at_1M = record { base = 0x100000; size = 0x7EE0000; value = 1 }

-- a reserved run that follows `ram_at_1M`
reserved_after : RunOf ℕ
reserved_after = record { base = 0x7FE0000; size = 0x20000; value = 2 }

-- the report `map` on two runs, and the names of some e820 types; an unknown type is `other`
map_examples : (map_text (ram_at_1M ∷ reserved_after ∷ [])
    ≡ codes "0x0000000000100000..0x0000000007fdffff 1 usable\n0x0000000007fe0000..0x0000000007ffffff 2 reserved\n")
    × (e820_type_name 0xEFFFFFFF ≡ codes "soft reserved")
    × (e820_type_name 6 ≡ codes "other")
    × (e820_type_name 128 ≡ codes "usable kernel")
unfolding ram_at_1M reserved_after digits
map_examples = (refl, refl, refl, refl)

-- the first MiB, for the examples of several reports
first_MiB : RangeView
first_MiB = record { base = 0; size = 0x100000 }

-- the text of each kind of edit, in the report `options`
edit_examples : (edit_text (edits.Add first_MiB 12) ≡ codes "add 12 0x0000000000000000..0x00000000000fffff")
    × (edit_text (edits.Remove first_MiB 1) ≡ codes "remove 1 0x0000000000000000..0x00000000000fffff")
    × (edit_text (edits.RemoveAll first_MiB) ≡ codes "remove-all 0x0000000000000000..0x00000000000fffff")
    × (edit_text (edits.Change first_MiB 2 1) ≡ codes "change 2 1 0x0000000000000000..0x00000000000fffff")
    × (edit_text edits.Clear ≡ codes "clear")
unfolding first_MiB digits
edit_examples = (refl, refl, refl, refl, refl)

-- the first range of `crashkernel=1G-2G:64M,2G-:128M@16M`, for the report `options`
up_to_2G : CrashRange
up_to_2G = record { start = 0x40000000; end = Some 0x80000000; size = 0x4000000 }

-- the second range of `crashkernel=1G-2G:64M,2G-:128M@16M`, which has no end
from_2G : CrashRange
from_2G = record { start = 0x80000000; end = None; size = 0x8000000 }

-- the lines of a requested crash area: a range with an end, one without, and `,high` with `,low`
crash_examples : (crash_range_line 0 0 up_to_2G
    ≡ codes "crash range 0x0000000040000000 0x0000000080000000 0x0000000004000000 base 0x0000000000000000\n")
    × (crash_range_line 0x1000000 1 from_2G ≡ codes "crash range 0x0000000080000000 - 0x0000000008000000 base 0x0000000001000000\n")
    × (crash_lines (record { plain = None; high = Some 0x20000000; low = Some 0x4000000 })
    ≡ codes "crash high 0x0000000020000000\ncrash low 0x0000000004000000\n")
unfolding up_to_2G from_2G crash_range_text digits
crash_examples = (refl, refl, refl)

-- the whole report `options`: edits, then the crash area, `numa=off` and `add_efi_memmap`
option_examples : options_text (record {
  edits = edits.Clear ∷ edits.Add first_MiB 1 ∷ [];
  crash = record { plain = None; high = None; low = Some 0x4000000 };
  numa_off = true;
  add_efi = true;
})
    ≡ codes "clear\nadd 1 0x0000000000000000..0x00000000000fffff\ncrash low 0x0000000004000000\nnuma off\nefi add\n"
unfolding first_MiB digits
option_examples = refl

-- a run with one owner, for the report `owners`
low : RunOf Owner
low = record { base = 0; size = 0x100000; value = owner.Low1M }

of_kernel : RunOf Owner
of_kernel = record { base = 0x1000000; size = 0x2000000; value = owner.Kernel }

-- names of owners, with and without a number, and the report `owners` on two runs
owner_examples : (owner_text (owner.Table which.Reserved) ≡ codes "table-reserved")
    × (owner_text (owner.NodeData 1) ≡ codes "node-data 1")
    × (owner_text (owner.Script 4294967295) ≡ codes "script 4294967295")
    × (owner_text owner.CrashLow ≡ codes "crash-low")
    × (owners_text (low ∷ of_kernel ∷ [])
    ≡ codes "   0: 0x0000000000000000..0x00000000000fffff low-1m\n   1: 0x0000000001000000..0x0000000002ffffff kernel\n")
unfolding low of_kernel digits
owner_examples = (refl, refl, refl, refl, refl)

-- the text of each kind of journal item, and the report `journal` on two items
item_examples : (item_text (item.Mem first_MiB) ≡ codes "mem 0x0000000000000000..0x00000000000fffff")
    × (item_text item.Trim ≡ codes "trim")
    × (item_text (item.Node first_MiB 3) ≡ codes "node 3 0x0000000000000000..0x00000000000fffff")
    × (item_text (item.Mirror first_MiB) ≡ codes "mirror 0x0000000000000000..0x00000000000fffff")
    × (item_text (item.Claim first_MiB (owner.NodeData 0)) ≡ codes "claim node-data 0 0x0000000000000000..0x00000000000fffff")
    × (item_text (item.Free first_MiB) ≡ codes "free 0x0000000000000000..0x00000000000fffff")
    × (item_text (item.Limit 0x100000) ≡ codes "limit 0x0000000000100000")
    × (item_text (item.Upward true) ≡ codes "upward on")
    × (item_text (item.Upward false) ≡ codes "upward off")
    × (item_text (item.Grown which.Memory 0x9D000 256) ≡ codes "grown memory 0x000000000009d000 room 256")
    × (journal_text (item.Limit 0x100000 ∷ item.Trim ∷ []) ≡ codes "1: limit 0x0000000000100000\n2: trim\n")
unfolding first_MiB digits
item_examples = (refl, refl, refl, refl, refl, refl, refl, refl, refl, refl, refl)

-- a record of node 1, for the reports of records, which don't print nodes
of_node_1 : RunOf LabelView
of_node_1 = record { base = 0x1000; size = 0x9E000; value = with_node (Some 1) plain_label }

of_no_node : RunOf LabelView
of_no_node = record { base = 0x100000; size = 0x7EE0000; value = plain_label }

-- the lines of records have no node; a record may end at byte 2^64 - 1
record_examples : (region_line 1 (record { base = 0x1000; size = 0xFFFFFFFFFFFFF000; flags = 0; node = 1024 })
    ≡ codes "   1: 0x0000000000001000..0xffffffffffffffff\n")
    × (records_text (of_node_1 ∷ of_no_node ∷ [])
    ≡ codes "   0: 0x0000000000001000..0x000000000009efff\n   1: 0x0000000000100000..0x0000000007fdffff\n")
unfolding of_node_1 of_no_node digits
record_examples = (refl, refl)

-- the report `tables` on a table that has grown and on one that hasn't
table_lines : tables_text (record {
  memory = record { place = 0x9D000; room = 256; count = 129 };
  reserved = record { place = 0x2FFF000; room = 128; count = 2 };
})
    ≡ codes "memory place 0x000000000009d000 room 256 records 129\nreserved place 0x0000000002fff000 room 128 records 2\n"
unfolding digits
table_lines = refl
