-- Small tables, computed or proved by the laws: examples of bytes, of one table and of both.
use Rattle.std.proofs.Common.{◌≡◌, ℕ, ◌-◌, ◌^◌, ◌<◌, true, false, Some, None, List, [], ◌∷◌, ◌++◌, replicate, refl, ap, arith}
use Rattle.address_runs.proofs.RunsLaws.{past_end}
use Rattle.phys_store.specs.Bytes.{ExtentView, byte_of, bytes_at}
use Rattle.address_runs.specs.Runs.{RunOf, AreRuns}
use Rattle.memblock_model.specs.Labels.{LabelView, plain_label, with_node, with_mirror}
use Rattle.memblock_model.specs.declared.owner.Which.TheVariants as which
use Rattle.memblock_model.specs.declared.owner.Owner.TheVariants as owner
use Rattle.memblock_model.specs.declared.item.Item.TheVariants as item
use Rattle.memblock_ranges.specs.declared.region.Head.{Head}
use Rattle.memblock_ranges.specs.Encoding.{base_in, size_in, flags_in, node_in, decode_region, encode_fields, node_of_field, label_of, node_field, decode_record, region_of, encode_record, records_at, encode_table, FitsRecord, IsRecord}
use Rattle.memblock_ranges.specs.Tables.{bytes_outside_table, HasTable, AreRecords, TableView, TablesView, bytes_of, table_range_in, OverlapsTable, MayBeNodeField, ArePlainRecords, bytes_of_head}
use Rattle.memblock_ranges.specs.RecordBytes.{AreRecordBytes}
use Rattle.memblock_ranges.specs.Steps.{RangeEndsInAddressSpace}
use Rattle.memblock_ranges.proofs.NewLaws.{first_head}

-- the first record of the memory table of a virtual machine of 128 MiB: 0x1000 to 0x9EFFF, node 0
abbrev first_record : List ℕ
first_record = 0 ∷ 0x10 ∷ 0 ∷ 0 ∷ 0 ∷ 0 ∷ 0 ∷ 0 ∷ 0 ∷ 0xE0 ∷ 9 ∷ 0 ∷ 0 ∷ 0 ∷ 0 ∷ 0 ∷ 0 ∷ 0 ∷ 0 ∷ 0 ∷ 0 ∷ 0 ∷ 0 ∷ 0 ∷ []

abbrev in_node_0 : LabelView
in_node_0 = with_node (Some 0) plain_label

abbrev first_run : RunOf LabelView
first_run = record { base = 0x1000; size = 0x9E000; value = in_node_0 }

-- the same memory, mirrored: its flags, at 16, are 2
abbrev mirrored_record : List ℕ
mirrored_record = 0 ∷ 0x10 ∷ 0 ∷ 0 ∷ 0 ∷ 0 ∷ 0 ∷ 0 ∷ 0 ∷ 0xE0 ∷ 9 ∷ 0 ∷ 0 ∷ 0 ∷ 0 ∷ 0 ∷ 2 ∷ 0 ∷ 0 ∷ 0 ∷ 0 ∷ 0 ∷ 0 ∷ 0 ∷ []

abbrev mirrored_run : RunOf LabelView
mirrored_run = record { base = 0x1000; size = 0x9E000; value = with_mirror in_node_0 }

-- a record of the reserved table
abbrev kernel_run : RunOf LabelView
kernel_run = record { base = 0x1000000; size = 0x2000000; value = plain_label }

region_examples : (decode_region first_record ≡ region_of first_run) × (decode_region mirrored_record ≡ region_of mirrored_run)
    × (region_of kernel_run ≡ record { base = 0x1000000; size = 0x2000000; flags = 0; node = 1024 })
unfolding base_in size_in flags_in node_in
region_examples = (refl, refl, refl)

spelling_examples : (encode_record first_run ≡ first_record) × (encode_record mirrored_run ≡ mirrored_record)
    × (encode_fields 0x1000 0x9E000 2 0 ≡ mirrored_record)
unfolding encode_fields
spelling_examples = (refl, refl, refl)

run_examples : (decode_record first_record ≡ first_run) × (decode_record mirrored_record ≡ mirrored_run)
    × (decode_record (encode_record kernel_run) ≡ kernel_run)
unfolding base_in size_in flags_in node_in encode_fields
run_examples = (refl, refl, refl)

-- 1,024 means no node, and 2 means mirrored, in both directions
node_field_examples : (node_of_field 1023 ≡ Some 1023) × (node_of_field 1024 ≡ None) × (node_field in_node_0 ≡ 0)
    × (node_field plain_label ≡ 1024)
node_field_examples = (refl, refl, refl, refl)

label_examples : (label_of 0 0 ≡ in_node_0) × (label_of 0 1024 ≡ plain_label) × (label_of 2 1024 ≡ with_mirror plain_label)
    × (label_of 1 1024 ≡ plain_label)
label_examples = (refl, refl, refl, refl)

fits_examples : FitsRecord first_run × FitsRecord mirrored_run × FitsRecord kernel_run
fits_examples = (
  record { small = omega arith; node = omega arith; back = refl },
  record { small = omega arith; node = omega arith; back = refl },
  record { small = omega arith; node = omega arith; back = refl },
)

-- a label of node 1,024 would be read back without a node, and a run that ends at 2^64 has no
-- record
no_fit : ¬ FitsRecord (record { base = 0; size = 1; value = with_node (Some 1024) plain_label })
    × ¬ FitsRecord (record { base = 1; size = 2 ^ 64 - 1; value = plain_label })
no_fit = (
  (λ fits. let clash : None ≡ Some 1024 = ap (λ (l : LabelView). l.node) fits.back in cc clash),
  λ fits. absurd (omega (arith, fits.small)),
)

-- the empty list isn't a record, and neither are bytes with flags other than 0 and 2
no_record : ¬ IsRecord [] × ¬ IsRecord (encode_fields 0x1000 0x9E000 1 0)
unfolding encode_fields flags_in node_in
no_record = ((λ known. cc known.spells), λ known. let clash : 1 ≡ 0 = known.flags in absurd (omega arith))

-- two adjacent records, and a table without a record
abbrev two : List ExtentView
two = record { base = 0; bytes = first_record ++ first_record } ∷ []

two_records : (records_at (byte_of two) 0 2 ≡ first_run ∷ (first_run ∷ [])) × (records_at (byte_of two) 0 0 ≡ [])
unfolding records_at bytes_at base_in size_in flags_in node_in
two_records = (refl, refl)

table_examples : (encode_table (first_run ∷ []) 2 ≡ first_record ++ replicate 24 0) × (encode_table [] 1 ≡ replicate 24 0)
unfolding encode_table encode_fields
table_examples = (refl, refl)

-- records in order; two that touch and have the same label aren't
ordered : AreRecords [] × AreRecords (first_run ∷ [])
ordered = (
  record { runs = tt; within = λ x le. refl },
  record { runs = (omega arith, tt, tt); within = λ x le. rw (past_end first_run x (omega (arith, le))) refl },
)

not_lent : ¬ AreRecordBytes first_record 2
not_lent lent = let long : 24 ≡ 48 = lent.long in absurd (omega arith)

-- an empty table without room, at any address
abbrev nowhere : ℕ → Head
nowhere place = record { place = place; room = 0; count = 0 }

no_table : (place : ℕ) → place < 2 ^ 64 → HasTable [] (nowhere place)
no_table place small = record {
  few = omega arith;
  fits = omega arith;
  records = λ i less. absurd (omega arith);
  zeros = λ x low high. absurd (omega arith);
  prepared = λ x low high. absurd (omega arith);
}

empty_table : HasTable [] (nowhere 5) × ¬ HasTable [] (first_head 5)
empty_table = (no_table 5 (omega arith), λ table. cc (table.prepared 5 (omega arith) (omega arith)))

-- bytes outside a table, and in it
outside_examples : (bytes_outside_table (λ x. 7) 24 1 23 ≡ 7) × (bytes_outside_table (λ x. 7) 24 1 24 ≡ 0)
    × (bytes_outside_table (λ x. 7) 24 1 47 ≡ 0)
    × (bytes_outside_table (λ x. 7) 24 1 48 ≡ 7)
outside_examples = (refl, refl, refl, refl)

touching : ¬ AreRecords (first_run ∷ record { base = 0x9F000; size = 1; value = in_node_0 } ∷ [])
touching known = known.runs.1.1 refl refl

-- records that touch and differ only in being mirrored are in order
parted : AreRuns (first_run ∷ record { base = 0x9F000; size = 1; value = with_mirror in_node_0 } ∷ [])
parted = (
  omega arith,
  (omega arith, λ touch same. let clash : false ≡ true = ap (λ (l : LabelView). l.mirror) same in cc clash),
  (omega arith, tt, tt),
)

-- both tables
abbrev memory : TableView
memory = record { records = first_run ∷ []; place = 0x2FFE000; room = 128 }

abbrev reserved : TableView
reserved = record { records = kernel_run ∷ []; place = 0x2FFF000; room = 128 }

abbrev both : TablesView
both = record { memory = memory; reserved = reserved; store = [] }

bytes_examples : (bytes_of memory ≡ record { base = 0x2FFE000; size = 3072 })
    × (table_range_in which.Reserved both ≡ record { base = 0x2FFF000; size = 3072 })
    × (bytes_of_head (nowhere 5) ≡ record { base = 5; size = 0 })
bytes_examples = (refl, refl, refl)

-- the last byte of the memory table belongs to a table
overlap : OverlapsTable both (record { base = 0x2FFEBFF; size = 1 })
overlap = (which.Memory, (0x2FFEBFF, refl))

node_examples : MayBeNodeField which.Memory 1024 × MayBeNodeField which.Memory 3 × MayBeNodeField which.Reserved 1024
    × ¬ MayBeNodeField which.Reserved 3
node_examples = (omega arith, omega arith, refl, λ no. absurd (omega (arith, no)))

no_nodes : ArePlainRecords [] × ¬ ArePlainRecords (first_run ∷ [])
no_nodes = (
  (λ x label is. cc is),
  λ plain. let clash : Some 0 ≡ None = ap (λ (l : LabelView). l.node) (plain 0x1000 in_node_0 refl) in
      cc clash,
)

space_examples : RangeEndsInAddressSpace (item.Claim (record { base = 0x1000; size = 0x1000 }) owner.Kernel)
    × RangeEndsInAddressSpace item.Trim
    × ¬ RangeEndsInAddressSpace (item.Free (record { base = 1; size = 2 ^ 64 }))
    × ¬ RangeEndsInAddressSpace (item.Mirror (record { base = 1; size = 2 ^ 64 }))
space_examples = (omega arith, tt, (λ ends. absurd (omega (arith, ends))), λ ends. absurd (omega (arith, ends)))
