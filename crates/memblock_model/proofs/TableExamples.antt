-- Worked examples: small tables.
use Rattle.std.proofs.Common.{◌≡◌, ◌^◌, Some, List, [], ◌∷◌, length, refl, sym, ap, arith}
use Rattle.std.proofs.lemmas.Bool.Decides.{nat_tests}
use Rattle.bm_base.specs.Range.{RangeView}
use Rattle.address_runs.specs.Edits.{gaps_in_range, IsEmptyFrom}
use Rattle.address_runs.specs.Runs.{RunOf, runs_from}
use Rattle.memblock_model.specs.declared.owner.Owner.TheVariants as owner
use Rattle.memblock_model.specs.declared.owner.Which.TheVariants as which
use Rattle.memblock_model.specs.declared.item.Item.{Item}
use Rattle.memblock_model.specs.declared.item.Item.TheVariants as item
use Rattle.memblock_model.specs.Labels.{LabelView, Labels, plain_label, with_node}
use Rattle.memblock_model.specs.Same.{same_label}
use Rattle.memblock_model.specs.Tables.{table_of, records_for, records_of, uncovered_run_count, room_of, table_place, table_bytes}
use Rattle.memblock_model.proofs.TableLaws.{records_for-is}
use Rattle.memblock_model.proofs.ItemExamples.{bytes}

-- the label of memory of node 7
abbrev seventh : LabelView
seventh = with_node (Some 7) plain_label

-- a journal after which byte 3 is claimed memory of node 7 and byte 1 is memory without a node
abbrev few : List Item
few = item.Mem (bytes 1 4) ∷ (item.Node (bytes 3 2) 7 ∷ (item.Claim (bytes 2 2) owner.Kernel ∷ []))

-- the memory table gives a byte with a node and one without; the reserved table gives a claimed
-- byte without its node
table_of_examples : (table_of which.Memory few 3 ≡ Some seventh) × (table_of which.Memory few 1 ≡ Some plain_label)
    × (table_of which.Reserved few 3 ≡ Some plain_label)
table_of_examples = (refl, refl, refl)

-- the reserved table doesn't record owners, so claims of two owners that touch are one record
claims_are_one_record : runs_from same_label (table_of which.Reserved
    (item.Claim (bytes 1 2) owner.Kernel ∷ (item.Claim (bytes 3 2) owner.Soft ∷ []))) 0 8
    ≡ record { base = 1; size = 4; value = plain_label } ∷ []
unfolding runs_from
claims_are_one_record = refl

-- the records over all addresses: memory without a node and memory of node 7 are two records
abbrev memory_records : List (RunOf LabelView)
memory_records = record { base = 1; size = 2; value = plain_label } ∷ (record { base = 3; size = 2; value = seventh } ∷ [])

memory_ends : IsEmptyFrom (2 ^ 64) (table_of which.Memory few)
memory_ends x le = grind (arith, nat_tests)

plain_is_another : plain_label ≡ seventh → ⊥
plain_is_another same = let apart : plain_label.node ≡ seventh.node = ap (λ (l : LabelView). l.node) same in cc

records_of_memory : records_of which.Memory few ≡ memory_records
unfolding records_of
records_of_memory = sym (records_for-is (table_of which.Memory few) memory_records memory_ends
    (record {
      runs = (omega arith, (omega arith, λ touch. plain_is_another), (omega arith, tt, tt));
      each = λ x. grind (arith, nat_tests);
    }))

-- covering bytes 1 to 6, of which 3 and 4 are memory, adds two records: the gaps on both sides
abbrev partly : Labels
partly = table_of which.Memory (item.Mem (bytes 3 2) ∷ [])

abbrev two_runs : List (RunOf LabelView)
two_runs = record { base = 1; size = 2; value = plain_label } ∷ (record { base = 5; size = 2; value = plain_label } ∷ [])

bare_ends : IsEmptyFrom (2 ^ 64) (gaps_in_range (bytes 1 6) plain_label partly)
bare_ends x le = grind (arith, nat_tests)

records_for_bare : records_for (gaps_in_range (bytes 1 6) plain_label partly) ≡ two_runs
records_for_bare = sym (records_for-is (gaps_in_range (bytes 1 6) plain_label partly) two_runs bare_ends
    (record {
      runs = (omega arith, (omega arith, λ touch. absurd (omega arith)), (omega arith, tt, tt));
      each = λ x. grind (arith, nat_tests);
    }))

two_pieces : uncovered_run_count (bytes 1 6) partly ≡ 2
unfolding uncovered_run_count
two_pieces = ap length records_for_bare

-- a table has room for 128 records at first, and for twice as many after each growth of its own
room_of_examples : (room_of which.Memory (item.Grown which.Memory 4096 256 ∷ (item.Grown which.Reserved 8192 256
    ∷ (item.Grown which.Memory 12288 512 ∷ []))) ≡ 512)
    × (room_of which.Memory (item.Grown which.Reserved 8192 256 ∷ []) ≡ 128)
room_of_examples = (refl, refl)

-- the kernel's image lies from 16 MiB to 48 MiB
abbrev kernel : RangeView
kernel = bytes 0x1000000 0x2000000

-- a table is at its built-in place at first, then where it last moved
place_of_examples : (table_place which.Memory kernel [] ≡ 0x2FFE000)
    × (table_place which.Reserved kernel (item.Grown which.Reserved 8192 256 ∷ (item.Grown which.Memory 4096 256 ∷ [])) ≡ 8192)
place_of_examples = (refl, refl)

-- the bytes of a table at first, and after it has grown
live_examples : (table_bytes which.Reserved kernel [] ≡ bytes 0x2FFF000 3072)
    × (table_bytes which.Memory kernel (item.Grown which.Memory 4096 256 ∷ []) ≡ bytes 4096 6144)
live_examples = (refl, refl)
