-- Worked examples: the ranges that get a node, memory with its nodes, the nodes that have memory,
-- and the requests for their data.
use Rattle.std.proofs.Common.{◌≡◌, ℕ, true, false, Some, None, [], ◌∷◌, refl, ap, arith}
use Rattle.std.specs.List.{Contains}
use Rattle.memblock_model.specs.declared.item.Item.TheVariants as item
use Rattle.memblock_model.specs.Labels.{LabelView, Labels, plain_label, with_node}
use Rattle.memblock_model.specs.Items.{memory_of}
use Rattle.srat_nodes.specs.declared.reasons.Why.TheVariants as why
use Rattle.srat_nodes.specs.NodeAt.{NumaBlock}
use Rattle.srat_nodes.specs.SratNodesView.{SratNodesView, unused_srat}
use Rattle.numa_nodes.specs.Assignment.{has_node, is_of_node, node_data_request, nodes_from, nodes_with_memory, node_ranges}
use Rattle.numa_nodes.proofs.ListedLaws.{nodes-listed, nodes-lists}
use Rattle.numa_nodes.proofs.MemoryLaws.{noded_all}

-- 16 KiB in node 1, 16 KiB in node 0 after them, and then 4 KiB that no block covers
abbrev low : NumaBlock
low = record { base = 0; size = 0x4000; value = 1 }

abbrev high : NumaBlock
high = record { base = 0x4000; size = 0x4000; value = 0 }

abbrev last : NumaBlock
last = record { base = 0x8000; size = 0x1000; value = 0 }

abbrev two_nodes : SratNodesView
two_nodes = record { why = why.Used; domains = 9 ∷ (4 ∷ []); joined = low ∷ (high ∷ []); rest = last ∷ []; uncovered = 1 }

-- the joined ranges before the rest if the table is used, else all addresses below the limit
range_examples : (node_ranges 0x9000 two_nodes ≡ low ∷ (high ∷ (last ∷ [])))
    × (node_ranges 0x9000 (unused_srat why.NoBlocks) ≡ record { base = 0; size = 0x9000; value = 0 } ∷ [])
    × (node_ranges 0x9000 (unused_srat (why.NotCovered 300)) ≡ record { base = 0; size = 0x9000; value = 0 } ∷ [])
range_examples = (refl, refl, refl)

-- memory gets the nodes, and other addresses get none
abbrev memory_below : ℕ → Labels
memory_below end x = memory_of (item.Mem (record { base = 0; size = end }) ∷ []) x

abbrev of_node : ℕ → LabelView
of_node node = with_node (Some node) plain_label

byte_of_each : (noded_all (low ∷ (high ∷ (last ∷ []))) (memory_below 0x9000) 0x3FFF ≡ Some (of_node 1))
    × (noded_all (low ∷ (high ∷ (last ∷ []))) (memory_below 0x9000) 0x4000 ≡ Some (of_node 0))
    × (noded_all (low ∷ (high ∷ (last ∷ []))) (memory_below 0x9000) 0x8FFF ≡ Some (of_node 0))
    × (noded_all (low ∷ (high ∷ (last ∷ []))) (memory_below 0x8000) 0x8000 ≡ None)
unfolding noded_all
byte_of_each = (refl, refl, refl, refl)

-- a node that has a single byte of memory is listed
one_byte : (f : Labels) → f 0x1234 ≡ Some (of_node 5) → Contains (nodes_with_memory f) 5
one_byte f at = nodes-lists f 5 0x1234 (omega arith) (omega arith) (ap (is_of_node 5) at)

-- there is no node 1,024
too_high : (f : Labels) → Contains (nodes_with_memory f) 1024 → ⊥
too_high f listed = let below = (nodes-listed f 1024 listed).0 in absurd (omega (arith, below))

-- those of nodes 3, 4 and 5 that have memory, in ascending order
third_and_fifth : (f : Labels) → has_node f 3 ≡ true → has_node f 4 ≡ false → has_node f 5 ≡ true → nodes_from f 3 3 ≡ 3 ∷ (5 ∷ [])
third_and_fifth f third fourth fifth = rw (third, fourth, fifth) refl

-- the request for the data of node 3
data_example : node_data_request 3 ≡ record { size = 176128; align = 64; min = 0; max = None; node = Some 3; exact = false }
data_example = refl
