-- Worked examples: small journals.
use Rattle.std.proofs.Common.{◌≡◌, ℕ, true, false, Some, None, List, [], ◌∷◌, refl, sym, arith}
use Rattle.std.proofs.lemmas.Bool.Decides.{nat_tests}
use Rattle.address_runs.specs.Runs.{RunOf}
use Rattle.address_runs.proofs.RunsLaws.{runs_equal_runs_of}
use Rattle.memblock_model.specs.declared.owner.Owner.{Owner}
use Rattle.memblock_model.specs.declared.owner.Owner.TheVariants as owner
use Rattle.memblock_model.specs.declared.owner.Which.TheVariants as which
use Rattle.memblock_model.specs.declared.label.Tag.TheVariants as tag
use Rattle.memblock_model.specs.declared.item.Item.{Item}
use Rattle.memblock_model.specs.declared.item.Item.TheVariants as item
use Rattle.bm_base.specs.Range.{RangeView}
use Rattle.bm_base.specs.Each.{each_from, each_in}
use Rattle.memblock_model.specs.Labels.{plain_label, with_node, with_mirror}
use Rattle.memblock_model.specs.Same.{same_owner}
use Rattle.memblock_model.specs.Items.{ItemHasBytes, owner_of, trim_frames, memory_of, tag_of, limit_of, upward_of, owner_runs_of}
use Rattle.memblock_model.proofs.SameLaws.{same_owner_decides_equality}

abbrev pub bytes : ℕ → ℕ → RangeView
bytes base size = record { base = base; size = size }

-- a range of one byte isn't empty. No item with a range may have an empty one: memory, a node, a
-- claim, a free, a mirror.
item_examples : (ItemHasBytes (item.Mem (bytes 7 1))) × (ItemHasBytes (item.Mem (bytes 7 0)) → ⊥)
    × (ItemHasBytes (item.Node (bytes 7 0) 1) → ⊥)
    × (ItemHasBytes (item.Claim (bytes 7 0) owner.Kernel) → ⊥) × (ItemHasBytes (item.Free (bytes 7 0)) → ⊥)
    × (ItemHasBytes (item.Mirror (bytes 7 0)) → ⊥)
item_examples = (omega arith, λ some. omega arith, λ some. omega arith, λ some. omega arith, λ some. omega arith, λ some. omega arith)

-- the newest item that covers a byte decides its owner: a claim over a claim, a byte that only the
-- older claim covers, a free after a claim, a claim after a free
owner_of_examples : (owner_of (item.Claim (bytes 0 8) owner.Kernel ∷ (item.Claim (bytes 4 8) owner.Low1M ∷ [])) 5 ≡ Some owner.Low1M)
    × (owner_of (item.Claim (bytes 0 8) owner.Kernel ∷ (item.Claim (bytes 4 8) owner.Low1M ∷ [])) 3 ≡ Some owner.Kernel)
    × (owner_of (item.Claim (bytes 0 8) owner.Kernel ∷ (item.Free (bytes 4 2) ∷ [])) 5 ≡ None)
    × (owner_of (item.Claim (bytes 0 8) owner.Kernel ∷ (item.Free (bytes 4 2) ∷ (item.Claim (bytes 5 1) owner.Soft ∷ []))) 5
    ≡ Some owner.Soft)
owner_of_examples = (refl, refl, refl, refl)

-- one item of each kind that doesn't change owners
abbrev memory_alone : List Item
memory_alone = item.Mem (bytes 0 8) ∷ (item.Node (bytes 0 8) 1 ∷ (item.Mirror (bytes 0 8) ∷ (item.Trim ∷ (item.Limit 4 ∷
    (item.Upward true ∷ (item.Grown which.Reserved 0 256 ∷ []))))))

-- items of other kinds don't change owners: a claimed byte stays claimed, an unclaimed one
-- unclaimed
owner_stays_examples : (owner_of (item.Claim (bytes 0 8) owner.Kernel ∷ memory_alone) 5 ≡ Some owner.Kernel)
    × (owner_of memory_alone 5 ≡ None)
owner_stays_examples = (refl, refl)

-- memory keeps its node when it is added again, and new memory has none; a node for bytes that
-- aren't memory changes nothing
tag_of_examples : (tag_of (item.Mem (bytes 0 8) ∷ (item.Node (bytes 0 4) 1 ∷ (item.Mem (bytes 0 16) ∷ []))) 3 ≡ tag.Memory (Some 1) false)
    × (tag_of (item.Mem (bytes 0 8) ∷ (item.Node (bytes 0 4) 1 ∷ (item.Mem (bytes 0 16) ∷ []))) 9 ≡ tag.Memory None false)
    × (tag_of (item.Node (bytes 0 4) 1 ∷ []) 3 ≡ tag.Absent)
tag_of_examples = (refl, refl, refl)

-- where two node items cover a byte, the later one counts; a mirror keeps the node
memory_of_examples : (memory_of (item.Mem (bytes 0 8) ∷ (item.Node (bytes 0 8) 1 ∷ (item.Node (bytes 4 4) 2 ∷ []))) 4
    ≡ Some (with_node (Some 2) plain_label))
    × (memory_of (item.Mem (bytes 0 8) ∷ (item.Node (bytes 0 8) 1 ∷ (item.Node (bytes 4 4) 2 ∷ []))) 3
    ≡ Some (with_node (Some 1) plain_label))
    × (memory_of (item.Mem (bytes 0 8) ∷ (item.Node (bytes 0 8) 2 ∷ (item.Mirror (bytes 4 4) ∷ []))) 4
    ≡ Some (with_mirror (with_node (Some 2) plain_label)))
memory_of_examples = (refl, refl, refl)

-- a mirror marks only bytes of its range that are memory. The mark stays when a node is set later,
-- and when the memory is added again.
mirror_examples : (tag_of (item.Mirror (bytes 0 4) ∷ []) 3 ≡ tag.Absent)
    × (tag_of (item.Mem (bytes 0 8) ∷ (item.Mirror (bytes 0 4) ∷ (item.Node (bytes 0 8) 1 ∷ []))) 3 ≡ tag.Memory (Some 1) true)
    × (tag_of (item.Mem (bytes 0 8) ∷ (item.Mirror (bytes 0 4) ∷ (item.Node (bytes 0 8) 1 ∷ []))) 4 ≡ tag.Memory (Some 1) false)
    × (tag_of (item.Mem (bytes 0 8) ∷ (item.Mirror (bytes 0 4) ∷ (item.Mem (bytes 0 16) ∷ []))) 3 ≡ tag.Memory None true)
mirror_examples = (refl, refl, refl, refl)

-- one item of each kind that doesn't change memory
abbrev owners_alone : List Item
owners_alone = item.Claim (bytes 0 8) owner.Kernel
    ∷ (item.Free (bytes 0 4) ∷ (item.Limit 4 ∷ (item.Upward true ∷ (item.Grown which.Memory 0 256 ∷ []))))

-- items of other kinds don't change memory: what is memory stays memory, and what isn't stays none
memory_stays_examples : (tag_of (item.Mem (bytes 0 8) ∷ owners_alone) 3 ≡ tag.Memory None false) × (tag_of owners_alone 5 ≡ tag.Absent)
memory_stays_examples = (refl, refl)

-- a trim keeps a frame that is all memory of one label. It drops a frame that lacks a byte, is
-- mirrored in part, or has two nodes.
trim_examples : (tag_of (item.Mem (bytes 0 4096) ∷ (item.Trim ∷ [])) 5 ≡ tag.Memory None false)
    × (tag_of (item.Mem (bytes 0 4095) ∷ (item.Trim ∷ [])) 5 ≡ tag.Absent)
    × (tag_of (item.Mem (bytes 0 4096) ∷ (item.Mirror (bytes 0 100) ∷ (item.Trim ∷ []))) 5 ≡ tag.Absent)
    × (tag_of (item.Mem (bytes 0 4096) ∷ (item.Node (bytes 0 100) 1 ∷ (item.Trim ∷ []))) 5 ≡ tag.Absent)
unfolding trim_frames each_in each_from
trim_examples = (refl, refl, refl, refl)

-- the limit is that of the newest Limit item, whether lower or higher than the one before, and 0
-- without such an item; other items don't change it
limit_of_examples : (limit_of (item.Limit 5 ∷ (item.Limit 3 ∷ (item.Trim ∷ []))) ≡ 3)
    × (limit_of (item.Limit 3 ∷ (item.Limit 5 ∷ [])) ≡ 5) × (limit_of (item.Trim ∷ []) ≡ 0)
    × (limit_of (item.Limit 7 ∷ (item.Mem (bytes 0 8) ∷ (item.Node (bytes 0 8) 1 ∷ (item.Claim (bytes 0 8) owner.Kernel
    ∷ (item.Free (bytes 0 4) ∷ (item.Grown which.Memory 4 256 ∷ [])))))) ≡ 7)
limit_of_examples = (refl, refl, refl, refl)

-- the direction is downward at first, then that of the newest Upward item; other items don't
-- change it
upward_of_examples : (upward_of (item.Trim ∷ []) ≡ false)
    × (upward_of (item.Upward true ∷ (item.Limit 5 ∷ (item.Mirror (bytes 0 8) ∷ []))) ≡ true)
    × (upward_of (item.Upward true ∷ (item.Upward false ∷ [])) ≡ false)
upward_of_examples = (refl, refl, refl)

-- the runs of owners over all addresses: a claim with a byte freed in its middle, and a claim that
-- is freed whole
abbrev parted : List Item
parted = item.Claim (bytes 1 3) owner.Kernel ∷ (item.Free (bytes 2 1) ∷ [])

abbrev parted_runs : List (RunOf Owner)
parted_runs = record { base = 1; size = 1; value = owner.Kernel } ∷ (record { base = 3; size = 1; value = owner.Kernel } ∷ [])

runs_of_parted : owner_runs_of parted ≡ parted_runs
unfolding owner_runs_of
runs_of_parted =
    sym (runs_equal_runs_of same_owner same_owner_decides_equality (owner_of parted) parted_runs
    (λ x le. grind (arith, nat_tests)) (record {
      runs = (omega arith, (omega arith, λ touch. absurd (omega arith)), (omega arith, tt, tt));
      each = λ x. grind (arith, nat_tests);
    }))
