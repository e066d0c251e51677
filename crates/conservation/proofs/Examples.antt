-- Small journals, blocks and boots: what the definitions say of them, and which boots they refuse.
use Rattle.std.proofs.Common.{◌≡◌, ℕ, ◌^◌, ◌<◌, ◌≤◌, ◌==◌, true, false, if◌then◌else◌, Some, None, List, [], ◌∷◌, refl, inl, inr, arith}
use Rattle.std.proofs.lemmas.Bool.Decides.{nat_tests}
use Rattle.std.proofs.lemmas.Bool.{cases_Bool}
use Rattle.bm_base.specs.Range.{RangeView, covers}
use Rattle.bm_base.specs.Zones.{zone_of}
use Rattle.bm_base.specs.declared.zone.Zone.TheVariants as zone
use Rattle.address_runs.specs.Runs.{RunOf}
use Rattle.address_runs.specs.Edits.{IsEmptyFrom}
use Rattle.memblock_model.specs.declared.owner.Owner.TheVariants as owner
use Rattle.memblock_model.specs.declared.item.Item.{Item}
use Rattle.memblock_model.specs.declared.item.Item.TheVariants as item
use Rattle.buddy_blocks.specs.declared.block.Block.{Block}
use Rattle.buddy_blocks.specs.declared.run.TheConstants.{MAX_FRAMES}
use Rattle.buddy_blocks.specs.Frames.{Frames}
use Rattle.buddy_blocks.specs.BlockList.{ListsBlock, blocks_of}
use Rattle.buddy_blocks.proofs.BlockLaws.{listed_complete, listed_sound}
use Rattle.page_alloc.specs.Pages.{PageState, first_page_state}
use Rattle.boot_model.specs.Boot.{InputsView, BootedView}
use Rattle.conservation.specs.ByMap.{IsUsableByMap}
use Rattle.conservation.specs.RecordedClaims.{IsRecorded, IsTouched, IsUntouched}
use Rattle.conservation.specs.Headline.{AllTouchedOrInOneBlock, BlocksAreMaximal, BlocksAreWhole, IsFreeFor, IsMaximal, IsUsable, IsWhole, NoOtherInABlock, count_blocks_with, has_frame, block_with_buddy}
use Rattle.conservation.specs.FramePlacesAfterPages.{AllInOneBlockOrHeld, NoOtherInABlockOrHeld}
use Rattle.conservation.proofs.CountLaws.{no_block_with, one_block_with}

-- this and the next two: a byte of frame 4 and a byte of frame 5 are claimed, and then the claim of
-- frame 4 is freed
abbrev byte_of_four : RangeView
byte_of_four = record { base = 0x4FFF; size = 1 }

abbrev byte_of_five : RangeView
byte_of_five = record { base = 0x5800; size = 1 }

abbrev journal : List Item
journal = item.Claim byte_of_four (owner.Script 3) ∷ (item.Claim byte_of_five owner.Kernel ∷ (item.Free byte_of_four ∷ []))

-- this and the next: the claim of frame 5 is in force, so the frame is touched
five_recorded : IsRecorded journal 0x5800 owner.Kernel
five_recorded = record {
  before = item.Claim byte_of_four (owner.Script 3) ∷ [];
  range = byte_of_five;
  after = item.Free byte_of_four ∷ [];
  recorded = refl;
  covered = refl;
  stands = refl;
}

five_touched : IsTouched journal 5
five_touched = record { byte = 0x5800; owner = owner.Kernel; inside = refl; owned = refl; recorded = five_recorded }

-- this and the next: frame 4 is untouched, frame 5 isn't
four_untouched : IsUntouched journal 4
four_untouched x inside = grind (arith, nat_tests)

five_not_untouched : IsUntouched journal 5 → ⊥
five_not_untouched bare = let none : Some owner.Kernel ≡ None = bare 0x5800 refl in cc none

-- this and the next: a block of frames 6 and 7, and one of frame 4
abbrev two : Block
two = record { order = 1; first = 6; node = 0; zone = zone.Dma }

abbrev one : Block
one = record { order = 0; first = 4; node = 0; zone = zone.Dma }

has_examples : (has_frame two 5 ≡ false) × (has_frame two 6 ≡ true) × (has_frame two 7 ≡ true) × (has_frame two 8 ≡ false)
has_examples = (refl, refl, refl, refl)

-- frame 7 is in one of the blocks, and frame 5 in none; a block that is listed twice counts twice
with_examples : (count_blocks_with (one ∷ (two ∷ [])) 7 ≡ 1) × (count_blocks_with (one ∷ (two ∷ [])) 5 ≡ 0)
    × (count_blocks_with (two ∷ (two ∷ [])) 6 ≡ 2)
with_examples = (refl, refl, refl)

-- the buddy of a block lies below it or above it
buddy_examples : (block_with_buddy two ≡ record { order = 2; first = 4; node = 0; zone = zone.Dma })
    × (block_with_buddy one ≡ record { order = 1; first = 4; node = 0; zone = zone.Dma })
buddy_examples = (refl, refl)

-- this and the next: a block isn't whole if its first frame isn't a multiple of its number of
-- frames, or if its order is 11
odd_example : (inputs : InputsView) (items : List Item) → IsWhole inputs items (record { order = 1; first = 5; node = 0; zone = zone.Dma })
    → ⊥
odd_example inputs items whole = let wrong : 1 ≡ 0 = whole.aligned in absurd (omega (arith, wrong))

great_example : (inputs : InputsView) (items : List Item)
    → IsWhole inputs items (record { order = 11; first = 0; node = 0; zone = zone.Dma })
    → ⊥
great_example inputs items whole = let wrong : 11 ≤ 10 = whole.small in absurd (omega (arith, wrong))

-- this and the next: a block of the greatest order is maximal, and so is a block with a touched
-- frame in its buddy
greatest_example : (inputs : InputsView) (items : List Item)
    → IsMaximal inputs items (record { order = 10; first = 0; node = 0; zone = zone.Dma })
greatest_example inputs items less = absurd (omega (arith, less))

touched_buddy_example : (inputs : InputsView) → IsMaximal inputs journal one
touched_buddy_example inputs less all = five_not_untouched (all 5 refl).untouched

-- a map of two runs: RAM, and then a reserved one
abbrev two_runs : List (RunOf ℕ)
two_runs = record { base = 0x1000; size = 0x1000; value = 1 } ∷ (record { base = 0x2000; size = 0x1000; value = 2 } ∷ [])

-- frame 1 is usable by this map
usable_by_runs : IsUsableByMap (2 ^ 46) two_runs 1
usable_by_runs = (omega arith, λ x inside. grind (arith, nat_tests))

-- frame 2 isn't usable, since it is reserved
reserved_by_runs : IsUsableByMap (2 ^ 46) two_runs 2 → ⊥
reserved_by_runs usable = let wrong : false ≡ true = usable.1 0x2000 refl in cc wrong

-- the frame at 64 TiB isn't usable, since that is the limit of physical addresses
out_of_reach : (map : List (RunOf ℕ)) → IsUsableByMap (2 ^ 46) map 17179869184 → ⊥
out_of_reach map usable = let low = usable.0 in absurd (omega (arith, low))

-- the results of a boot, with these items and these free frames put in
abbrev telling : BootedView → List Item → Frames → BootedView
telling booted items free = record booted { items = items; free = free }

-- frames 4 and 5 are memory of node 1
abbrev pair_of_node_one : List Item
pair_of_node_one =
    item.Mem (record { base = 0x4000; size = 0x2000 }) ∷ (item.Node (record { base = 0x4000; size = 0x2000 }) 1 ∷ [])

-- frame 5 is reported as free, with the node
abbrev five : ℕ → Frames
five node frame = if frame == 5 then Some node else None

five_alone : (node : ℕ) → IsEmptyFrom MAX_FRAMES (five node)
five_alone node frame far = let other : (frame == 5) ≡ false = grind (arith, nat_tests) in rw other refl

-- a boot is refused if a usable frame is untouched and in no block
lost_frame : (inputs : InputsView) (booted : BootedView) → IsUsable inputs 4
    → AllTouchedOrInOneBlock inputs (telling booted pair_of_node_one (five 1)) → ⊥
lost_frame inputs booted usable all = elim (all 4 usable) as (λ _. ⊥) [
  | inl touched ↦ cc (touched.0.owned)
  | inr in_one ↦ (let none = no_block_with (five 1) 4 refl in omega (arith, none, in_one.1))
]

-- a boot is refused if a claim touches a frame of a block
handed_claim : (inputs : InputsView) (booted : BootedView) → NoOtherInABlock inputs (telling booted journal (five 1)) → ⊥
handed_claim inputs booted none =
    let count : count_blocks_with (blocks_of (five 1)) 5 ≡ 1 = one_block_with (five 1) 5 1 (five_alone 1) refl in
    five_not_untouched (none 5 (omega (arith, count))).1

-- frame 5 is a block by itself
abbrev five_block : ℕ → Block
five_block node = record { order = 0; first = 5; node = node; zone = zone.Dma }

five_listed : (node : ℕ) → ListsBlock (blocks_of (five node)) (five_block node)
five_listed node = listed_complete (five node) (five_block node) (five_alone node) (record {
  small = omega arith;
  aligned = refl;
  good = λ frame same. (let is : frame ≡ 5 = omega (arith, same) in (rw is refl, rw is refl));
  whole = λ less good. (let none : None ≡ Some node = (good 4 refl).0 in cc none);
})

-- frame 5 isn't a whole block if the block's node isn't that of its memory
other_node : (inputs : InputsView) (booted : BootedView) → BlocksAreWhole inputs (telling booted pair_of_node_one (five 0)) → ⊥
other_node inputs booted whole =
    let same : Some 1 ≡ Some 0 = ((whole (five_block 0) (five_listed 0)).frames 5 refl).node 0x5000 refl in
    cc same

-- frames 4 and 5 are free for the block of frame 5 with its buddy
pair_free : (inputs : InputsView) (frame : ℕ) → 4 ≤ frame → frame < 6 → IsUsable inputs frame → zone_of frame ≡ zone.Dma
    → IsFreeFor inputs pair_of_node_one (block_with_buddy (five_block 1)) frame
pair_free inputs frame above below usable low = record {
  usable = usable;
  untouched = λ x inside. refl;
  node = λ x inside.
      let within : covers (record { base = 0x4000; size = 0x2000 }) x ≡ true = grind (arith, nat_tests) in rw within refl;
  zone = low;
}

-- frame 5 alone isn't a maximal block, since its buddy is free too
half_alone : (inputs : InputsView) (booted : BootedView) → IsUsable inputs 4 → IsUsable inputs 5
    → BlocksAreMaximal inputs (telling booted pair_of_node_one (five 1)) → ⊥
half_alone inputs booted four_usable five_usable maximal =
    maximal (five_block 1) (five_listed 1) (omega arith) (λ frame inside.
    elim (cases_Bool (frame == 4)) as (λ _. IsFreeFor inputs pair_of_node_one (block_with_buddy (five_block 1)) frame) [
      | inl lower ↦
          (let is : frame ≡ 4 = grind (arith, nat_tests) in
          rw is (pair_free inputs 4 (omega arith) (omega arith) four_usable refl))
      | inr upper ↦
          (let is : frame ≡ 5 = grind (arith, nat_tests) in
          rw is (pair_free inputs 5 (omega arith) (omega arith) five_usable refl))
    ])

-- the results of a boot, with these frames as handed over and this state after the page script
abbrev paged : BootedView → Frames → PageState → BootedView
paged booted free after = record booted { free = free; after = after }

-- a frame that was handed over can't be in no block and not held
lost_page : (booted : BootedView) → AllInOneBlockOrHeld (paged booted (five 1) (first_page_state (λ frame. None))) → ⊥
lost_page booted all = elim (all 5 1 refl) as (λ _. ⊥) [
  | inl in_block ↦ cc ((in_block.0.is.good 5 in_block.0.has).0)
  | inr held ↦ cc (held.0.holds.is)
]

-- a frame that wasn't handed over can't be in a block
page_from_nowhere : (booted : BootedView) → NoOtherInABlockOrHeld (paged booted (λ frame. None) (first_page_state (five 1))) → ⊥
page_from_nowhere booted none =
    (none 5 refl).0 (five_block 1) (listed_sound (five 1) (five_block 1) (five_listed 1)) refl
