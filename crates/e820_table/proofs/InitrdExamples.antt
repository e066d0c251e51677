-- Worked examples of zero pages with an initrd.
use Rattle.std.proofs.Common.{◌≡◌, ℕ, ◌-◌, ◌^◌, true, false, List, [], ◌∷◌, ◌++◌, Some, None, refl, arith}
use Rattle.std.specs.Prelude.{replicate}
use Rattle.bm_base.specs.Range.{RangeView}
use Rattle.e820_table.specs.declared.zero_page.ZeroFault.TheVariants as faults
use Rattle.e820_table.specs.Entries.{entry_at}
use Rattle.e820_table.specs.Initrd.{IsInitrd, has_initrd, image_of, initrd_of, is_initrd_too_far, is_initrd_far, to_frame_end}
use Rattle.e820_table.specs.ZeroPage.{zero_page_entries, initrd_fault, zero_page_of, zero_fault}

abbrev range : ℕ → ℕ → RangeView
range base size = record { base = base; size = size }

-- a page with this loader's type, with these 8 bytes at 0x0C0 and these at 0x218; its two entries
-- are empty
abbrev page : ℕ → List ℕ → List ℕ → List ℕ
page loader upper lower =
    replicate 0xC0 0 ++ upper ++ replicate (0x1E8 - 0xC8) 0 ++ (2 ∷ replicate (0x210 - 0x1E9) 0)
    ++ (loader ∷ replicate 7 0) ++ lower ++ replicate (4096 - 0x220) 0

-- the bytes of two images: 0x123457 bytes at 0x7D00000, and more than 4 GiB above 4 GiB
abbrev low_image : List ℕ
low_image = 0 ∷ 0 ∷ 0xD0 ∷ 7 ∷ 0x57 ∷ 0x34 ∷ 0x12 ∷ 0 ∷ []

abbrev high_halves : List ℕ
high_halves = 1 ∷ 0 ∷ 0 ∷ 0 ∷ 2 ∷ 0 ∷ 0 ∷ 0 ∷ []

-- the bytes of two images at address 2^64 - 8,192, one of 4,096 bytes and one of 4,097
abbrev top_halves : List ℕ
top_halves = 0xFF ∷ 0xFF ∷ 0xFF ∷ 0xFF ∷ 0 ∷ 0 ∷ 0 ∷ 0 ∷ []

abbrev top_image : ℕ → List ℕ
top_image low = 0 ∷ 0xE0 ∷ 0xFF ∷ 0xFF ∷ low ∷ 0x10 ∷ 0 ∷ 0 ∷ []

its_image : (image_of (page 0xB0 (replicate 8 0) low_image) ≡ range 0x7D00000 0x123457)
    × (image_of (page 0xB0 high_halves low_image) ≡ range 0x107D00000 0x200123457)
its_image = (refl, refl)

-- there is no initrd without a loader, without an address, or without a size
some_or_none : (has_initrd 0xB0 (range 1 1) ≡ true) × (has_initrd 0 (range 1 1) ≡ false) × (has_initrd 0xB0 (range 0 1) ≡ false)
    × (has_initrd 0xB0 (range 1 0) ≡ false)
some_or_none = (refl, refl, refl, refl)

-- the range ends at the end of the last frame; its first byte may be anywhere in a frame
to_the_end : (to_frame_end (range 0x7D00000 0x123457) ≡ range 0x7D00000 0x124000)
    × (to_frame_end (range 0x1FFF 1) ≡ range 0x1FFF 1) × (to_frame_end (range 0x1FFF 2) ≡ range 0x1FFF 0x1001)
    × (to_frame_end (range 0x1000 0x1000) ≡ range 0x1000 0x1000)
to_the_end = (refl, refl, refl, refl)

-- an image that ends at 2^64 - 4,096 isn't too far, and one that is a byte longer is
last_byte : (is_initrd_too_far 0xB0 (range (2 ^ 64 - 8192) 4096) ≡ false) × (is_initrd_too_far 0xB0 (range (2 ^ 64 - 8192) 4097) ≡ true)
    × (is_initrd_too_far 0 (range (2 ^ 64 - 8192) 4097) ≡ false)
last_byte = (refl, refl, refl)

is_an_initrd : IsInitrd (range 0x7D00000 0x124000)
is_an_initrd = record { some = omega arith; whole = refl }

part_of_a_frame_isn't : IsInitrd (range 0x7D00000 0x123457) → ⊥
part_of_a_frame_isn't is = let whole = is.whole in cc whole

-- an initrd below 4 GiB; no initrd, since the loader's type is 0; an initrd with both upper halves
initrd_of_examples : (initrd_of (page 0xB0 (replicate 8 0) low_image) ≡ Some (range 0x7D00000 0x124000))
    × (initrd_of (page 0 (replicate 8 0) low_image) ≡ None)
    × (initrd_of (page 1 high_halves low_image) ≡ Some (range 0x107D00000 0x200124000))
unfolding initrd_of
initrd_of_examples = (refl, refl, refl)

far_or_not : (is_initrd_far (page 1 top_halves (top_image 0)) ≡ false) × (is_initrd_far (page 1 top_halves (top_image 1)) ≡ true)
unfolding is_initrd_far
far_or_not = (refl, refl)

fault_of_a_page : (initrd_fault (page 1 top_halves (top_image 1)) ≡ Some faults.InitrdTooFar)
    × (initrd_fault (page 1 top_halves (top_image 0)) ≡ None)
unfolding is_initrd_far
fault_of_a_page = (refl, refl)

-- the fault of the initrd is reported if no entry has one
initrd_goes_last : zero_fault (page 1 top_halves (top_image 1)) ≡ Some faults.InitrdTooFar
unfolding entry_at is_initrd_far
initrd_goes_last = refl

whole_page : zero_page_of (page 1 high_halves low_image)
    ≡ record { entries = zero_page_entries (page 1 high_halves low_image); initrd = Some (range 0x107D00000 0x200124000) }
unfolding initrd_of
whole_page = refl
