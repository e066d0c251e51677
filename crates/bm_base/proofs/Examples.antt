-- Worked examples: small ranges, numbers and texts.
use Rattle.std.proofs.Common.{◌≡◌, ℕ, ◌^◌, ◌*◌, ◌/◌, ◌+◌, true, false, ◌&&◌, [], codes, Some, None, Ok, Err, refl, arith, inl}
use Rattle.std.proofs.lemmas.Bool.Decides.{nat_tests}
use Rattle.std.specs.Fmt.{digits}
use Rattle.bm_base.specs.Answers.{Answers}
use Rattle.bm_base.specs.Range.{RangeView, covers, Meet}
use Rattle.bm_base.specs.Frames.{range_between, frames_within}
use Rattle.bm_base.specs.Text.{hex_digits, hex_text, padded_decimal}
use Rattle.bm_base.specs.Size.{number_of, size_of}
use Rattle.bm_base.specs.declared.size.NumFault.TheVariants.{NoDigits, TooLarge}
use Rattle.bm_base.specs.Spelling.{SpellsIn, hexadecimal, octal, decimal, SpellsNumber, SpellsSize, number_alone, number_with_suffix}
use Rattle.bm_base.proofs.SpellingLaws.{size-read}
use Rattle.bm_base.specs.Width.{address_limit_of, root_table_size_of}
use Rattle.bm_base.specs.declared.width.Width.TheVariants.{Bits46, Bits52}
use Rattle.bm_base.specs.Zones.{zone_of}
use Rattle.bm_base.specs.declared.range.TheConstants.{FRAME_SIZE}
use Rattle.bm_base.specs.declared.zone.TheConstants.{MAX_DMA_FRAME, MAX_DMA32_FRAME}
use Rattle.bm_base.specs.declared.zone.Zone.TheVariants.{Dma, Dma32, Normal}

-- the second and the third page of memory
abbrev second_page : RangeView
second_page = record { base = 0x1000; size = 0x1000 }

abbrev third_page : RangeView
third_page = record { base = 0x2000; size = 0x1000 }

-- a range covers its first and last byte, but not the byte below or the byte after; an empty range
-- covers nothing
covers_examples : (covers second_page 0xFFF ≡ false) × (covers second_page 0x1000 ≡ true) × (covers second_page 0x1FFF ≡ true)
    × (covers second_page 0x2000 ≡ false)
    × (covers (record { base = 0x1000; size = 0 }) 0x1000 ≡ false)
covers_examples = (refl, refl, refl, refl, refl)

-- ranges that share one byte meet; ranges that only touch don't
one_byte_shared : Meet (record { base = 0; size = 0x1001 }) second_page
one_byte_shared = (0x1000, refl)

touching_pages : ¬ Meet second_page third_page
touching_pages both = let shared : (covers second_page both.0 && covers third_page both.0) ≡ true = both.1 in grind (arith, nat_tests)

-- a number has no suffix; of `0x` only the `0` is read
number_examples : (number_of (codes "0x1fz") ≡ Ok (31, 4)) × (number_of (codes "64M") ≡ Ok (64, 2)) × (number_of (codes "0x") ≡ Ok (0, 1))
    × (number_of (codes "x1") ≡ Err NoDigits)
number_examples = (refl, refl, refl, refl)

-- a size has at most one suffix; 16E is 2^64
size_examples : (size_of (codes "64M") ≡ Ok (0x4000000, 3)) × (size_of (codes "010k@") ≡ Ok (8192, 4))
    × (size_of (codes "15EE") ≡ Ok (15 * 2 ^ 60, 3))
    × (size_of (codes "16E") ≡ Err TooLarge) × (size_of (codes "M") ≡ Err NoDigits) × (size_of [] ≡ Err NoDigits)
size_examples = (refl, refl, refl, refl, refl, refl)

-- an address has 16 lower-case digits; a decimal is padded on the left, and never cut
hex_examples : (hex_digits 0x9FC00 ≡ codes "9fc00") × (hex_text 0 ≡ codes "0x0000000000000000")
    × (hex_text 0xFEC00000 ≡ codes "0x00000000fec00000")
unfolding digits
hex_examples = (refl, refl, refl)

decimal_examples : (padded_decimal 6 640 ≡ codes "   640") × (padded_decimal 2 640 ≡ codes "640")
unfolding digits
decimal_examples = (refl, refl)

-- the definition's value and error are allowed and no others, except error 9, which is always
-- allowed
answer_examples : Answers {A = ℕ} {B = ℕ} {E = ℕ} 9 (λ n. n + 1) (Ok 4) (Ok 5)
    × (¬ Answers {A = ℕ} {B = ℕ} {E = ℕ} 9 (λ n. n + 1) (Ok 5) (Ok 5))
    × Answers {A = ℕ} {B = ℕ} {E = ℕ} 9 (λ n. n) (Err 9) (Ok 5)
answer_examples = (refl, (λ said. grind (arith, said)), (λ other. absurd (other refl)))

error_answers : Answers {A = ℕ} {B = ℕ} {E = ℕ} 9 (λ n. n) (Err 7) (Err 7) × (¬ Answers {A = ℕ} {B = ℕ} {E = ℕ} 9 (λ n. n) (Err 7) (Ok 5))
error_answers = ((λ other. refl), (λ said. grind (arith, said (λ same. omega (arith, same)))))

-- the last frame of each zone and the first of the next
zone_examples : (zone_of 0 ≡ Dma) × (zone_of 4095 ≡ Dma) × (zone_of 4096 ≡ Dma32) × (zone_of 1048575 ≡ Dma32) × (zone_of 1048576 ≡ Normal)
zone_examples = (refl, refl, refl, refl, refl)

-- the limits are 64 TiB and 4 PiB: 2^19 and 2^25 sections of 128 MiB. The table has 8 bytes for
-- each root of 256 sections
width_examples : (address_limit_of Bits46 ≡ 70368744177664) × (address_limit_of Bits52 ≡ 4503599627370496)
    × (root_table_size_of Bits46 ≡ 2 ^ 19 / 256 * 8) × (root_table_size_of Bits52 ≡ 2 ^ 25 / 256 * 8)
width_examples = (refl, refl, refl, refl)

-- a frame is 4,096 bytes (`PAGE_SHIFT` 12); the zones end at 16 MiB (`MAX_DMA_PFN`) and at 4 GiB
-- (`MAX_DMA32_PFN`)
frame_numbers : (FRAME_SIZE ≡ 2 ^ 12) × (MAX_DMA_FRAME * FRAME_SIZE ≡ 16 * 1048576) × (MAX_DMA32_FRAME * FRAME_SIZE ≡ 2 ^ 32)
frame_numbers = (refl, refl, refl)

-- the whole frames of a range that begins and ends inside a frame, of a range that is one frame,
-- and of a range of nearly two frames that contains no whole frame
whole_frames_examples : (frames_within (record { base = 0x0FFF; size = 0x2002 }) ≡ Some (record { base = 0x1000; size = 0x2000 }))
    × (frames_within second_page ≡ Some second_page) × (frames_within (record { base = 0x1001; size = 0x1FFE }) ≡ None)
    × (range_between 5 5 ≡ None)
whole_frames_examples = (refl, refl, refl, refl)

-- a number in each base; sizes with and without a suffix; `E` is a digit in base 16; 16E is too
-- large
spelled_numbers : SpellsIn 16 (codes "0x1E") 30 × SpellsIn 8 (codes "010") 8 × SpellsIn 10 (codes "640") 640 × SpellsNumber (codes "0") 0
spelled_numbers = (
  hexadecimal 120 49 (codes "E") (inl refl) (omega arith, (omega arith, tt)),
  octal (codes "10") (omega arith, (omega arith, tt)),
  decimal 54 (codes "40") (omega arith, (omega arith, (omega arith, tt))) (λ same. cc same),
  record { radix = 8; number = octal [] tt; fits = omega arith },
)

spelled_sizes : SpellsSize (codes "640K") 655360 × SpellsSize (codes "0x1E") 30 × (SpellsSize (codes "16E") (2 ^ 64) → ⊥)
spelled_sizes = (
  number_with_suffix 10 640 1024 75 (codes "640") spelled_numbers.2 refl refl (omega arith),
  number_alone (codes "0x1E") 30 (record { radix = 16; number = spelled_numbers.0; fits = omega arith }),
  λ spells. let is : size_of (codes "16E") ≡ Ok (2 ^ 64, 3) = size-read (codes "16E") (2 ^ 64) spells in cc is,
)
