-- Worked examples: usable frames of small maps.
use Rattle.std.proofs.Common.{◌≡◌, ℕ, ◌+◌, ◌-◌, ◌^◌, ◌&&◌, nat_le, nat_lt, true, false, refl, ap, ◌∙◌, Some, None, [], ◌∷◌, arith}
use Rattle.std.proofs.lemmas.Bool.Decides.{nat_tests}
use Rattle.address_runs.specs.Runs.{value_at}
use Rattle.bm_base.specs.Each.{each_from, each_in}
use Rattle.e820_model.specs.Map.{TypeAt}
use Rattle.e820_model.specs.Usable.{is_memory, count_below, types_below, is_usable_frame, usable_frames}
use Rattle.e820_model.proofs.UsableLaws.{all_bytes, count_frames_between, usable_count}

-- RAM and the kernel's own memory count as memory; reserved and unclaimed addresses don't
memory_examples : (is_memory (Some 1) ≡ true) × (is_memory (Some 128) ≡ true) × (is_memory (Some 2) ≡ false)
    × (is_memory (Some 0xEFFFFFFF) ≡ false) × (is_memory None ≡ false)
memory_examples = (refl, refl, refl, refl, refl)

-- RAM from 0x800 to 0x3800, with the kernel's own memory from 0x1800 to 0x2800: frames 1 and 2 are
-- whole, 0 and 3 aren't
kernel_inside : TypeAt
kernel_inside =
    value_at (record { base = 0x800; size = 0x1000; value = 1 } ∷ record { base = 0x1800; size = 0x1000; value = 128 }
    ∷ record { base = 0x2800; size = 0x1000; value = 1 } ∷ [])

frame_examples : (is_usable_frame kernel_inside 0 ≡ false) × (is_usable_frame kernel_inside 1 ≡ true)
    × (is_usable_frame kernel_inside 2 ≡ true)
    × (is_usable_frame kernel_inside 3 ≡ false) × (count_below (is_usable_frame kernel_inside) 5 ≡ 2)
unfolding kernel_inside each_from each_in count_below is_usable_frame
frame_examples = (refl, refl, refl, refl, refl)

-- a frame with one reserved byte, or with one byte that nothing claims, isn't usable
one_byte_reserved : TypeAt
one_byte_reserved =
    value_at (record { base = 0; size = 0x1234; value = 1 } ∷ record { base = 0x1234; size = 1; value = 2 }
    ∷ record { base = 0x1235; size = 0x1DCB; value = 1 } ∷ [])

one_byte_missing : TypeAt
one_byte_missing = value_at (record { base = 0; size = 0x1FFF; value = 1 } ∷ record { base = 0x2000; size = 0x1000; value = 1 } ∷ [])

byte_examples : (count_below (is_usable_frame one_byte_reserved) 4 ≡ 2) × (is_usable_frame one_byte_reserved 1 ≡ false)
    × (count_below (is_usable_frame one_byte_missing) 4 ≡ 2) × (is_usable_frame one_byte_missing 1 ≡ false)
unfolding one_byte_reserved one_byte_missing each_from each_in count_below is_usable_frame
byte_examples = (refl, refl, refl, refl)

-- no address at or above the limit has a type; a frame that contains the limit isn't usable
reach_examples : (types_below 0x1000 one_byte_reserved 0xFFF ≡ Some 1) × (types_below 0x1000 one_byte_reserved 0x1000 ≡ None)
    × (is_usable_frame (types_below 0x2800 kernel_inside) 1 ≡ true) × (is_usable_frame (types_below 0x2800 kernel_inside) 2 ≡ false)
unfolding one_byte_reserved kernel_inside each_from each_in is_usable_frame
reach_examples = (refl, refl, refl, refl)

-- the whole frames of a run of RAM: two of 12 KiB that begin and end inside a frame, and the
-- highest frame of all
ram : ℕ → ℕ → TypeAt
ram base size = value_at (record { base = base; size = size; value = 1 } ∷ [])

is_ram : (base size x : ℕ) → is_memory (ram base size x) ≡ (nat_le base x && nat_lt x (base + size))
unfolding ram
is_ram base size x = grind (arith, nat_tests)

frames_of_ram : (base size : ℕ)
    → usable_frames (ram base size) ≡ count_below (all_bytes (λ x. nat_le base x && nat_lt x (base + size))) (2 ^ 52)
frames_of_ram base size =
    usable_count (ram base size) ∙ ap (λ p. count_below (all_bytes p) (2 ^ 52)) (λ i x. is_ram base size x i)

two_frames : usable_frames (ram 0x800 0x3000) ≡ 2
two_frames = frames_of_ram 0x800 0x3000 ∙ count_frames_between 0x800 0x3800 (2 ^ 52)

last_frame : usable_frames (ram (2 ^ 64 - 4096) 4096) ≡ 1
last_frame = frames_of_ram (2 ^ 64 - 4096) 4096 ∙ count_frames_between (2 ^ 64 - 4096) (2 ^ 64) (2 ^ 52)
