-- Worked examples of made tables. The expected entries come from an independent program.
use Rattle.std.proofs.Common.{◌≡◌, ℕ, [], ◌∷◌, refl}
use Rattle.e820_model.specs.declared.entry.Entry.{Entry}
use Rattle.e820_table.specs.Made.{generated_entries_from, frames_of_entry, generated_entries, next_generator_state}

abbrev entry : ℕ → ℕ → ℕ → Entry
entry addr size kind = record { addr = addr; size = size; kind = kind }

-- the numbers after 2 and after the largest number in the generator's sequence
next_numbers : (next_generator_state 2 ≡ 59559187) × (next_generator_state 2147483647 ≡ 1043980748)
next_numbers = (refl, refl)

-- an entry has from 1 to 16 frames
frames : (frames_of_entry 0 ≡ 1) × (frames_of_entry 65535 ≡ 1) × (frames_of_entry 65536 ≡ 2) × (frames_of_entry 983040 ≡ 16)
    × (frames_of_entry 1048576 ≡ 1)
frames = (refl, refl, refl, refl, refl)

-- tables of two entries and of five
made_examples : (generated_entries 2 ≡ entry 0 655360 1 ∷ entry 1048576 134217728 1 ∷ [])
    × (generated_entries 5
    ≡ entry 0 655360 1 ∷ entry 1048576 134217728 1 ∷ entry 135266304 65536 2 ∷ entry 135331840 40960 1 ∷ entry 135372800 36864 2 ∷ [])
unfolding generated_entries_from
made_examples = (refl, refl)
