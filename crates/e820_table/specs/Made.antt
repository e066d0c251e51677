-- Made tables: tables of any number of entries, for tests and measurements with more entries than
-- a real machine has. The first two entries are RAM: 640 KiB from address 0, and 128 MiB from 1
-- MiB. Each later entry has 1 to 16 frames and begins where the one before it ends. These entries
-- are reserved and RAM in turn. Their sizes come from a linear congruential generator, the example
-- of `rand` in ISO C.
use Rattle.std.specs.Prelude.{ℕ, zero, suc, ◌+◌, ◌-◌, ◌*◌, ◌/◌, ◌%◌, ◌^◌, ◌==◌, if◌then◌else◌, List, [], ◌∷◌}
use Rattle.bm_base.specs.declared.range.TheConstants.{FRAME_SIZE}
use Rattle.e820_model.specs.declared.entry.Entry.{Entry}
use Rattle.e820_model.specs.declared.entry.TheConstants.{E820_TYPE_RAM, E820_TYPE_RESERVED}

-- the pseudo-random number after `x`
abbrev pub next_generator_state : ℕ → ℕ
next_generator_state x = (1103515245 * x + 12345) % 2 ^ 31

-- the number of frames, from 1 to 16, of the entry that is generated with the pseudo-random number
-- `x`
abbrev pub frames_of_entry : ℕ → ℕ
frames_of_entry x = 1 + x / 65536 % 16

-- the first entry of a generated table: RAM below 640 KiB
abbrev pub low_ram : Entry
low_ram = record { addr = 0; size = 0xA0000; kind = E820_TYPE_RAM }

-- the second entry of a generated table: 128 MiB of RAM from 1 MiB on
abbrev pub high_ram : Entry
high_ram = record { addr = 0x100000; size = 0x8000000; kind = E820_TYPE_RAM }

-- the address at which the third entry begins: the end of the second
abbrev pub third_entry_start : ℕ
third_entry_start = high_ram.addr + high_ram.size

-- the entry with the index `index` (2 or above) of a generated table: it begins at address `base`,
-- and its size comes from the pseudo-random number `x`
abbrev pub generated_entry : ℕ → ℕ → ℕ → Entry
generated_entry index base x = record {
  addr = base;
  size = FRAME_SIZE * frames_of_entry x;
  kind = if index % 2 == 0 then E820_TYPE_RESERVED else E820_TYPE_RAM;
}

-- n generated entries, one after another, from the given index and address on; `x` is the
-- pseudo-random number of the entry before them
unfoldable pub generated_entries_from : ℕ → ℕ → ℕ → ℕ → List Entry
generated_entries_from zero index base x = []
generated_entries_from (suc n) index base x =
    generated_entry index base (next_generator_state x)
    ∷ generated_entries_from n (index + 1) (base + FRAME_SIZE * frames_of_entry (next_generator_state x)) (next_generator_state x)

-- all entries of the generated table of `count` entries; the first pseudo-random number is the one
-- after `count`
abbrev pub generated_entries : ℕ → List Entry
generated_entries count = low_ram ∷ high_ram ∷ generated_entries_from (count - 2) 2 third_entry_start count
