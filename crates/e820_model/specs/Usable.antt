-- The usable frames of a map, and their number.
use Rattle.std.specs.Prelude.{ℕ, zero, suc, ◌+◌, ◌*◌, ◌^◌, ◌==◌, Bool, false, ◌&&◌, ◌||◌, nat_le, nat_lt, if◌then◌else◌, Option, Some, None}
use Rattle.bm_base.specs.declared.range.TheConstants.{FRAME_SIZE}
use Rattle.bm_base.specs.Each.{each_in}
use Rattle.bm_base.specs.Frames.{bytes_of_frame}
use Rattle.e820_model.specs.declared.entry.TheConstants.{E820_TYPE_RAM, E820_TYPE_RESERVED_KERN}
use Rattle.e820_model.specs.Map.{TypeAt}

-- whether the type is memory: RAM, or memory that the kernel itself uses (`e820__memblock_setup`)
abbrev pub is_memory : Option ℕ → Bool
is_memory None = false
is_memory (Some k) = k == E820_TYPE_RAM || k == E820_TYPE_RESERVED_KERN

-- how many of the numbers below n pass the test
unfoldable pub count_below : (ℕ → Bool) → ℕ → ℕ
count_below p zero = 0
count_below p (suc n) = if p n then count_below p n + 1 else count_below p n

-- the types of the addresses below `limit`, the end of the physical addresses (`MAX_PHYSMEM_BITS`);
-- an address at or above it has none
abbrev pub types_below : ℕ → TypeAt → TypeAt
types_below limit f x = if nat_lt x limit then f x else None

-- whether the frame is usable: each of its bytes is memory (`memblock_trim_memory`)
unfoldable pub is_usable_frame : TypeAt → ℕ → Bool
is_usable_frame f frame = each_in (bytes_of_frame frame) (λ x. is_memory (f x))

-- the number of usable frames, by the types of the addresses. There are 2^52 frames of 64-bit
-- addresses.
unfoldable pub usable_frames : TypeAt → ℕ
usable_frames f = count_below (is_usable_frame f) (2 ^ 52)

-- the number of frames that begin at or above `from` and end at or below `until`
abbrev pub count_whole_frames : ℕ → ℕ → ℕ
count_whole_frames from until =
    count_below (λ frame. nat_le from (FRAME_SIZE * frame) && nat_le (FRAME_SIZE * frame + FRAME_SIZE) until) (2 ^ 52)
