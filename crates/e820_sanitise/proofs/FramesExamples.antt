-- Worked examples of small and large maps.
use Rattle.std.proofs.Common.{◌≡◌, ℕ, ◌+◌, ◌^◌, ◌<◌, ◌∙◌, Some, None, List, [], ◌∷◌, min, refl, sym, arith}
use Rattle.address_runs.specs.Ascend.{Ascend}
use Rattle.address_runs.specs.Runs.{RunOf, value_at}
use Rattle.e820_model.specs.Usable.{types_below, usable_frames, count_whole_frames}
use Rattle.e820_sanitise.specs.declared.stop.MapStop.TheVariants as stops
use Rattle.e820_sanitise.specs.Stop.{judge_frames}
use Rattle.e820_sanitise.proofs.FramesLaws.{whole_by_division, frames_usable}

-- from 2 KiB to 14 KiB there are two whole frames, 1 and 2
frames_1_and_2 : count_whole_frames 0x800 0x3800 ≡ 2
frames_1_and_2 = whole_by_division 0x800 0x3800 (omega arith)

one_byte_short : count_whole_frames 0 0xFFF ≡ 0
one_byte_short = whole_by_division 0 0xFFF (omega arith)

-- the first address that five levels of page tables can't reach
abbrev limit : ℕ
limit = 2 ^ 52

-- RAM of `size` bytes from address 0
abbrev ram : ℕ → List (RunOf ℕ)
ram size = record { base = 0; size = size; value = 1 } ∷ []

one_run : (size : ℕ) → 0 < size → Ascend (ram size)
one_run size some = (some, tt, tt)

-- the usable frames of this RAM are the whole frames below its end
frames_of_ram : (size : ℕ) → 0 < size
    → usable_frames (types_below limit (value_at (ram size))) ≡ count_whole_frames 0 (min (0 + size) limit)
frames_of_ram size some = sym (frames_usable limit (omega arith) (ram size) (one_run size some))

-- two pages of RAM are two usable frames
two_pages : usable_frames (types_below limit (value_at (ram 0x2000))) ≡ 2
two_pages = frames_of_ram 0x2000 (omega arith) ∙ whole_by_division 0 0x2000 (omega arith)

two_pages_go_on : judge_frames (types_below limit (value_at (ram 0x2000))) ≡ None
two_pages_go_on = rw two_pages refl

-- less than a page of RAM has no usable frame, and the boot stops
part_of_a_page : usable_frames (types_below limit (value_at (ram 0x800))) ≡ 0
part_of_a_page = frames_of_ram 0x800 (omega arith) ∙ whole_by_division 0 0x800 (omega arith)

part_of_a_page_stops : judge_frames (types_below limit (value_at (ram 0x800))) ≡ Some stops.NoRam
part_of_a_page_stops = rw part_of_a_page refl

-- the boot continues with 2^32 frames, and stops with one more
most_frames : usable_frames (types_below limit (value_at (ram (2 ^ 44)))) ≡ 2 ^ 32
most_frames = frames_of_ram (2 ^ 44) (omega arith) ∙ whole_by_division 0 (2 ^ 44) (omega arith)

most_frames_go_on : judge_frames (types_below limit (value_at (ram (2 ^ 44)))) ≡ None
most_frames_go_on = rw most_frames refl

one_frame_more : usable_frames (types_below limit (value_at (ram (2 ^ 44 + 4096)))) ≡ 2 ^ 32 + 1
one_frame_more = frames_of_ram (2 ^ 44 + 4096) (omega arith) ∙ whole_by_division 0 (2 ^ 44 + 4096) (omega arith)

one_frame_more_stops : judge_frames (types_below limit (value_at (ram (2 ^ 44 + 4096)))) ≡ Some (stops.TooMuchRam (2 ^ 32 + 1))
one_frame_more_stops = rw one_frame_more refl

-- a map without runs has no usable frame
empty_map_stops : judge_frames (types_below limit (value_at [])) ≡ Some stops.NoRam
empty_map_stops =
    let counted : usable_frames (types_below limit (value_at [])) ≡ count_whole_frames 0 (min 0 limit) =
    sym (frames_usable limit (omega arith) [] tt) in
    let none : usable_frames (types_below limit (value_at [])) ≡ 0 = counted ∙ whole_by_division 0 0 (omega arith) in
    rw none refl

-- a frame that begins at the limit or has it inside doesn't count: 12 KiB of RAM with a limit of 8
-- KiB have two usable frames, and so have 16 KiB with a limit of 10 KiB
three_pages : usable_frames (types_below 0x2000 (value_at (ram 0x3000))) ≡ 2
three_pages =
    sym (frames_usable 0x2000 (omega arith) (ram 0x3000) (one_run 0x3000 (omega arith)))
    ∙ whole_by_division 0 0x2000 (omega arith)

limit_in_a_frame : usable_frames (types_below 0x2800 (value_at (ram 0x4000))) ≡ 2
limit_in_a_frame =
    sym (frames_usable 0x2800 (omega arith) (ram 0x4000) (one_run 0x4000 (omega arith)))
    ∙ whole_by_division 0 0x2800 (omega arith)

-- three pages in two runs of RAM that touch inside a page: that page counts once
abbrev two_runs : List (RunOf ℕ)
two_runs = record { base = 0; size = 0x1800; value = 1 } ∷ record { base = 0x1800; size = 0x1800; value = 1 } ∷ []

touching_runs : usable_frames (types_below limit (value_at two_runs)) ≡ 3
touching_runs =
    sym (frames_usable limit (omega arith) two_runs (omega arith, omega arith, (omega arith, tt, tt)))
    ∙ whole_by_division 0 0x3000 (omega arith)
