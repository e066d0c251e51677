-- Examples of small maps: the items for them, and the memory that they give.
use Rattle.std.proofs.Common.{◌≡◌, ℕ, ◌^◌, Bool, true, false, ◌&&◌, nat_le, nat_lt, Option, Some, None, List, [], ◌∷◌, take, refl, sym, ◌∙◌, ap, arith}
use Rattle.std.proofs.lemmas.Bool.Decides.{nat_tests}
use Rattle.std.proofs.Math.Nat.{le_antisymm}
use Rattle.bm_base.specs.Each.{each_from, each_in}
use Rattle.bm_base.specs.Range.{RangeView}
use Rattle.address_runs.specs.Runs.{RunOf, value_at}
use Rattle.e820_model.specs.Map.{TypeAt}
use Rattle.e820_model.specs.Usable.{is_memory, is_usable_frame, types_below}
use Rattle.e820_model.proofs.UsableLaws.{all_bytes, interval_frame, memory_reached, usable_whole}
use Rattle.memblock_model.specs.Labels.{Labels, plain_label, with_mirror}
use Rattle.memblock_model.specs.Items.{limit_of, memory_of, owner_of, trim_frames, upward_of}
use Rattle.memblock_model.specs.declared.owner.Owner.{Owner}
use Rattle.memblock_model.specs.declared.item.Item.{Item}
use Rattle.memblock_model.specs.declared.owner.Owner.TheVariants as owner
use Rattle.memblock_model.specs.declared.item.Item.TheVariants as item
use Rattle.early_memory.specs.EarlyInputs.{EarlyInputs, FrameRange}
use Rattle.early_memory.specs.Memory.{is_mirrored, memory_end, usable_memory}
use Rattle.early_memory.specs.FirstItems.{items_after_map, early_claims, early_items, items_of_run, part_below}
use Rattle.early_memory.proofs.EndLaws.{IsEnd, memory_end-is, one_end}

abbrev bytes : ℕ → ℕ → RangeView
bytes base size = record { base = base; size = size }

abbrev run : ℕ → ℕ → ℕ → RunOf ℕ
run base size type = record { base = base; size = size; value = type }

abbrev limit : ℕ
limit = 2 ^ 46

-- the owner of a byte before memory is known: an image of 32 MiB from 16 MiB on, and an initrd of
-- 12 KiB or none
abbrev owned : Option RangeView → ℕ → Option Owner
owned initrd x = owner_of (early_claims (bytes 0x1000000 0x2000000) initrd) x

abbrev initrd_range : Option RangeView
initrd_range = Some (bytes 0x7000000 0x3000)

-- with an initrd, without one, and with one that begins in the first 64 KiB, which then also owns
-- its bytes there
owned_examples : (owned initrd_range 0x6FFFFFF ≡ None) × (owned initrd_range 0x7000000 ≡ Some owner.Initrd)
    × (owned initrd_range 0x7002FFF ≡ Some owner.Initrd) × (owned initrd_range 0x7003000 ≡ None)
    × (owned None 0xFFFF ≡ Some owner.Low64K) × (owned None 0x10000 ≡ None) × (owned None 0xFFFFFF ≡ None)
    × (owned None 0x1000000 ≡ Some owner.Kernel) × (owned None 0x2FFFFFF ≡ Some owner.Kernel) × (owned None 0x7000000 ≡ None)
    × (owned (Some (bytes 0xF000 0x3000)) 0xEFFF ≡ Some owner.Low64K) × (owned (Some (bytes 0xF000 0x3000)) 0xF000 ≡ Some owner.Initrd)
owned_examples = (refl, refl, refl, refl, refl, refl, refl, refl, refl, refl, refl, refl)

-- RAM is added, a reserved run isn't, and a driver's is claimed; a run that passes the limit is
-- cut, and one that begins there is left out
runs_of_types : (items_of_run limit (run 0x1000 0x9F000 1) ≡ item.Mem (bytes 0x1000 0x9F000) ∷ [])
    × (items_of_run limit (run 0x1000 0x9F000 128) ≡ item.Mem (bytes 0x1000 0x9F000) ∷ [])
    × (items_of_run limit (run 0x1000 0x9F000 2) ≡ [])
    × (items_of_run limit (run 0x1000 0x9F000 0xEFFFFFFF) ≡ item.Claim (bytes 0x1000 0x9F000) owner.Soft ∷ [])
    × (items_of_run limit (run 0x3FFFFFFFF000 0x2000 1) ≡ item.Mem (bytes 0x3FFFFFFFF000 0x1000) ∷ [])
    × (items_of_run limit (run 0x400000000000 0x1000 1) ≡ []) × (part_below 0x2000 (run 0x1000 0x3000 1) ≡ bytes 0x1000 0x1000)
runs_of_types = (refl, refl, refl, refl, refl, refl, refl)

-- two ranges of mirrored frames, 1 to 2 and 8
abbrev some_frames : List FrameRange
some_frames = record { first = 1; count = 2 } ∷ record { first = 8; count = 1 } ∷ []

-- RAM from frame 1 to the middle of frame 2: the half frame is removed before anything is
-- mirrored, and then frame 1 is mirrored
abbrev ram_and_a_half : ℕ → Labels
ram_and_a_half steps = memory_of (item.Mem (bytes 0x1000 0x1800) ∷ take steps (items_after_map some_frames 0x4000))

only_whole_frames_are_mirrored : (ram_and_a_half 0 0x27FF ≡ Some plain_label) × (ram_and_a_half 1 0x27FF ≡ None)
    × (ram_and_a_half 1 0x1FFF ≡ Some plain_label) × (ram_and_a_half 2 0x1FFF ≡ Some (with_mirror plain_label))
unfolding trim_frames each_in each_from
only_whole_frames_are_mirrored = (refl, refl, refl, refl)

-- after the whole list allocations end at the end of memory, and the first MiB has its owner
closed : (limit_of (item.Limit 0x100000 ∷ items_after_map some_frames 0x4000) ≡ 0x4000)
    × (owner_of (items_after_map some_frames 0x4000) 0xFFFFF ≡ Some owner.Low1M)
    × (owner_of (items_after_map some_frames 0x4000) 0x100000 ≡ None)
closed = (refl, refl, refl)

-- a boot with 127 MiB of RAM from 1 MiB on
abbrev given : Option RangeView → Bool → EarlyInputs
given initrd upward =
    record { limit = limit; kernel = bytes 0x1000000 0x2000000; initrd = initrd; mirrors = some_frames; upward = upward }

abbrev wanted : Option RangeView → Bool → ℕ → List Item
wanted initrd upward steps = take steps (early_items (given initrd upward) (run 0x100000 0x7F00000 1 ∷ []))

-- allocations stay in the first MiB when the first byte becomes memory, by the fourth item
limited_when_memory_comes : (memory_of (wanted None false 3) 0x100000 ≡ None) × (limit_of (wanted None false 3) ≡ 0x100000)
    × (memory_of (wanted None false 4) 0x100000 ≡ Some plain_label) × (upward_of (wanted None false 4) ≡ false)
limited_when_memory_comes = (refl, refl, refl, refl)

-- with an initrd and searches from below: the initrd is claimed first, then the limit is set, then
-- the direction, and then memory is added
direction_after_the_limit : (owner_of (wanted initrd_range true 3) 0x7000000 ≡ Some owner.Initrd)
    × (limit_of (wanted initrd_range true 4) ≡ 0x100000) × (upward_of (wanted initrd_range true 4) ≡ false)
    × (upward_of (wanted initrd_range true 5) ≡ true) × (memory_of (wanted initrd_range true 5) 0x100000 ≡ None)
    × (memory_of (wanted initrd_range true 6) 0x100000 ≡ Some plain_label)
direction_after_the_limit = (refl, refl, refl, refl, refl, refl)

-- without a map there is no memory, whatever is mirrored, and the first MiB is claimed
-- nevertheless
no_map_no_memory : (memory_of (early_items (given None false) []) 0x1000 ≡ None)
    × (owner_of (early_items (given None false) []) 0xFFFFF ≡ Some owner.Low1M)
unfolding trim_frames each_in each_from
no_map_no_memory = (refl, refl)

-- bytes that are in mirrored frames, and bytes that aren't
mirrored_bytes : (is_mirrored some_frames 0xFFF ≡ false) × (is_mirrored some_frames 0x1000 ≡ true) × (is_mirrored some_frames 0x2FFF ≡ true)
    × (is_mirrored some_frames 0x3000 ≡ false) × (is_mirrored some_frames 0x8000 ≡ true) × (is_mirrored [] 0x8000 ≡ false)
mirrored_bytes = (refl, refl, refl, refl, refl, refl)

-- RAM and the kernel's own memory meet inside a frame, and end inside one: frames 1, 2 and 3 are
-- usable
abbrev meeting : List (RunOf ℕ)
meeting = run 0x1000 0x1C00 1 ∷ run 0x2C00 0x1500 128 ∷ []

abbrev types : TypeAt
types = types_below limit (value_at meeting)

memory_within : (x : ℕ) → is_memory (types x) ≡ (nat_le 0x1000 x && nat_lt x 0x4100)
memory_within x = memory_reached limit (value_at meeting) x ∙ grind (arith, nat_tests)

usable_are : (frame : ℕ) → is_usable_frame types frame ≡ (nat_le 1 frame && nat_lt frame 4)
usable_are frame =
    usable_whole types frame ∙ ap (λ (p : ℕ → Bool). all_bytes p frame) (λ i x. memory_within x i)
    ∙ interval_frame 0x1000 0x4100 frame

whole_frames_are_memory : (usable_memory limit (value_at meeting) 0x2C00 ≡ Some plain_label)
    × (usable_memory limit (value_at meeting) 0xFFF ≡ None) × (usable_memory limit (value_at meeting) 0x4000 ≡ None)
whole_frames_are_memory =
    (rw (usable_are 2) refl, rw (usable_are 0) refl, rw (usable_are 4) refl)

ends_with_frame_3 : IsEnd limit (value_at meeting) 0x4000
ends_with_frame_3 = record {
  by = λ frame usable. let test = sym (usable_are frame) ∙ usable in grind (arith, nat_tests, test);
  last = λ some. (3, refl, usable_are 3);
}

memory_ends : memory_end limit (value_at meeting) ≡ 0x4000
memory_ends =
    let known = memory_end-is limit (value_at meeting) in
    le_antisymm (one_end limit _ _ _ known ends_with_frame_3) (one_end limit _ _ _ ends_with_frame_3 known)
