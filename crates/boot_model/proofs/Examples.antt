-- Small boots and parts of boots. No example computes a map, since `map_of` goes over all
-- addresses. The map of entries of size 0 follows from laws.
use Rattle.std.proofs.Common.{◌≡◌, ℕ, ◌*◌, ◌^◌, true, false, List, [], ◌∷◌, length, Some, None, Ok, Err, refl, sym, arith}
use Rattle.std.proofs.lemmas.Bool.Decides.{nat_tests}
use Rattle.bm_base.specs.Range.{RangeView}
use Rattle.bm_base.specs.declared.width.Width.TheVariants.{Bits46, Bits52}
use Rattle.address_runs.specs.Runs.{RunOf}
use Rattle.address_runs.proofs.RunsLaws.{runs_of_function_are_equal}
use Rattle.e820_model.specs.declared.entry.Entry.{Entry}
use Rattle.e820_model.specs.Claims.{Claims, claims_of_entries, type_of, settled_claims, union_of_claims, after_bios_trim}
use Rattle.e820_model.specs.Map.{kinds, map_of}
use Rattle.e820_model.specs.Usable.{is_memory, types_below, usable_frames}
use Rattle.e820_model.proofs.ClaimLaws.{greatest_is, map_runs}
use Rattle.e820_model.proofs.UsableLaws.{count_none, is_usable_frame-fails}
use Rattle.memblock_model.specs.declared.item.Item.TheVariants as item
use Rattle.boot_model.specs.declared.stop.Cause.TheVariants as causes
use Rattle.script_reader.specs.declared.act.Act.TheVariants as acts
use Rattle.early_script.specs.declared.outcome.Outcome.TheVariants as outcomes
use Rattle.early_script.specs.Effects.{act_effect}
use Rattle.bm_base.specs.Each.{each_from, each_in}
use Rattle.memblock_frames.specs.Frames.{free_node_in}
use Rattle.memblock_model.specs.declared.item.Item.{Item}
use Rattle.memblock_model.specs.declared.owner.Owner.TheVariants as owner
use Rattle.boot_model.specs.Boot.{InputsView, BootSoFar, begin_boot, begin_with_map, inputs_without_files, boot, boot_with, claims, handover_frames, map_size_stage, lies_in_memory, no_options, reach, script_stage, finish_boot}
use Rattle.boot_model.specs.Kernel.{IsKernel, is_kernel}
use Rattle.boot_model.specs.Mirrors.{IsMirror, frame_range_of}

-- this and the next four: values for the examples below
abbrev two_runs : List (RunOf ℕ)
two_runs = record { base = 0x1000; size = 0x1000; value = 1 } ∷ record { base = 0x2000; size = 0x1000; value = 2 } ∷ []

abbrev image : RangeView
image = record { base = 0x1000000; size = 0x2000000 }

abbrev made : BootSoFar
made = begin_with_map two_runs no_options

abbrev empty : Entry
empty = record { addr = 0; size = 0; kind = 0 }

abbrev of_image : InputsView
of_image = inputs_without_files Bits46 image

-- both tables are empty, and lie in the last two frames of the kernel's image
told_example : ((finish_boot of_image made).heads.memory.place ≡ 0x2FFE000) × ((finish_boot of_image made).heads.reserved.place ≡ 0x2FFF000)
told_example = (refl, refl)

-- the limit of physical addresses is 64 TiB, or 4 PiB with page tables of five levels
reach_examples : (reach of_image ≡ 0x400000000000) × (reach (inputs_without_files Bits52 image) ≡ 0x10000000000000)
reach_examples = (refl, refl)

-- a mirrored range consists of whole frames, at least one, and has these frames
mirror_examples : IsMirror (record { base = 0x4000000; size = 0x1000 })
    × (frame_range_of (record { base = 0x4000000; size = 0x1000000 }) ≡ record { first = 0x4000; count = 0x1000 })
mirror_examples = (record { some = omega arith; at_frame = refl; of_frames = refl }, refl)

-- no mirrored range ends in the middle of a frame, begins in the middle of one, or is empty
no_mirrors : (IsMirror (record { base = 0x4000000; size = 0x1800 }) → ⊥)
    × (IsMirror (record { base = 0x4000800; size = 0x1000 }) → ⊥)
    × (IsMirror (record { base = 0x4000000; size = 0 }) → ⊥)
no_mirrors = (λ known. omega (arith, known.of_frames), λ known. omega (arith, known.at_frame), λ known. omega (arith, known.some))

-- a line that names an unknown ID gets an outcome, and changes nothing else
unknown_line : script_stage image (record { number = 3; act = acts.Free 7 } ∷ []) made
    ≡ Ok (record made { answers = record { line = 3; outcome = outcomes.Unknown } ∷ [] })
unfolding act_effect
unknown_line = refl

-- two frames of node 3, of which the first has a claimed byte
abbrev two_frames : List Item
two_frames =
    item.Mem (record { base = 0x1000; size = 0x2000 }) ∷ item.Node (record { base = 0x1000; size = 0x2000 }) 3
    ∷ item.Claim (record { base = 0x1800; size = 1 }) owner.Kernel ∷ []

-- the frame with the claimed byte isn't handed over, the other is
handed_examples : (handover_frames two_frames 1 ≡ None) × (handover_frames two_frames 2 ≡ Some 3)
unfolding free_node_in each_in each_from
handed_examples = (refl, refl)

-- 3,200 runs fit; 3,201 don't, and the stop gives their number
full_map : (runs : List (RunOf ℕ)) → length runs ≡ 3200 → map_size_stage (record made { map = runs }) ≡ Ok (record made { map = runs })
full_map runs many = rw many refl

too_long_a_map : (runs : List (RunOf ℕ)) → length runs ≡ 3201 → map_size_stage (record made { map = runs }) ≡ Err (causes.MapFull 3201)
too_long_a_map runs many = rw many refl

-- RAM and the kernel's own memory are memory; a reserved run and an address in no run aren't
memory_examples : (lies_in_memory two_runs 0x1000 ≡ true) × (lies_in_memory two_runs 0x1FFF ≡ true)
    × (lies_in_memory two_runs 0x2000 ≡ false) × (lies_in_memory two_runs 0xFFF ≡ false)
    × (lies_in_memory (record { base = 0; size = 1; value = 128 } ∷ []) 0 ≡ true)
memory_examples = (refl, refl, refl, refl, refl)

-- An image of two frames may lie at 1 MiB, and one may end at the limit of physical addresses. No
-- image begins in the middle of a frame, has only one frame, or ends a frame past the limit. With
-- 52 bits the limit is higher.
kernel_tests : (is_kernel Bits46 (record { base = 0x100000; size = 8192 }) ≡ true)
    × (is_kernel Bits46 (record { base = 0x3FFFFFFFE000; size = 0x2000 }) ≡ true)
    × (is_kernel Bits46 (record { base = 0x100800; size = 0x2000000 }) ≡ false)
    × (is_kernel Bits46 (record { base = 0x100000; size = 4096 }) ≡ false)
    × (is_kernel Bits46 (record { base = 0x3FFFFFFFF000; size = 0x2000 }) ≡ false)
    × (is_kernel Bits52 (record { base = 0xFFFFFFFFFE000; size = 0x2000 }) ≡ true)
    × (is_kernel Bits52 (record { base = 0xFFFFFFFFFF000; size = 0x2000 }) ≡ false)
kernel_tests = (refl, refl, refl, refl, refl, refl, refl)

-- an image must lie above the first MiB and consist of whole frames
kernel_examples : IsKernel Bits46 (record { base = 0x1000000; size = 0x2000000 })
    × (IsKernel Bits46 (record { base = 0xFF000; size = 0x2000000 }) → ⊥)
    × (IsKernel Bits46 (record { base = 0x1000000; size = 0x2800 }) → ⊥)
kernel_examples = (
  record { above = omega arith; long = omega arith; at_frame = refl; of_frames = refl; in_reach = omega arith },
  λ known. omega (arith, known.above),
  λ known. omega (arith, known.of_frames),
)

-- This and the following examples end in `no_ram`. Two entries of size 0 claim nothing, so no
-- frame is usable and the boot stops.
Nothing : Claims → Type 0
Nothing c = (x k : ℕ) → c x k ≡ false

no_type : (c : Claims) → Nothing c → (x : ℕ) → type_of c x ≡ 0
unfolding Nothing
no_type c nothing x = greatest_is (c x) 0 (omega arith) (λ some. absurd (omega (arith, some))) (λ k higher small. nothing x k)

nothing_settled : (c : Claims) → Nothing c → Nothing (settled_claims c)
unfolding Nothing
nothing_settled c nothing x k = let none : type_of c x ≡ 0 = no_type c nothing x in grind (arith, nat_tests)

nothing_trimmed : (c : Claims) → Nothing c → Nothing (after_bios_trim c)
unfolding Nothing
nothing_trimmed c nothing x k = rw (nothing x k, nothing x 1) (grind (arith, nat_tests))

no_kind : (c : Claims) → Nothing c → (x : ℕ) → kinds c x ≡ None
no_kind c nothing x = rw (no_type c nothing x) refl

no_runs : (c : Claims) → Nothing c → map_of c ≡ []
no_runs c nothing =
    runs_of_function_are_equal (kinds c) (map_of c) [] (map_runs c (λ x far. no_kind c nothing x))
    (record { runs = tt; each = λ x. sym (no_kind c nothing x) })

no_type_in_reach : (limit : ℕ) (c : Claims) → Nothing c → (x : ℕ) → is_memory (types_below limit (kinds c) x) ≡ false
no_type_in_reach limit c nothing x = rw (no_kind c nothing x) (grind arith)

no_frame : (limit : ℕ) (c : Claims) → Nothing c → usable_frames (types_below limit (kinds c)) ≡ 0
unfolding usable_frames
no_frame limit c nothing =
    count_none _ (2 ^ 52) (λ frame low.
    is_usable_frame-fails (types_below limit (kinds c)) frame (4096 * frame) (omega arith) (omega arith)
    (no_type_in_reach limit c nothing (4096 * frame)))

abbrev two_empty : InputsView
two_empty = record of_image { entries = empty ∷ empty ∷ [] }

none_covers : Nothing (claims_of_entries (empty ∷ empty ∷ []))
unfolding Nothing
none_covers x k = grind (arith, nat_tests)

nothing_added : (c : Claims) → Nothing c → Nothing (union_of_claims c (claims_of_entries []))
unfolding Nothing
nothing_added c nothing x k = rw (nothing x k) refl

nothing_claimed : Nothing (claims two_empty)
nothing_claimed =
    nothing_trimmed _ (nothing_settled _ (nothing_added _ (nothing_settled _ (nothing_added _ (nothing_settled _ none_covers)))))

begins_without_a_run : (begin_boot two_empty).map ≡ []
begins_without_a_run = no_runs (claims two_empty) nothing_claimed

no_ram : boot two_empty ≡ Err causes.NoRam
unfolding boot boot_with
no_ram = rw (no_runs (claims two_empty) nothing_claimed, no_frame (reach two_empty) (claims two_empty) nothing_claimed) refl
