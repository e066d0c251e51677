-- Worked examples: total memory, what is requested of it, the windows of the search, and the
-- outcomes.
use Rattle.std.proofs.Common.{◌≡◌, ℕ, ◌^◌, nat_le, true, false, Some, None, List, [], ◌∷◌, refl, ap, arith}
use Rattle.std.proofs.lemmas.Bool.Decides.{nat_tests}
use Rattle.std.proofs.lemmas.Option.{same_Some}
use Rattle.bm_base.specs.Range.{RangeView, covers}
use Rattle.bm_base.specs.Each.{each_from, each_in}
use Rattle.address_runs.specs.Runs.{RunOf, value_at, AreRuns}
use Rattle.address_runs.specs.Edits.{IsEmptyFrom}
use Rattle.address_runs.proofs.RunsLaws.{past_end}
use Rattle.memblock_model.specs.declared.item.Item.{Item}
use Rattle.memblock_model.specs.declared.item.Item.TheVariants as item
use Rattle.memblock_model.specs.declared.owner.Owner.TheVariants as owner
use Rattle.memblock_model.specs.Items.{memory_of}
use Rattle.memblock_model.specs.Labels.{LabelView, plain_label, with_node}
use Rattle.memblock_model.specs.Search.{fits, fits_in}
use Rattle.boot_options.specs.declared.crash.CrashRange.{CrashRange}
use Rattle.boot_options.specs.Crash.{CrashOptionView, no_crash, one_range}
use Rattle.stage_steps.specs.Steps.{return_value}
use Rattle.crash_kernel.specs.declared.request.Placement.TheVariants as placement
use Rattle.crash_kernel.specs.declared.crash.Crash.TheVariants as crash
use Rattle.crash_kernel.specs.Total.{memory_bytes}
use Rattle.crash_kernel.specs.Request.{request_for, is_in_total_range, size_for_total}
use Rattle.crash_kernel.specs.Places.{fixed_range, low_size, main_range, needs_low_part}
use Rattle.crash_kernel.specs.Reservation.{reserve_crash_area}
use Rattle.crash_kernel.specs.ReservedArea.{HasLowPartIfNeeded, IsCrashArea, IsFreeMemory}
use Rattle.crash_kernel.proofs.TotalLaws.{runs-bytes}

-- 636 KiB without a node, and two nodes of 512 KiB and of 512 KiB plus 2 bytes: the total isn't
-- rounded
abbrev two_nodes : List (RunOf LabelView)
two_nodes = record { base = 0x1000; size = 0x9F000; value = plain_label }
    ∷ (record { base = 0x100000; size = 0x80000; value = with_node (Some 0) plain_label }
    ∷ (record { base = 0x180000; size = 0x80002; value = with_node (Some 1) plain_label }
    ∷ []))

are_runs : AreRuns two_nodes
are_runs = (
  (omega arith),
  (omega arith, λ touch. absurd (omega arith)),
  (
    (omega arith),
    (omega arith, λ touch same. absurd (let e : 0 ≡ 1 = same_Some 0 1 (ap (λ (l : LabelView). l.node) same) in omega arith)),
    ((omega arith), tt, tt),
  ),
)

nothing_after : IsEmptyFrom (2 ^ 64) (value_at two_nodes)
nothing_after x le =
    rw (
      past_end (record { base = 0x1000; size = 0x9F000; value = plain_label }) x (omega arith),
      past_end (record { base = 0x100000; size = 0x80000; value = with_node (Some 0) plain_label }) x (omega arith),
      past_end (record { base = 0x180000; size = 0x80002; value = with_node (Some 1) plain_label }) x (omega arith),
    ) refl

counted : memory_bytes (value_at two_nodes) ≡ 0x19F002
counted = runs-bytes two_nodes are_runs nothing_after

-- the start of a range is in it, its end isn't
abbrev middle : CrashRange
middle = record { start = 0x10000000; end = Some 0x20000000; size = 0x1000000 }

abbrev open_range : CrashRange
open_range = record { start = 0x20000000; end = None; size = 0x4000000 }

in_examples : (is_in_total_range 0xFFFFFFF middle ≡ false) × (is_in_total_range 0x10000000 middle ≡ true)
    × (is_in_total_range 0x1FFFFFFF middle ≡ true)
    × (is_in_total_range 0x20000000 middle ≡ false) × (is_in_total_range 0xFFFFFFFFFFFF open_range ≡ true)
in_examples = (refl, refl, refl, refl, refl)

-- the first range that contains the total counts; if no range does, nothing is requested
size_examples : (size_for_total 0x18000000 (middle ∷ (record { start = 0; end = None; size = 7 } ∷ [])) ≡ 0x1000000)
    × (size_for_total 0x20000000 (middle ∷ (open_range ∷ [])) ≡ 0x4000000) × (size_for_total 0x1000 (middle ∷ (open_range ∷ [])) ≡ 0)
size_examples = (refl, refl, refl)

-- the high form counts only if the plain form requests no byte
abbrev both_forms : CrashOptionView
both_forms = record { plain = Some (one_range 0x4000000 0); high = Some 0x8000000; low = None }

area_examples : (request_for 0x40000000 both_forms ≡ Some (record { size = 0x4000000; placement = placement.Automatic }))
    × (request_for 0x40000000 (record both_forms { plain = Some (one_range 0 0x2000000) })
    ≡ Some (record { size = 0x8000000; placement = placement.High }))
    × (request_for 0x1000 (record both_forms { plain = Some (record { ranges = middle ∷ []; base = 0 }) })
    ≡ Some (record { size = 0x8000000; placement = placement.High }))
    × (request_for 0x40000000 (record { plain = None; high = Some 0; low = Some 0x1000 }) ≡ None)
unfolding request_for
area_examples = (refl, refl, refl, refl)

-- Three layouts of memory at 1 MiB: three bytes; three bytes of which one is claimed; and three
-- bytes of which the last two are of node 1.
abbrev three : List Item
three = item.Mem (record { base = 0x100000; size = 3 }) ∷ []

abbrev claimed_one : List Item
claimed_one = item.Mem (record { base = 0x100000; size = 3 }) ∷ (item.Claim (record { base = 0x100001; size = 1 }) owner.Initrd ∷ [])

abbrev noded_bytes : List Item
noded_bytes = item.Mem (record { base = 0x100000; size = 3 }) ∷ (item.Node (record { base = 0x100001; size = 2 }) 1 ∷ [])

-- Two bytes fit, and four don't. Two don't fit if one of them is claimed or of another node, if the
-- base isn't a multiple of 1 MiB, or if the range ends at 2^64.
fixed_examples : (fixed_range 0x100000 2 three ≡ Some (record { base = 0x100000; size = 2 }))
    × (main_range 2 (placement.Fixed 0x100000) three ≡ Some (record { base = 0x100000; size = 2 }))
    × (fixed_range 0x100000 4 three ≡ None) × (fixed_range 0x100000 2 claimed_one ≡ None) × (fixed_range 0x100001 2 three ≡ None)
    × (fixed_range 0xFFFFFFFFFFF00000 0x100000 three ≡ None) × (fixed_range 0x100000 2 noded_bytes ≡ None)
unfolding main_range fits fits_in each_in each_from
fixed_examples = (refl, refl, refl, refl, refl, refl, refl)

-- free memory of two bytes, and a two-byte area in it that needs no low part
abbrev two_bytes : RangeView
two_bytes = record { base = 0x100000; size = 2 }

two_are_free : IsFreeMemory three two_bytes
two_are_free = record {
  label = plain_label;
  memory = λ x at. let inside : covers (record { base = 0x100000; size = 3 }) x ≡ true = grind (arith, nat_tests, at) in rw inside refl;
  free = λ x at. refl;
}

claimed_is_not_free : IsFreeMemory claimed_one two_bytes → ⊥
claimed_is_not_free known = let free : Some owner.Initrd ≡ None = known.free 0x100001 refl in cc

abbrev two_asked : CrashOptionView
two_asked = record { plain = Some (one_range 2 0x100000); high = None; low = None }

two_are_asked : (total : ℕ) → request_for total two_asked ≡ Some (record { size = 2; placement = placement.Fixed 0x100000 })
unfolding request_for
two_are_asked total = let any : nat_le 0 total ≡ true = grind (arith, nat_tests) in rw any refl

two_told : IsCrashArea two_asked three two_bytes None
two_told = record {
  placement = placement.Fixed 0x100000;
  size = two_are_asked (memory_bytes (memory_of three));
  free = two_are_free;
  aligned = refl;
  low_part = refl;
}

low_part_wanting : HasLowPartIfNeeded two_asked three (record { base = 0x100000000; size = 2 }) None → ⊥
low_part_wanting known = let clash : true ≡ false = known in cc

-- an area that ends past 4 GiB needs a low part only if it begins at or above 4 GiB; the default
-- size is 256 MiB, and size 0 means none
low_examples : (needs_low_part (record { base = 0xFF000000; size = 0x2000000 }) 0x10000000 ≡ false)
    × (needs_low_part (record { base = 0x100000000; size = 0x2000000 }) 1 ≡ true)
    × (needs_low_part (record { base = 0x100000000; size = 0x2000000 }) 0 ≡ false)
    × (low_size no_crash ≡ 0x10000000) × (low_size (record no_crash { low = Some 0 }) ≡ 0)
low_examples = (refl, refl, refl, refl, refl)

-- without a request the stage does nothing, whatever the items
nothing_asked : (items : List Item) → reserve_crash_area no_crash items ≡ return_value crash.Nothing items
unfolding reserve_crash_area request_for
nothing_asked items = refl
