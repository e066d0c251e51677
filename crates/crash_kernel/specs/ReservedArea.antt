-- What is true of a crash area that was reserved: it was free memory, and has a low part exactly if
-- it lies at or above 4 GiB and the low size isn't 0.
use Rattle.std.specs.Prelude.{◌≡◌, ℕ, ◌%◌, ◌^◌, ◌≤◌, true, false, Option, Some, None, List}
use Rattle.bm_base.specs.Range.{RangeView, covers, end_of}
use Rattle.memblock_model.specs.declared.item.Item.{Item}
use Rattle.memblock_model.specs.declared.owner.Owner.TheVariants as owner
use Rattle.memblock_model.specs.Items.{memory_of, owner_of}
use Rattle.memblock_model.specs.Labels.{LabelView}
use Rattle.growth_model.specs.Growth.{claim_range}
use Rattle.growth_model.specs.Tables.{IsUnclaimed}
use Rattle.stage_steps.specs.Steps.{items_after_step}
use Rattle.stage_steps.specs.Requests.{make_change}
use Rattle.boot_options.specs.Crash.{CrashOptionView}
use Rattle.crash_kernel.specs.declared.request.AreaRequest.{AreaRequest}
use Rattle.crash_kernel.specs.declared.request.Placement.{Placement}
use Rattle.crash_kernel.specs.Total.{memory_bytes}
use Rattle.crash_kernel.specs.Request.{request_for}
use Rattle.crash_kernel.specs.Places.{low_size, needs_low_part}

-- every byte of the range is memory that nobody has claimed, and all bytes have one label: one
-- node, and either all are mirrored or none
pub record IsFreeMemory (items : List Item) (r : RangeView) : Type 0 where
  pub label : LabelView
  pub memory : (x : ℕ) → covers r x ≡ true → memory_of items x ≡ Some label
  pub free : IsUnclaimed (owner_of items) r

-- the items after the claim of the area `main`
abbrev pub items_after_claim : RangeView → List Item → List Item
items_after_claim main items = items_after_step items (make_change (claim_range main owner.Crash) items)

-- the low part has the requested size, ends at or below 4 GiB, and was still free after the area
-- was claimed
pub record IsLowPart (asked : CrashOptionView) (items : List Item) (main low : RangeView) : Type 0 where
  pub size : low.size ≡ low_size asked
  pub free : IsFreeMemory (items_after_claim main items) low
  pub within : end_of low ≤ 2 ^ 32

-- an area has a low part exactly if it lies at or above 4 GiB and the low size isn't 0
abbrev pub HasLowPartIfNeeded : CrashOptionView → List Item → RangeView → Option RangeView → Type 0
HasLowPartIfNeeded asked items main None = needs_low_part main (low_size asked) ≡ false
HasLowPartIfNeeded asked items main (Some low) = (needs_low_part main (low_size asked) ≡ true) × IsLowPart asked items main low

-- the area has the size of this request, begins at a multiple of 1 MiB, and was free memory of one
-- node; it has a low part if it needs one
pub record IsAreaFor (request : Option AreaRequest) (asked : CrashOptionView) (items : List Item) (main : RangeView)
    (low : Option RangeView) : Type 0 where
  pub placement : Placement
  pub size : request ≡ Some (record { size = main.size; placement = placement })
  pub free : IsFreeMemory items main
  pub aligned : main.base % 0x100000 ≡ 0
  pub low_part : HasLowPartIfNeeded asked items main low

-- the area has the size that `crashkernel=` requests by `bootmem`'s own rule, begins at a multiple
-- of 1 MiB, and was free memory of one node
abbrev pub IsCrashArea : CrashOptionView → List Item → RangeView → Option RangeView → Type 0
IsCrashArea asked items main low = IsAreaFor (request_for (memory_bytes (memory_of items)) asked) asked items main low
