-- An area that the stage returns was free, and it has a low part exactly if it needs one.
use Rattle.std.proofs.Common.{◌≡◌, ◌⊎◌, inl, inr, ℕ, ◌+◌, ◌%◌, ◌^◌, ◌≤◌, ◌==◌, Bool, true, false, ◌&&◌, nat_lt, is_some, if◌then◌else◌, Option, Some, None, List, Result, Ok, refl, sym, arith}
use Rattle.std.proofs.lemmas.Bool.{true≢false, and_parts}
use Rattle.std.proofs.lemmas.Bool.Decides.{nat_tests}
use Rattle.std.proofs.lemmas.Option.{none-some, same_Some}
use Rattle.std.specs.Option.{option_map, option_or}
use Rattle.bm_base.specs.Range.{RangeView, covers, end_of}
use Rattle.memblock_model.specs.declared.owner.Which.TheVariants as which
use Rattle.memblock_model.specs.declared.owner.Owner.TheVariants as owner
use Rattle.memblock_model.specs.declared.query.Query.{Query}
use Rattle.memblock_model.specs.declared.item.Item.{Item}
use Rattle.memblock_model.specs.Items.{memory_of, owner_of}
use Rattle.memblock_model.specs.Labels.{LabelView}
use Rattle.memblock_model.specs.Tables.{table_of}
use Rattle.memblock_model.specs.Search.{best_place, fits}
use Rattle.memblock_model.proofs.SearchLaws.{IsPlace, fits_in-parts}
use Rattle.growth_model.specs.Change.{Change, RefusedGrowth}
use Rattle.growth_model.specs.Growth.{claim_range, free_range}
use Rattle.growth_model.specs.Tables.{IsUnclaimed}
use Rattle.growth_model.proofs.FoundLaws.{found-fits, no_owner}
use Rattle.growth_model.proofs.SeatLaws.{covers-from}
use Rattle.stage_steps.specs.Steps.{StageStep, ◌>>=◌, items_after_step, continue_if_ok, return_value}
use Rattle.stage_steps.specs.Requests.{make_change, fail_if_refused}
use Rattle.boot_options.specs.Crash.{CrashOptionView}
use Rattle.crash_kernel.specs.declared.request.AreaRequest.{AreaRequest}
use Rattle.crash_kernel.specs.declared.request.Placement.{Placement}
use Rattle.crash_kernel.specs.declared.request.Placement.TheVariants as placement
use Rattle.crash_kernel.specs.declared.crash.Crash.{Crash}
use Rattle.crash_kernel.specs.declared.crash.Crash.TheVariants as crash
use Rattle.crash_kernel.specs.Total.{memory_bytes}
use Rattle.crash_kernel.specs.Request.{request_by, request_for}
use Rattle.crash_kernel.specs.declared.rule.CrashRule.{CrashRule}
use Rattle.crash_kernel.specs.Places.{area_query, best_range, high_range, low_range, low_size, main_range, needs_low_part, search_failure}
use Rattle.crash_kernel.specs.Reservation.{reserve_low_part, reserve_crash_area, reserve_crash_area_by, reserve_request, claim_low_part, claim_area}
use Rattle.crash_kernel.specs.ReservedArea.{HasLowPartIfNeeded, IsAreaFor, IsCrashArea, IsFreeMemory, items_after_claim}

-- a range that fits is free
free_by : (items : List Item) (r : RangeView) (o : Option LabelView) → is_some o ≡ true
    → ((x : ℕ) → covers r x ≡ true → memory_of items x ≡ o) → IsUnclaimed (owner_of items) r → IsFreeMemory items r
free_by items r None held each free = absurd (true≢false (sym held))
free_by items r (Some label) held each free = record { label = label; memory = each; free = free }

place_free : (items : List Item) (q : Query) (place : ℕ)
    → IsPlace false (table_of which.Memory items) (table_of which.Reserved items) q place
    → IsFreeMemory items (record { base = place; size = q.size })
place_free items q place known =
    let r : RangeView = record { base = place; size = q.size } in
    free_by items r (memory_of items place) known.held
    (λ x at. let inside = covers-from r x at in known.label x inside.0 inside.1)
    (λ x at. let inside = covers-from r x at in no_owner (owner_of items x) (known.free x inside.0 inside.1))

-- a range that a search found: it is free, has the requested size, begins at a multiple of 1 MiB,
-- and ends in its window
record IsMain (items : List Item) (size : ℕ) (r : RangeView) : Type 0 where
  free : IsFreeMemory items r
  sized : r.size ≡ size
  aligned : r.base % 0x100000 ≡ 0

record IsFound (items : List Item) (size hi : ℕ) (r : RangeView) : Type 0 where
  main : IsMain items size r
  within : end_of r ≤ hi

best_by : (items : List Item) (size lo hi : ℕ) (found : Option ℕ) (r : RangeView)
    → best_place items (area_query size 0x1000000 lo hi) ≡ found
    → option_map (λ (base : ℕ). let e : RangeView = record { base = base; size = size } in e) found ≡ Some r → IsFound items size hi r
best_by items size lo hi None r was is = absurd (none-some r is)
best_by items size lo hi (Some place) r was is =
    let known = found-fits items (area_query size 0x1000000 lo hi) place was in
    let here : RangeView = record { base = place; size = size } in
    let free = place_free items (area_query size 0x1000000 lo hi) place known in
    let main : IsMain items size here = record { free = free; sized = refl; aligned = omega (arith, known.aligned) } in
    rw (← same_Some here r is) (record { main = main; within = known.high })

best_found : (items : List Item) (size lo hi : ℕ) (r : RangeView) → best_range size lo hi items ≡ Some r → IsFound items size hi r
best_found items size lo hi r is = best_by items size lo hi (best_place items (area_query size 0x1000000 lo hi)) r refl is

-- the range at a requested base is free if the search of exactly that range succeeds
fits_free : (items : List Item) (size base : ℕ) → fits items (area_query size 1 base (base + size)) false base ≡ true
    → IsFreeMemory items (record { base = base; size = size })
unfolding fits
fits_free items size base h =
    place_free items (area_query size 1 base (base + size)) base
    (fits_in-parts false (table_of which.Memory items) (table_of which.Reserved items) (area_query size 1 base (base + size)) base h)

fixed_by : (items : List Item) (size base : ℕ) (b : Bool) (r : RangeView)
    → ((base % 0x100000 == 0) && nat_lt (base + size) (2 ^ 64) && fits items (area_query size 1 base (base + size)) false base) ≡ b
    → (if b then Some (let e : RangeView = record { base = base; size = size } in e) else None) ≡ Some r → IsMain items size r
fixed_by items size base true r passed is =
    let fit = fits items (area_query size 1 base (base + size)) false base in
    let parts = and_parts ((base % 0x100000 == 0) && nat_lt (base + size) (2 ^ 64)) fit passed in
    let multiple = (and_parts (base % 0x100000 == 0) (nat_lt (base + size) (2 ^ 64)) parts.0).0 in
    let here : RangeView = record { base = base; size = size } in
    rw (← same_Some here r is)
    (record { free = fits_free items size base parts.1; sized = refl; aligned = grind (arith, nat_tests, multiple) })
fixed_by items size base false r passed is = absurd (none-some r is)

or_cases : (a b : Option RangeView) (r : RangeView) → option_or a b ≡ Some r → (a ≡ Some r) ⊎ (b ≡ Some r)
or_cases None b r h = inr h
or_cases (Some x) b r h = inl h

main_found : (items : List Item) (size : ℕ) (where_to : Placement) (r : RangeView) → main_range size where_to items ≡ Some r
    → IsMain items size r
unfolding main_range
main_found items size (placement.Fixed base) r is =
    fixed_by items size base
    ((base % 0x100000 == 0) && nat_lt (base + size) (2 ^ 64) && fits items (area_query size 1 base (base + size)) false base) r refl is
main_found items size placement.Automatic r is =
    elim (or_cases (best_range size 0x1000000 (2 ^ 32) items) (high_range size items) r is) as (λ _. IsMain items size r) [
      | inl low ↦ (best_found items size 0x1000000 (2 ^ 32) r low).main
      | inr high ↦ (best_found items size 0x1000000 (2 ^ 46) r high).main
    ]
main_found items size placement.High r is = (best_found items size 0x1000000 (2 ^ 46) r is).main

-- the outcome of a stage as a result; a refused change has no area
abbrev ok : Crash → Result Crash RefusedGrowth
ok a = Ok a

change_told : (change : Change) (items : List Item) (next : Unit {0} → StageStep RefusedGrowth Crash) (a : Crash)
    → ((make_change change >>= next) items).answer ≡ Ok a → (next tt (items_after_step items (make_change change items))).answer ≡ Ok a
change_told change items next a = by (change items).refused where
  by : (r : Option RefusedGrowth)
      → (continue_if_ok (change items).steps (fail_if_refused r) (λ done.
      next done (items_after_step items (make_change change items)))).answer ≡ Ok a
      → (next tt (items_after_step items (make_change change items))).answer ≡ Ok a
  by None h = h
  by (Some r) h = cc

-- the area after its claim, for each answer of the search for a low part
with_low_told : (asked : CrashOptionView) (items : List Item) (m main : RangeView) (low found : Option RangeView)
    → low_range (low_size asked) (items_after_claim m items) ≡ found → needs_low_part m (low_size asked) ≡ true
    → (claim_low_part m found (items_after_claim m items)).answer ≡ Ok (crash.At main low)
    → HasLowPartIfNeeded asked items m low × (m ≡ main)
unfolding low_range
with_low_told asked items m main low None is needs h =
    let told : ok crash.LowFailed ≡ Ok (crash.At main low) =
    change_told (free_range m) (items_after_claim m items) (λ done. return_value crash.LowFailed) (crash.At main low) h in
    cc
with_low_told asked items m main low (Some l) is needs h =
    let mid = items_after_claim m items in
    let told : ok (crash.At m (Some l)) ≡ Ok (crash.At main low) =
    change_told (claim_range l owner.CrashLow) mid (λ done. return_value (crash.At m (Some l))) (crash.At main low) h in
    let same : m ≡ main = cc in
    let there : Some l ≡ low = cc in
    let found = best_found mid (low_size asked) 0 (2 ^ 32) l is in
    (rw (← there) (needs, record { size = found.main.sized; free = found.main.free; within = found.within }), same)

-- the area if it needs a low part, and if it doesn't
needs_told : (asked : CrashOptionView) (items : List Item) (m main : RangeView) (low : Option RangeView) (b : Bool)
    → needs_low_part m (low_size asked) ≡ b
    → ((if b then reserve_low_part m (low_size asked) else return_value (crash.At m None)) (items_after_claim m items)).answer
    ≡ Ok (crash.At main low)
    → HasLowPartIfNeeded asked items m low × (m ≡ main)
unfolding reserve_low_part
needs_told asked items m main low true is h =
    with_low_told asked items m main low (low_range (low_size asked) (items_after_claim m items)) refl is h
needs_told asked items m main low false is h =
    let told : ok (crash.At m None) ≡ Ok (crash.At main low) = h in
    let same : m ≡ main = cc in
    let there : None ≡ low = cc in
    (rw (← there) is, same)

-- the outcome of a failed search isn't an area
unplaced_told : (s : Placement) (main : RangeView) (low : Option RangeView) → ok (search_failure s) ≡ Ok (crash.At main low) → ⊥
unplaced_told (placement.Fixed base) main low h = cc
unplaced_told placement.Automatic main low h = cc
unplaced_told placement.High main low h = cc

main_told : (request : Option AreaRequest) (asked : CrashOptionView) (items : List Item) (area : AreaRequest) (main : RangeView)
    (low found : Option RangeView) → request ≡ Some area → main_range area.size area.placement items ≡ found
    → (claim_area area (low_size asked) found items).answer ≡ Ok (crash.At main low) → IsAreaFor request asked items main low
main_told request asked items area main low None asks is h = absurd (unplaced_told area.placement main low h)
main_told request asked items area main low (Some m) asks is h =
    let next : Unit {0} → StageStep RefusedGrowth Crash = λ done.
    if needs_low_part m (low_size asked) then reserve_low_part m (low_size asked) else return_value (crash.At m None) in
    let after = needs_told asked items m main low (needs_low_part m (low_size asked)) refl
    (change_told (claim_range m owner.Crash) items next (crash.At main low) h) in
    let known = main_found items area.size area.placement m is in
    rw (← after.1) (record {
      placement = area.placement;
      size = rw known.sized asks;
      free = known.free;
      aligned = known.aligned;
      low_part = after.0;
    })

area_told : (asked : CrashOptionView) (items : List Item) (main : RangeView) (low : Option RangeView) (request : Option AreaRequest)
    → (reserve_request (low_size asked) request items).answer ≡ Ok (crash.At main low) → IsAreaFor request asked items main low
area_told asked items main low None h = let told : ok crash.Nothing ≡ Ok (crash.At main low) = h in cc
area_told asked items main low (Some area) h =
    main_told (Some area) asked items area main low (main_range area.size area.placement items) refl refl h

pub reserve_crash_area-told : (asked : CrashOptionView) (items : List Item) (main : RangeView) (low : Option RangeView)
    → (reserve_crash_area asked items).answer ≡ Ok (crash.At main low) → IsCrashArea asked items main low
unfolding reserve_crash_area
reserve_crash_area-told asked items main low h =
    area_told asked items main low (request_for (memory_bytes (memory_of items)) asked) h

pub reserve_crash_area_by-told : (rule : CrashRule) (added : ℕ) (asked : CrashOptionView) (items : List Item) (main : RangeView)
    (low : Option RangeView) → (reserve_crash_area_by rule added asked items).answer ≡ Ok (crash.At main low)
    → IsAreaFor (request_by rule (memory_bytes (memory_of items)) added asked) asked items main low
unfolding reserve_crash_area_by
reserve_crash_area_by-told rule added asked items main low h =
    area_told asked items main low (request_by rule (memory_bytes (memory_of items)) added asked) h
