-- Ranges that a search found end in its window. A search whose window is exactly one range finds
-- the base of that range.
use Rattle.std.proofs.Common.{◌≡◌, ℕ, ◌+◌, ◌%◌, ◌^◌, ◌<◌, ◌≤◌, ◌==◌, Bool, true, false, nat_lt, if◌then◌else◌, Some, None, List, refl, arith}
use Rattle.std.proofs.lemmas.Bool.Decides.{nat_tests}
use Rattle.memblock_model.specs.declared.owner.Which.TheVariants as which
use Rattle.memblock_model.specs.declared.query.Query.{Query}
use Rattle.memblock_model.specs.declared.item.Item.{Item}
use Rattle.memblock_model.specs.Items.{upward_of}
use Rattle.memblock_model.specs.Tables.{table_of}
use Rattle.memblock_model.specs.Search.{best_place, fits}
use Rattle.memblock_model.proofs.SearchLaws.{best_place_in-fits, best_place_in-none}
use Rattle.growth_model.proofs.FoundLaws.{found-fits}
use Rattle.crash_kernel.specs.Places.{area_query, fixed_range}

pub best_place-within : (items : List Item) (q : Query) (place : ℕ) → best_place items q ≡ Some place → place + q.size ≤ q.hi
best_place-within items q place found = (found-fits items q place found).high

best_fits : (items : List Item) (q : Query) (place : ℕ) → best_place items q ≡ Some place → fits items q false place ≡ true
unfolding best_place fits
best_fits items q place found =
    best_place_in-fits (upward_of items) (table_of which.Memory items) (table_of which.Reserved items) q place found

best_none : (items : List Item) (q : Query) → best_place items q ≡ None → (place : ℕ) → place < 2 ^ 64 → fits items q false place ≡ false
unfolding best_place fits
best_none items q none place lt = best_place_in-none (upward_of items) (table_of which.Memory items) (table_of which.Reserved items)
    q none place lt

-- a search whose window is exactly one range can only find the base of that range
pub exact-base : (items : List Item) (size base place : ℕ) → best_place items (area_query size 1 base (base + size)) ≡ Some place
    → place ≡ base
exact-base items size base place found =
    let known = found-fits items (area_query size 1 base (base + size)) place found in
    let low : base ≤ place = known.low in
    let high : place + size ≤ base + size = known.high in
    omega arith

-- the range at a requested base is what a search of exactly that range finds
fixed_by : (items : List Item) (size base : ℕ) (b : Bool) → base % 0x100000 ≡ 0 → base + size < 2 ^ 64
    → fits items (area_query size 1 base (base + size)) false base ≡ b
    → fixed_range base size items ≡ (if b then Some (record { base = base; size = size }) else None)
fixed_by items size base b aligned small is =
    let one : (base % 0x100000 == 0) ≡ true = grind (arith, nat_tests) in
    let two : nat_lt (base + size) (2 ^ 64) ≡ true = grind (arith, nat_tests) in
    rw (one, two, is) refl

pub fixed-found : (items : List Item) (size base place : ℕ) → base % 0x100000 ≡ 0 → base + size < 2 ^ 64
    → best_place items (area_query size 1 base (base + size)) ≡ Some place
    → fixed_range base size items ≡ Some (record { base = base; size = size })
fixed-found items size base place aligned small found =
    fixed_by items size base true aligned small
    (rw (exact-base items size base place found) at (best_fits items (area_query size 1 base (base + size)) place found))

pub fixed-fails : (items : List Item) (size base : ℕ) → base % 0x100000 ≡ 0 → base + size < 2 ^ 64
    → best_place items (area_query size 1 base (base + size)) ≡ None → fixed_range base size items ≡ None
fixed-fails items size base aligned small none =
    fixed_by items size base false aligned small (best_none items (area_query size 1 base (base + size)) none base (omega arith))
