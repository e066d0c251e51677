-- Worked examples of cuts and of the limit on runs.
use Rattle.std.proofs.Common.{◌≡◌, ℕ, true, false, Some, None, List, [], ◌∷◌, length, Ok, Err, refl}
use Rattle.bm_base.specs.Range.{RangeView}
use Rattle.address_runs.specs.Runs.{RunOf}
use Rattle.e820_sanitise.specs.declared.table.MapFault.TheVariants as faults
use Rattle.e820_sanitise.specs.Cuts.{claim_between, claim_between_if_typed, parts_of_claim, is_type_to_cut, type_inside, cut_out, claim_of_entry}
use Rattle.e820_sanitise.specs.Room.{map_if_room}

abbrev range : ℕ → ℕ → RangeView
range base size = record { base = base; size = size }

abbrev run : ℕ → ℕ → ℕ → RunOf ℕ
run base size kind = record { base = base; size = size; value = kind }

claims_between : (claim_between 2 5 1 ≡ run 2 3 1 ∷ []) × (claim_between 5 5 1 ≡ []) × (claim_between 6 5 1 ≡ [])
claims_between = (refl, refl, refl)

claims_or_none : (claim_between_if_typed 2 5 (Some 1) ≡ run 2 3 1 ∷ []) × (claim_between_if_typed 2 5 None ≡ [])
claims_or_none = (refl, refl)

-- a range in the middle of a claim cuts it into three parts, one at its start into two, and one
-- next to it leaves it whole
part_in_the_middle : parts_of_claim (range 4 2) (Some 7) (run 0 10 1) ≡ run 0 4 1 ∷ run 4 2 7 ∷ run 6 4 1 ∷ []
part_in_the_middle = refl

part_at_the_front : parts_of_claim (range 4 2) None (run 5 10 1) ≡ run 6 9 1 ∷ []
part_at_the_front = refl

nothing_inside : (parts_of_claim (range 0 5) (Some 7) (run 5 10 1) ≡ run 5 10 1 ∷ [])
    × (parts_of_claim (range 15 5) (Some 7) (run 5 10 1) ≡ run 5 10 1 ∷ [])
nothing_inside = (refl, refl)

meant_types : (is_type_to_cut None 3 ≡ true) × (is_type_to_cut (Some 3) 3 ≡ true) × (is_type_to_cut (Some 1) 3 ≡ false)
meant_types = (refl, refl, refl)

-- types inside the range: `Change 1 4` of a claim of type 1 and of type 2, and `RemoveAll`
inside_a_change : (type_inside (Some 1) (Some 4) 1 ≡ Some 4) × (type_inside (Some 1) (Some 4) 2 ≡ Some 2) × (type_inside None None 2 ≡ None)
inside_a_change = (refl, refl, refl)

-- RAM is removed in the middle of a claim; the reserved claim there stays, in three parts
ram_removed : cut_out (range 4 2) (Some 1) None (run 0 10 1 ∷ run 0 10 2 ∷ [])
    ≡ run 0 4 1 ∷ run 6 4 1 ∷ run 0 4 2 ∷ run 4 2 2 ∷ run 6 4 2 ∷ []
ram_removed = refl

all_removed : cut_out (range 0 10) None None (run 0 10 1 ∷ run 2 3 2 ∷ []) ≡ []
all_removed = refl

-- an empty entry and one of type 0 have no claim
claims_of_one_entry : (claim_of_entry (record { addr = 4; size = 2; kind = 1 }) ≡ run 4 2 1 ∷ [])
    × (claim_of_entry (record { addr = 4; size = 0; kind = 1 }) ≡ [])
    × (claim_of_entry (record { addr = 4; size = 2; kind = 0 }) ≡ [])
claims_of_one_entry = (refl, refl, refl)

-- a map of 3,201 runs is too long, and the fault states that number; one of 3,200 runs isn't
full_map : (map : List (RunOf ℕ)) → length map ≡ 3201 → map_if_room map ≡ Err (faults.MapFull 3201)
full_map map runs = rw runs refl

room_enough : (map : List (RunOf ℕ)) → length map ≡ 3200 → map_if_room map ≡ Ok map
room_enough map runs = rw runs refl
