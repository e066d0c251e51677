-- Examples of small lists of items, computed: whether a table doubled, and whether it has room.
use Rattle.std.proofs.Common.{◌≡◌, ◌+◌, ◌^◌, true, false, [], ◌∷◌, refl, sym, ◌∙◌, ap, arith}
use Rattle.std.proofs.lemmas.Bool.{true≢false}
use Rattle.std.proofs.lemmas.Bool.Decides.{nat_tests}
use Rattle.memblock_model.specs.declared.owner.Which.TheVariants as which
use Rattle.memblock_model.specs.declared.item.Item.TheVariants as item
use Rattle.memblock_model.specs.Tables.{records_of}
use Rattle.growth_model.specs.Change.{ChangeEffect, items_after_change, no_change}
use Rattle.growth_model.specs.Growth.{is_full, make_table_room}
use Rattle.growth_model.specs.Room.{IsInAddressSpace, DoublesRoom, HasRoomAfter}
use Rattle.growth_model.proofs.FirstLaws.{nothing_said}

in_space : IsInAddressSpace []
in_space = record { ends = λ w x le. nothing_said w x; limit = omega arith }

limit_too_high : IsInAddressSpace (item.Limit (2 ^ 64 + 1) ∷ []) → ⊥
limit_too_high space = let limit = space.limit in omega (arith, limit)

-- a table that moved has twice the room, and the other one hasn't
doubled : DoublesRoom which.Memory [] (item.Grown which.Memory 4096 256 ∷ [])
unfolding records_of
doubled = record { room = refl; few = omega arith }

other_stays : DoublesRoom which.Reserved [] (item.Grown which.Memory 4096 256 ∷ []) → ⊥
other_stays doubled = let room = doubled.room in omega (arith, room)

-- growths that do nothing leave a table without room for 129 more records
past_room : is_full which.Memory (λ items. 129) [] ≡ true
past_room = grind (arith, nat_tests)

no_growth : make_table_room which.Memory (λ items. 129) no_change [] ≡ no_change []
no_growth = rw (past_room, past_room) refl

no_room : HasRoomAfter which.Memory (λ items. 129) no_change [] → ⊥
no_room has =
    let clash : is_full which.Memory (λ items. 129) (items_after_change [] (no_change [])) ≡ false =
    rw no_growth at (has (ap (λ (o : ChangeEffect). o.refused) no_growth)) in
    true≢false (sym past_room ∙ clash)
