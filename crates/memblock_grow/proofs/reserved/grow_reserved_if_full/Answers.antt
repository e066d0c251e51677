use Rattle.std.proofs.Common.{refl, sym, ◌∙◌}
use Rattle.memblock_model.specs.declared.owner.Which.TheVariants as which
use Rattle.growth_model.specs.Growth.{is_full, reserved_growth}
use Rattle.growth_model.proofs.EndLaws.{EndsAsChange-due, EndsAsChange-idle}
use Rattle.memblock_grow.specs.NewRecords.{new_records_by_items}
use Rattle.memblock_grow.proofs.MoreLaws.{full-is, full-begun}
use Rattle.memblock_grow.proofs.ReservedLaws.{still-bytes}
use Rattle.memblock_grow.proofs.reserved.grow_reserved_if_full.Goals as goal

pub grow_reserved-requires-clause-begun : goal.grow_reserved-requires-clause-begun
grow_reserved-requires-clause-begun c =
    full-begun c.args.more.now c.args.journal.now.items c.lacks_room.ensures.within
    (sym (full-is c.requires.1.kept which.Reserved c.args.more.now) ∙ sym c.lacks_room.ensures.full ∙ c.if-lacks_room.true)

pub returns-then-lacks_room-clause-ends : goal.returns-then-lacks_room-clause-ends
returns-then-lacks_room-clause-ends c =
    EndsAsChange-due _ _ _ (is_full which.Reserved (new_records_by_items which.Reserved c.args.more.now)) (reserved_growth c.args.avoid)
    (sym (full-is c.requires.1.kept which.Reserved c.args.more.now) ∙ sym c.lacks_room.ensures.full ∙ c.if-lacks_room.true)
    c.grow_reserved.ensures.ends

pub returns-else-lacks_room-clause-ends : goal.returns-else-lacks_room-clause-ends
returns-else-lacks_room-clause-ends c =
    EndsAsChange-idle {T = Unit {0}} tt _ (is_full which.Reserved (new_records_by_items which.Reserved c.args.more.now))
    (reserved_growth c.args.avoid)
    (sym (full-is c.requires.1.kept which.Reserved c.args.more.now) ∙ sym c.lacks_room.ensures.full ∙ c.if-lacks_room.false)

pub returns-else-lacks_room-clause-bytes : goal.returns-else-lacks_room-clause-bytes
returns-else-lacks_room-clause-bytes c = still-bytes c.args.tables.now refl (λ x. refl)
