use Rattle.std.proofs.Common.{refl, sym, ◌∙◌}
use Rattle.memblock_model.specs.declared.owner.Which.TheVariants as which
use Rattle.growth_model.specs.Growth.{is_full, memory_growth}
use Rattle.growth_model.proofs.EndLaws.{EndsAsChange-due, EndsAsChange-idle}
use Rattle.memblock_grow.specs.NewRecords.{new_records_by_items}
use Rattle.memblock_grow.proofs.MoreLaws.{full-is}
use Rattle.memblock_grow.proofs.ReservedLaws.{still-bytes}
use Rattle.memblock_grow.proofs.memory.grow_memory_if_full.Goals as goal

pub returns-then-lacks_room-clause-ends : goal.returns-then-lacks_room-clause-ends
returns-then-lacks_room-clause-ends c =
    EndsAsChange-due _ _ _ (is_full which.Memory (new_records_by_items which.Memory c.args.more.now)) memory_growth
    (sym (full-is c.requires.kept.1.kept which.Memory c.args.more.now) ∙ sym c.lacks_room.ensures.full ∙ c.if-lacks_room.true)
    c.grow_memory.ensures.ends

pub returns-else-lacks_room-clause-ends : goal.returns-else-lacks_room-clause-ends
returns-else-lacks_room-clause-ends c =
    EndsAsChange-idle {T = Unit {0}} tt _ (is_full which.Memory (new_records_by_items which.Memory c.args.more.now)) memory_growth
    (sym (full-is c.requires.kept.1.kept which.Memory c.args.more.now) ∙ sym c.lacks_room.ensures.full ∙ c.if-lacks_room.false)

pub returns-else-lacks_room-clause-bytes : goal.returns-else-lacks_room-clause-bytes
returns-else-lacks_room-clause-bytes c = still-bytes c.args.tables.now refl (λ x. refl)
