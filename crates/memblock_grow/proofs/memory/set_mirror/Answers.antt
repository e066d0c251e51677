use Rattle.std.proofs.Common.{refl}
use Rattle.memblock_model.specs.declared.owner.Which.TheVariants as which
use Rattle.memblock_model.specs.declared.item.Item.TheVariants as item
use Rattle.growth_model.specs.Growth.{memory_growth, max_records_added_by_split, make_table_room, set_range_mirror}
use Rattle.growth_model.proofs.ToldLaws.{edit-told}
use Rattle.memblock_grow.proofs.KeptLaws.{kept-mirror}
use Rattle.memblock_grow.proofs.PreparedLaws.{prepares-item, by-item}
use Rattle.memblock_grow.proofs.ChangeLaws.{change-fails, change-wants, change-done, change-bytes}
use Rattle.memblock_grow.proofs.memory.set_mirror.Goals as goal

pub returns-in_err-make_memory_room-clause-ends : goal.returns-in_err-make_memory_room-clause-ends
unfolding set_range_mirror
returns-in_err-make_memory_room-clause-ends c =
    change-fails (make_table_room which.Memory max_records_added_by_split memory_growth)
    (item.Mirror c.args.range) _ _ _ _ c.from_residual.ensures.1
    c.in_err-make_memory_room.ensures.ends

pub returns-in_err-push-clause-ends : goal.returns-in_err-push-clause-ends
unfolding set_range_mirror
returns-in_err-push-clause-ends c =
    change-wants (make_table_room which.Memory max_records_added_by_split memory_growth)
    (item.Mirror c.args.range) _ _ _ _ c.from_residual-in_err-push.ensures.1
    c.in_ok-make_memory_room.ensures.ends (λ k. (c.in_err-push.ensures.err k).items)

pub returns-in_err-push-clause-prepared : goal.returns-in_err-push-clause-prepared
returns-in_err-push-clause-prepared c =
    by-item c.from_residual-in_err-push.result (λ k. (c.in_err-push.ensures.err k).items)
    c.in_ok-make_memory_room.ensures.prepared

pub returns-clause-ends : goal.returns-clause-ends
unfolding set_range_mirror
returns-clause-ends c =
    change-done (make_table_room which.Memory max_records_added_by_split memory_growth)
    (item.Mirror c.args.range) _ _ _ c.in_ok-make_memory_room.ensures.ends
    c.in_ok-push.ensures.ok

pub returns-clause-kept : goal.returns-clause-kept
returns-clause-kept c = λ kernel kept.
    rw c.in_ok-push.ensures.ok (kept-mirror (c.make_memory_room.ensures.kept kernel kept) c.set_mirror.new.self c.args.range
    c.range_end_fits.ensures c.in_ok-make_memory_room.ensures.room c.set_mirror.ensures.memory c.set_mirror.ensures.reserved)

pub returns-clause-bytes : goal.returns-clause-bytes
returns-clause-bytes c =
    change-bytes (item.Mirror c.args.range) c.make_memory_room.new.tables c.in_ok-push.ensures.ok (λ kernel x. refl)
    (returns-clause-kept c)
    (edit-told which.Memory c.make_memory_room.new.tables c.set_mirror.new.self _ c.set_mirror.ensures.memory c.set_mirror.ensures.elsewhere
    c.tables_are_in_store.ensures.memory c.tables_are_in_store.ensures.reserved) c.make_memory_room.ensures.bytes

pub returns-clause-prepared : goal.returns-clause-prepared
returns-clause-prepared c =
    prepares-item (item.Mirror c.args.range) c.in_ok-make_memory_room.ensures.prepared c.in_ok-push.ensures.ok (λ x. refl)
    c.set_mirror.ensures.ready
