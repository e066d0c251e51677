use Rattle.std.proofs.Common.{refl}
use Rattle.memblock_model.specs.declared.owner.Which.TheVariants as which
use Rattle.memblock_model.specs.declared.item.Item.TheVariants as item
use Rattle.growth_model.specs.Growth.{reserved_growth, max_records_added_by_split, make_table_room, free_range}
use Rattle.growth_model.proofs.ToldLaws.{edit-told}
use Rattle.memblock_grow.proofs.KeptLaws.{kept-free}
use Rattle.memblock_grow.proofs.PreparedLaws.{prepares-item}
use Rattle.memblock_grow.proofs.ChangeLaws.{change-fails, change-wants, change-done, change-bytes}
use Rattle.memblock_grow.proofs.reserved.free.Goals as goal

pub returns-in_err-make_reserved_room-clause-ends : goal.returns-in_err-make_reserved_room-clause-ends
unfolding free_range
returns-in_err-make_reserved_room-clause-ends c =
    change-fails (make_table_room which.Reserved max_records_added_by_split (reserved_growth c.args.range))
    (item.Free c.args.range) _ _ _ _ c.from_residual.ensures.1
    c.in_err-make_reserved_room.ensures.ends

pub returns-in_err-push-clause-ends : goal.returns-in_err-push-clause-ends
unfolding free_range
returns-in_err-push-clause-ends c =
    change-wants (make_table_room which.Reserved max_records_added_by_split (reserved_growth c.args.range)) (item.Free c.args.range) _ _ _ _
    c.from_residual-in_err-push.ensures.1 c.in_ok-make_reserved_room.ensures.ends (λ k. (c.in_err-push.ensures.err k).items)

pub returns-clause-ends : goal.returns-clause-ends
unfolding free_range
returns-clause-ends c =
    change-done (make_table_room which.Reserved max_records_added_by_split (reserved_growth c.args.range)) (item.Free c.args.range) _ _ _
    c.in_ok-make_reserved_room.ensures.ends c.in_ok-push.ensures.ok

pub returns-clause-kept : goal.returns-clause-kept
returns-clause-kept c = λ kernel kept.
    rw c.in_ok-push.ensures.ok (kept-free (c.make_reserved_room.ensures.kept kernel kept) c.remove.new.self c.args.range
    c.range_end_fits.ensures c.in_ok-make_reserved_room.ensures.room c.remove.ensures.table c.remove.ensures.other)

pub returns-clause-bytes : goal.returns-clause-bytes
returns-clause-bytes c =
    change-bytes (item.Free c.args.range) c.make_reserved_room.new.tables c.in_ok-push.ensures.ok (λ kernel x. refl)
    (returns-clause-kept c)
    (edit-told which.Reserved c.make_reserved_room.new.tables c.remove.new.self _ c.remove.ensures.table c.remove.ensures.elsewhere
    c.tables_are_in_store.ensures.memory c.tables_are_in_store.ensures.reserved) c.make_reserved_room.ensures.bytes

pub returns-clause-prepared : goal.returns-clause-prepared
returns-clause-prepared c =
    prepares-item (item.Free c.args.range) c.make_reserved_room.ensures.prepared c.in_ok-push.ensures.ok (λ x. refl)
    c.remove.ensures.ready
