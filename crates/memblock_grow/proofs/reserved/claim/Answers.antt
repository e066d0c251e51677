use Rattle.std.proofs.Common.{refl}
use Rattle.memblock_model.specs.declared.owner.Which.TheVariants as which
use Rattle.memblock_model.specs.declared.item.Item.TheVariants as item
use Rattle.growth_model.specs.Growth.{reserved_growth, count_uncovered_pieces, make_table_room, claim_range}
use Rattle.growth_model.proofs.ToldLaws.{edit-told}
use Rattle.memblock_grow.proofs.KeptLaws.{kept-claim}
use Rattle.memblock_grow.proofs.PreparedLaws.{prepares-item}
use Rattle.memblock_grow.proofs.ChangeLaws.{change-fails, change-wants, change-done, change-bytes}
use Rattle.memblock_grow.proofs.reserved.claim.Goals as goal

pub returns-in_err-make_reserved_room-clause-ends : goal.returns-in_err-make_reserved_room-clause-ends
unfolding claim_range
returns-in_err-make_reserved_room-clause-ends c =
    change-fails (make_table_room which.Reserved (count_uncovered_pieces which.Reserved c.args.range) (reserved_growth c.args.range))
    (item.Claim c.args.range c.args.owner) _ _ _ _ c.from_residual.ensures.1 c.in_err-make_reserved_room.ensures.ends

pub returns-in_err-push-clause-ends : goal.returns-in_err-push-clause-ends
unfolding claim_range
returns-in_err-push-clause-ends c =
    change-wants (make_table_room which.Reserved (count_uncovered_pieces which.Reserved c.args.range) (reserved_growth c.args.range))
    (item.Claim c.args.range c.args.owner) _ _ _ _ c.from_residual-in_err-push.ensures.1
    c.in_ok-make_reserved_room.ensures.ends (λ k. (c.in_err-push.ensures.err k).items)

pub returns-clause-ends : goal.returns-clause-ends
unfolding claim_range
returns-clause-ends c =
    change-done (make_table_room which.Reserved (count_uncovered_pieces which.Reserved c.args.range) (reserved_growth c.args.range))
    (item.Claim c.args.range c.args.owner) _ _ _ c.in_ok-make_reserved_room.ensures.ends c.in_ok-push.ensures.ok

pub returns-clause-kept : goal.returns-clause-kept
returns-clause-kept c = λ kernel kept.
    rw c.in_ok-push.ensures.ok (kept-claim (c.make_reserved_room.ensures.kept kernel kept) c.insert.new.self c.args.range c.args.owner
    c.range_end_fits.ensures c.in_ok-make_reserved_room.ensures.room c.insert.ensures.table c.insert.ensures.other)

pub returns-clause-bytes : goal.returns-clause-bytes
returns-clause-bytes c =
    change-bytes (item.Claim c.args.range c.args.owner) c.make_reserved_room.new.tables c.in_ok-push.ensures.ok (λ kernel x. refl)
    (returns-clause-kept c)
    (edit-told which.Reserved c.make_reserved_room.new.tables c.insert.new.self _ c.insert.ensures.table c.insert.ensures.elsewhere
    c.tables_are_in_store.ensures.memory c.tables_are_in_store.ensures.reserved) c.make_reserved_room.ensures.bytes

pub returns-clause-prepared : goal.returns-clause-prepared
returns-clause-prepared c =
    prepares-item (item.Claim c.args.range c.args.owner) c.make_reserved_room.ensures.prepared c.in_ok-push.ensures.ok (λ x. refl)
    c.insert.ensures.ready
