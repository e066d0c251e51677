use Rattle.std.proofs.Common.{◌≡◌, ◌⊎◌, false, None, IsSome, sym, ◌∙◌, ap, inl, inr, arith}
use Rattle.std.specs.Option.{is_some}
use Rattle.memblock_model.specs.declared.owner.Which.TheVariants as which
use Rattle.memblock_model.specs.declared.owner.Owner.{Owner}
use Rattle.memblock_model.specs.Tables.{room_of}
use Rattle.growth_model.specs.declared.refusal.Refusal.TheVariants as refusal
use Rattle.growth_model.specs.Growth.{is_full, count_uncovered_pieces, place_beside_range, claim_range}
use Rattle.growth_model.proofs.RoomLaws.{free-claimed}
use Rattle.memblock_grow.specs.declared.new_records.MaxNewRecords.TheVariants as more
use Rattle.memblock_grow.proofs.PlaceLaws.{knows-mirrors}
use Rattle.memblock_grow.proofs.MoreLaws.{full-is, space-of}
use Rattle.memblock_grow.proofs.ReservedLaws.{room-some, beside-found, growth-none}
use Rattle.memblock_grow.proofs.ClaimLaws.{claim-refused}
use Rattle.memblock_grow.proofs.reserved.check_claim.Goals as goal
use Rattle.memblock_grow.proofs.reserved.check_claim.Goals.{After-lacks_room}

pub table_frames_beside-requires-clause-some : goal.table_frames_beside-requires-clause-some
table_frames_beside-requires-clause-some c = room-some c.requires.kept.1.kept which.Reserved c.head-head.ensures.head

pub table_frames_beside-requires-clause-mirrors : goal.table_frames_beside-requires-clause-mirrors
table_frames_beside-requires-clause-mirrors c = knows-mirrors c.requires.kept.1.kept

-- the claim isn't refused if the table isn't full for it, or finds a place
unrefused : (c : After-lacks_room) (who : Owner)
    → (is_full which.Reserved (count_uncovered_pieces which.Reserved c.args.range) c.args.journal.now.items ≡ false)
    ⊎ IsSome (place_beside_range c.args.range (room_of which.Reserved c.args.journal.now.items) c.args.journal.now.items)
    → (claim_range c.args.range who c.args.journal.now.items).refused ≡ None
unrefused c who h =
    let kept = c.requires.kept.1.kept in
    let within = c.lacks_room.ensures.within in
    free-claimed c.requires.kept.0 c.args.range who c.args.journal.now.items (space-of kept (omega arith)) kept.fits
    (c.requires.kept.1.placed c.requires.begun) c.requires.some (omega (arith, within)) c.requires.free h

pub returns-then-not-lacks_room-clause-ok : goal.returns-then-not-lacks_room-clause-ok
returns-then-not-lacks_room-clause-ok c = λ who.
    unrefused (goal.at.returns-then-not-lacks_room-clause-ok c).After-lacks_room who
    (inl (sym (full-is c.requires.kept.1.kept which.Reserved (more.PiecesOf c.args.range)) ∙ sym c.if-not-lacks_room.ensures.full))

pub returns-in-Some-clause-ok : goal.returns-in-Some-clause-ok
returns-in-Some-clause-ok c = λ who.
    unrefused (goal.at.returns-in-Some-clause-ok c).After-lacks_room who
    (inr (ap is_some (beside-found c.requires.kept.1.kept {avoid = c.args.range} c.head-head.ensures.head c.table_frames_beside.ensures
    c.in-Some.is).found))

pub returns-in-None-clause-refused : goal.returns-in-None-clause-refused
returns-in-None-clause-refused c = λ who.
    let kept = c.requires.kept.1.kept in
    claim-refused (refusal.NoGapForTable which.Reserved c.head-head.result.room) c.args.range who c.args.journal.now.items
    (sym (full-is kept which.Reserved (more.PiecesOf c.args.range)) ∙ sym c.if-not-lacks_room.ensures.full)
    (growth-none kept c.args.range c.head-head.ensures.head c.table_frames_beside.ensures c.in-None.is)
