use Rattle.std.proofs.Common.{arith}
use Rattle.memblock_model.specs.declared.owner.Which.TheVariants as which
use Rattle.growth_model.specs.Change.{if_due}
use Rattle.growth_model.specs.Growth.{is_full, reserved_growth}
use Rattle.growth_model.proofs.EndLaws.{EndsAsChange-second}
use Rattle.growth_model.proofs.SoundLaws.{once-stands}
use Rattle.memblock_grow.specs.NewRecords.{new_records_by_items}
use Rattle.memblock_grow.proofs.MoreLaws.{full-begun, reserved-enough, room-after}
use Rattle.memblock_grow.proofs.PreparedLaws.{prepares-then}
use Rattle.memblock_grow.proofs.WholeLaws.{whole-on, keeps-then, bytes-then}
use Rattle.memblock_grow.proofs.reserved.make_reserved_room.Goals as goal

pub grow_reserved_if_full-requires-2 : goal.grow_reserved_if_full-requires-2
grow_reserved_if_full-requires-2 c =
    let first = c.grow_reserved_if_full in (
      c.requires.0,
      whole-on c.requires.1 first.ensures.kept first.ensures.bytes
          (once-stands _ c.args.avoid _ _ _ (new_records_by_items which.Reserved c.args.more.now)
          (full-begun c.args.more.now c.args.journal.now.items
          first.ensures.within) c.requires.1.placed first.ensures.ends),
    )

pub returns-clause-ends : goal.returns-clause-ends
returns-clause-ends c =
    let once = if_due (is_full which.Reserved (new_records_by_items which.Reserved c.args.more.now)) (reserved_growth c.args.avoid) in
    EndsAsChange-second {T = Unit {0}} tt _ _ _ _ once once c.in_ok-grow_reserved_if_full.ensures.ends
    c.grow_reserved_if_full-2.ensures.ends

pub returns-clause-kept : goal.returns-clause-kept
returns-clause-kept c = keeps-then c.grow_reserved_if_full.ensures.kept c.grow_reserved_if_full-2.ensures.kept

pub returns-clause-bytes : goal.returns-clause-bytes
returns-clause-bytes c =
    bytes-then c.grow_reserved_if_full-2.new.tables c.grow_reserved_if_full.ensures.kept c.grow_reserved_if_full.ensures.bytes
    c.grow_reserved_if_full-2.ensures.bytes

pub returns-clause-prepared : goal.returns-clause-prepared
returns-clause-prepared c = prepares-then c.grow_reserved_if_full.ensures.prepared c.grow_reserved_if_full-2.ensures.prepared

pub returns-clause-room : goal.returns-clause-room
returns-clause-room c =
    let kept = c.requires.1.kept in
    room-after which.Reserved c.args.more.now (reserved_growth c.args.avoid) c.args.journal.now.items c.grow_reserved_if_full-2.result
    (reserved-enough kept (omega arith) c.args.more.now c.args.avoid c.grow_reserved_if_full.ensures.within) (returns-clause-ends c)
    (returns-clause-kept c c.requires.0 kept)
