use Rattle.std.proofs.Common.{arith}
use Rattle.memblock_model.specs.declared.owner.Which.TheVariants as which
use Rattle.growth_model.specs.Change.{if_due}
use Rattle.growth_model.specs.Growth.{is_full, memory_growth}
use Rattle.growth_model.proofs.EndLaws.{EndsAsChange-second}
use Rattle.growth_model.proofs.SoundLaws.{memory_once-stands}
use Rattle.memblock_grow.specs.NewRecords.{new_records_by_items}
use Rattle.memblock_grow.proofs.MoreLaws.{memory-enough, room-after}
use Rattle.memblock_grow.proofs.PreparedLaws.{by-then}
use Rattle.memblock_grow.proofs.WholeLaws.{whole-on, keeps-then, bytes-then}
use Rattle.memblock_grow.proofs.memory.make_memory_room.Goals as goal

pub grow_memory_if_full-requires-2-clause-kept : goal.grow_memory_if_full-requires-2-clause-kept
grow_memory_if_full-requires-2-clause-kept c =
    let first = c.grow_memory_if_full in (
      c.requires.kept.0,
      whole-on c.requires.kept.1 first.ensures.kept first.ensures.bytes
          (memory_once-stands _ _ _ _ (is_full which.Memory (new_records_by_items which.Memory c.args.more.now)) c.requires.kept.1.placed
          c.requires.begun first.ensures.ends),
    )

pub returns-clause-ends : goal.returns-clause-ends
returns-clause-ends c =
    let once = if_due (is_full which.Memory (new_records_by_items which.Memory c.args.more.now)) memory_growth in
    EndsAsChange-second {T = Unit {0}} tt _ _ _ _ once once c.in_ok-grow_memory_if_full.ensures.ends c.grow_memory_if_full-2.ensures.ends

pub returns-clause-kept : goal.returns-clause-kept
returns-clause-kept c = keeps-then c.grow_memory_if_full.ensures.kept c.grow_memory_if_full-2.ensures.kept

pub returns-clause-bytes : goal.returns-clause-bytes
returns-clause-bytes c =
    bytes-then c.grow_memory_if_full-2.new.tables c.grow_memory_if_full.ensures.kept c.grow_memory_if_full.ensures.bytes
    c.grow_memory_if_full-2.ensures.bytes

pub returns-clause-prepared : goal.returns-clause-prepared
returns-clause-prepared c =
    by-then c.grow_memory_if_full-2.result _ _ c.in_ok-grow_memory_if_full.ensures.prepared c.grow_memory_if_full-2.ensures.prepared

pub returns-clause-room : goal.returns-clause-room
returns-clause-room c =
    let kept = c.requires.kept.1.kept in
    room-after which.Memory c.args.more.now memory_growth c.args.journal.now.items c.grow_memory_if_full-2.result
    (memory-enough kept (omega arith) c.args.more.now c.grow_memory_if_full.ensures.within) (returns-clause-ends c)
    (returns-clause-kept c c.requires.kept.0 kept)
