use Rattle.std.proofs.Common.{◌≡◌, ◌*◌, ◌^◌, ◌<◌, refl, ap, subst}
use Rattle.bm_base.specs.Range.{RangeView, end_of}
use Rattle.memblock_model.specs.declared.owner.Which.TheVariants as which
use Rattle.memblock_model.specs.Tables.{room_of, moved_to}
use Rattle.growth_model.specs.Growth.{old_frames}
use Rattle.growth_model.proofs.PlacedMemoryLaws.{IsTaken}
use Rattle.memblock_grow.specs.Invariant.{KeepsTables, BytesFollowItems}
use Rattle.memblock_grow.specs.Prepared.{Prepares}
use Rattle.growth_model.proofs.ToldLaws.{move-told}
use Rattle.memblock_grow.proofs.WholeLaws.{keeps-then, bytes-then}
use Rattle.memblock_grow.proofs.PreparedLaws.{with-growth, prepares-then, by-exact}
use Rattle.memblock_grow.proofs.PlaceLaws.{knows-mirrors, left-far}
use Rattle.memblock_grow.proofs.ReservedLaws.{room-some, frames-some, items_freeing_old_place-found, twice-is, still-bytes}
use Rattle.memblock_grow.proofs.MemoryLaws.{IsBest, best_place-found, best_place-free, memory-none, memory-fails, memory-wants, memory-done, best_place-taken, MovedMemory, memory-apart, memory-keeps, memory-tells, memory-free, left-some}
use Rattle.memblock_grow.proofs.memory.grow_memory.Goals as goal
use Rattle.memblock_grow.proofs.memory.grow_memory.Goals.{In-Some, In_ok-claim_new_place, After-tables_are_in_store}

-- the place was found below the limit
found : (c : In-Some) → IsBest c.args.journal.now.items c.in-Some.place
found c = best_place-found c.requires.kept.1.kept c.head-head.ensures.head c.table_frames_between.ensures c.in-Some.is

-- after the claim of the place no other owner has it
taken : (c : In_ok-claim_new_place) → IsBest c.args.journal.now.items c.in-Some.place
    → IsTaken c.requires.kept.0 c.claim_new_place.new.journal.items (room_of which.Memory c.args.journal.now.items)
    (moved_to which.Memory c.args.journal.now.items) c.in-Some.place.base
taken c known =
    best_place-taken known c.requires.kept.0 c.claim_new_place.new.journal.items (c.requires.kept.1.placed c.requires.begun)
    c.in_ok-claim_new_place.ensures.ends

-- the state after the table has moved there
record HasMoved (c : After-tables_are_in_store) : Type 0 where
  tables : MovedMemory c.args.journal.now.items c.args.tables.now c.claim_new_place.new.tables c.relocate.new.self c.place.inside.base
      c.in-Some.place
  left : c.old_place_frames-old.result
      ≡ old_frames (room_of which.Memory c.args.journal.now.items) (moved_to which.Memory c.args.journal.now.items)
  twice : 2 * c.head-head.result.room ≡ 2 * room_of which.Memory c.args.journal.now.items
  kept : KeepsTables c.args.journal.now.items c.args.tables.now c.push.new.self.items c.relocate.new.self c.args.aim
  bytes : BytesFollowItems c.args.journal.now.items c.args.tables.now c.push.new.self.items c.relocate.new.self c.args.aim
  prepared : Prepares c.args.journal.now.items c.push.new.self.items c.args.tables.now.store c.relocate.new.self.store

moved : (c : After-tables_are_in_store) → IsBest c.args.journal.now.items c.in-Some.place → HasMoved c
moved c known =
    let tables : MovedMemory c.args.journal.now.items c.args.tables.now c.claim_new_place.new.tables c.relocate.new.self c.place.inside.base
    c.in-Some.place = record {
      claimed = c.claim_new_place.ensures.memory;
      table = c.relocate.ensures.table;
      other = c.relocate.ensures.other;
      told = move-told which.Memory c.claim_new_place.new.tables c.relocate.new.self c.relocate.ensures.left c.relocate.ensures.elsewhere
          c.tables_are_in_store.ensures.memory c.tables_are_in_store.ensures.reserved;
      here = ap (λ (e : RangeView). e.base) c.place.view_is;
      is = known.is;
      ends = subst (λ (e : RangeView). end_of e < 2 ^ 64) c.place.view_is c.place.invariant;
    } in
    let twice = twice-is c.requires.kept.1.kept which.Memory c.head-head.ensures.head in
    let room = 2 * c.head-head.result.room in
    let next = c.in_ok-push.ensures.ok in
    record {
      tables = tables;
      left = items_freeing_old_place-found c.requires.kept.1.kept which.Memory c.head-head.ensures.head c.old_place_frames-old.ensures;
      twice = twice;
      kept = memory-keeps c.place.inside.base room tables c.claim_new_place.ensures.kept next;
      bytes = memory-tells c.place.inside.base room tables c.claim_new_place.ensures.kept next c.claim_new_place.ensures.bytes;
      prepared = with-growth which.Memory (room_of which.Memory c.args.journal.now.items) c.in_ok-claim_new_place.ensures.prepared next
          tables.here twice known.is c.relocate.ensures.ready;
    }

pub table_frames_between-requires-clause-some : goal.table_frames_between-requires-clause-some
table_frames_between-requires-clause-some c = room-some c.requires.kept.1.kept which.Memory c.head-head.ensures.head

pub table_frames_between-requires-clause-mirrors : goal.table_frames_between-requires-clause-mirrors
table_frames_between-requires-clause-mirrors c = knows-mirrors c.requires.kept.1.kept

pub returns-in_default-clause-ends : goal.returns-in_default-clause-ends
returns-in_default-clause-ends c =
    memory-none c.requires.kept.1.kept c.head-head.ensures.head c.table_frames_between.ensures c.in_default.is

pub returns-in_default-clause-bytes : goal.returns-in_default-clause-bytes
returns-in_default-clause-bytes c = still-bytes c.args.tables.now refl (λ x. refl)

pub old_place_frames-old-requires : goal.old_place_frames-old-requires
old_place_frames-old-requires c = record { far = rw c.head-head.ensures.head (left-far c.requires.kept.1.kept which.Memory) }

pub claim_new_place-requires-clause-some : goal.claim_new_place-requires-clause-some
claim_new_place-requires-clause-some c =
    frames-some which.Memory c.args.journal.now.items (found (goal.at.claim_new_place-requires-clause-some c).In-Some).is

pub claim_new_place-requires-clause-free : goal.claim_new_place-requires-clause-free
claim_new_place-requires-clause-free c = best_place-free (found (goal.at.claim_new_place-requires-clause-free c).In-Some)

pub returns-in_err-claim_new_place-clause-ends : goal.returns-in_err-claim_new_place-clause-ends
returns-in_err-claim_new_place-clause-ends c =
    memory-fails (found (goal.at.returns-in_err-claim_new_place-clause-ends c).In-Some) _ _ _ c.from_residual.ensures.1
    c.in_err-claim_new_place.ensures.ends

pub returns-in_err-push-clause-ends : goal.returns-in_err-push-clause-ends
returns-in_err-push-clause-ends c =
    memory-wants (found (goal.at.returns-in_err-push-clause-ends c).In-Some) _ _ _ c.from_residual-in_err-push.ensures.1
    c.in_ok-claim_new_place.ensures.ends
    (λ k. (c.in_err-push.ensures.err k).items)

pub relocate-requires-clause-apart : goal.relocate-requires-clause-apart
relocate-requires-clause-apart c =
    let at = goal.at.relocate-requires-clause-apart c in
    memory-apart c.in-Some.place c.requires.kept.1.kept (c.claim_new_place.ensures.kept c.requires.kept.0 c.requires.kept.1.kept)
    c.claim_new_place.ensures.memory (ap (λ (e : RangeView). e.base) c.place.view_is) (taken at.In_ok-claim_new_place (found at.In-Some))

pub free_old_place-requires-clause-some : goal.free_old_place-requires-clause-some
free_old_place-requires-clause-some c =
    let at = goal.at.free_old_place-requires-clause-some c in
    left-some c.args.journal.now.items c.old_place_frames-old.result (moved at.After-tables_are_in_store (found at.In-Some)).left

pub free_old_place-requires-clause-away : goal.free_old_place-requires-clause-away
free_old_place-requires-clause-away c =
    let at = goal.at.free_old_place-requires-clause-away c in
    let m = moved at.After-tables_are_in_store (found at.In-Some) in
    memory-free c.place.inside.base (2 * c.head-head.result.room) m.tables c.claim_new_place.ensures.kept c.in_ok-push.ensures.ok
    c.claim_new_place.ensures.bytes m.twice c.requires.kept.1
    (taken at.In_ok-claim_new_place (found at.In-Some)) c.old_place_frames-old.result m.left

pub returns-clause-ends : goal.returns-clause-ends
returns-clause-ends c =
    let at = goal.at.returns-clause-ends c in
    let m = moved at.After-tables_are_in_store (found at.In-Some) in
    memory-done (found at.In-Some) _ _ _ c.place.inside.base
    (2 * c.head-head.result.room) c.old_place_frames-old.result _ m.tables.here m.twice
    m.left c.in_ok-claim_new_place.ensures.ends c.in_ok-push.ensures.ok c.free_old_place.ensures.ends

pub returns-clause-kept : goal.returns-clause-kept
returns-clause-kept c =
    let at = goal.at.returns-clause-kept c in keeps-then
    (moved at.After-tables_are_in_store (found at.In-Some)).kept c.free_old_place.ensures.kept

pub returns-clause-bytes : goal.returns-clause-bytes
returns-clause-bytes c =
    let at = goal.at.returns-clause-bytes c in
    let m = moved at.After-tables_are_in_store (found at.In-Some) in
    bytes-then c.free_old_place.new.tables m.kept m.bytes c.free_old_place.ensures.bytes

pub returns-clause-prepared : goal.returns-clause-prepared
returns-clause-prepared c =
    let at = goal.at.returns-clause-prepared c in
    by-exact c.free_old_place.result
    (prepares-then (moved at.After-tables_are_in_store (found at.In-Some)).prepared c.free_old_place.ensures.prepared)
