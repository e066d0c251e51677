use Rattle.std.proofs.Common.{◌≡◌, ◌*◌, ◌^◌, ◌<◌, Some, None, refl, sym, ◌∙◌, ap, subst, arith}
use Rattle.std.proofs.lemmas.List.{append-nil}
use Rattle.bm_base.specs.Range.{RangeView, end_of}
use Rattle.memblock_model.specs.declared.owner.Which.TheVariants as which
use Rattle.memblock_model.specs.declared.item.Item.TheVariants as item
use Rattle.memblock_model.specs.Tables.{room_of, moved_to}
use Rattle.growth_model.proofs.ToldLaws.{edit-told, move-told}
use Rattle.memblock_grow.specs.Prepared.{Prepares}
use Rattle.memblock_grow.proofs.reserved.grow_reserved.Goals as goal
use Rattle.memblock_grow.proofs.reserved.grow_reserved.Goals.{In-Some, After-tables_are_in_store-2}
use Rattle.memblock_grow.proofs.KeptLaws.{kept-same}
use Rattle.memblock_grow.proofs.PlaceLaws.{knows-mirrors, left-far}
use Rattle.memblock_grow.proofs.PreparedLaws.{prepares-item}
use Rattle.memblock_grow.proofs.ReservedLaws.{room-some, frames-some, IsBeside, beside-found, beside-free, beside-apart, growth-none, growth-wants, moved_items, written, items_freeing_old_place-size, items_freeing_old_place-found, twice-is, claim-room, Claimed, claimed, freed-keeps, freed-tells, prepares-moved, still-bytes}

-- the place that was found doesn't overlap the range
known : (c : In-Some) → IsBeside c.args.journal.now.items c.args.avoid c.in-Some.place
known c = beside-found c.requires.kept.1.kept c.head-head.ensures.head c.table_frames_beside.ensures c.in-Some.is

-- the state after the claim
record Stands (c : After-tables_are_in_store-2) : Type 0 where
  here : c.place.inside.base ≡ c.in-Some.place.base
  twice : 2 * c.head-head.result.room ≡ 2 * room_of which.Reserved c.args.journal.now.items
  two : c.push_ready-2.new.self.items
      ≡ moved_items c.args.journal.now.items c.place.inside.base (2 * c.head-head.result.room) c.in-Some.place
  claimed : Claimed c.args.journal.now.items c.push_ready-2.new.self.items c.args.tables.now c.insert.new.self c.args.aim
  prepared : Prepares c.args.journal.now.items c.push_ready-2.new.self.items c.args.tables.now.store c.insert.new.self.store

stands : (c : After-tables_are_in_store-2) → IsBeside c.args.journal.now.items c.args.avoid c.in-Some.place → Stands c
stands c at =
    let here : c.place.inside.base ≡ c.in-Some.place.base = ap (λ (e : RangeView). e.base) c.place.view_is in
    let twice = twice-is c.requires.kept.1.kept which.Reserved c.head-head.ensures.head in
    let two : c.push_ready-2.new.self.items
    ≡ moved_items c.args.journal.now.items c.place.inside.base (2 * c.head-head.result.room) c.in-Some.place =
    rw (c.push_ready-2.ensures, c.push_ready.ensures, c.in_ok-ready.ensures.items) refl in
    record {
      here = here;
      twice = twice;
      two = two;
      claimed = claimed (2 * c.head-head.result.room) {p = c.prepare.new.self} {r = c.relocate.new.self} two (record {
        first = c.in_ok-prepare.ensures.memory;
        second = c.in_ok-prepare.ensures.reserved;
        bytes = c.in_ok-prepare.ensures.bytes;
        table = c.relocate.ensures.table;
        other = c.relocate.ensures.other;
        told = move-told which.Reserved c.prepare.new.self c.relocate.new.self c.relocate.ensures.left c.relocate.ensures.elsewhere
            c.tables_are_in_store.ensures.memory c.tables_are_in_store.ensures.reserved;
        claimed = c.insert.ensures.table;
        still = c.insert.ensures.other;
        after = edit-told which.Reserved c.relocate.new.self c.insert.new.self _ c.insert.ensures.table c.insert.ensures.elsewhere
            c.tables_are_in_store-2.ensures.memory c.tables_are_in_store-2.ensures.reserved;
        here = here;
        is = at.is;
        ends = subst (λ (e : RangeView). end_of e < 2 ^ 64) c.place.view_is c.place.invariant;
      }) (beside-free at);
      prepared = prepares-moved c.place.inside.base (2 * c.head-head.result.room) two here twice at.is
          (λ x. c.insert.ensures.ready x ∙ c.relocate.ensures.ready x ∙ c.in_ok-prepare.ensures.ready x);
    }

pub table_frames_beside-requires-clause-some : goal.table_frames_beside-requires-clause-some
table_frames_beside-requires-clause-some c = room-some c.requires.kept.1.kept which.Reserved c.head-head.ensures.head

pub table_frames_beside-requires-clause-mirrors : goal.table_frames_beside-requires-clause-mirrors
table_frames_beside-requires-clause-mirrors c = knows-mirrors c.requires.kept.1.kept

pub returns-in_default-clause-ends : goal.returns-in_default-clause-ends
returns-in_default-clause-ends c =
    growth-none c.requires.kept.1.kept c.args.avoid c.head-head.ensures.head c.table_frames_beside.ensures c.in_default.is

pub returns-in_default-clause-bytes : goal.returns-in_default-clause-bytes
returns-in_default-clause-bytes c = still-bytes c.args.tables.now refl (λ x. refl)

pub old_place_frames-left-requires : goal.old_place_frames-left-requires
old_place_frames-left-requires c = record { far = rw c.head-head.ensures.head (left-far c.requires.kept.1.kept which.Reserved) }

pub returns-in_err-ready-clause-ends : goal.returns-in_err-ready-clause-ends
returns-in_err-ready-clause-ends c =
    growth-wants (known (goal.at.returns-in_err-ready-clause-ends c).In-Some) _ _ c.from_residual.ensures.1 c.in_err-ready.ensures.items

pub returns-in_err-ready-clause-bytes : goal.returns-in_err-ready-clause-bytes
returns-in_err-ready-clause-bytes c = still-bytes c.args.tables.now c.in_err-ready.ensures.items (λ x. refl)

pub returns-in_err-prepare-clause-ends : goal.returns-in_err-prepare-clause-ends
returns-in_err-prepare-clause-ends c =
    growth-wants (known (goal.at.returns-in_err-prepare-clause-ends c).In-Some) _ _ c.from_residual-in_err-prepare.ensures.1
    c.in_ok-ready.ensures.items

pub returns-in_err-prepare-clause-kept : goal.returns-in_err-prepare-clause-kept
returns-in_err-prepare-clause-kept c = λ kernel kept.
    rw c.in_ok-ready.ensures.items (kept-same kept c.prepare.new.self c.in_err-prepare.ensures.memory c.in_err-prepare.ensures.reserved)

pub returns-in_err-prepare-clause-bytes : goal.returns-in_err-prepare-clause-bytes
returns-in_err-prepare-clause-bytes c = still-bytes c.prepare.new.self c.in_ok-ready.ensures.items c.in_err-prepare.ensures.bytes

pub relocate-requires-clause-apart : goal.relocate-requires-clause-apart
relocate-requires-clause-apart c =
    beside-apart (known (goal.at.relocate-requires-clause-apart c).In-Some) c.prepare.new.self c.requires.kept.1.kept
    (c.requires.kept.1.placed c.requires.begun) (ap (λ (e : RangeView). e.base) c.place.view_is) c.in_ok-prepare.ensures.memory
    c.in_ok-prepare.ensures.reserved

pub push_ready-requires-2-clause-item : goal.push_ready-requires-2-clause-item
push_ready-requires-2-clause-item c =
    frames-some which.Reserved c.args.journal.now.items (known (goal.at.push_ready-requires-2-clause-item c).In-Some).is

pub insert-requires-clause-some : goal.insert-requires-clause-some
insert-requires-clause-some c =
    frames-some which.Reserved c.args.journal.now.items (known (goal.at.insert-requires-clause-some c).In-Some).is

pub insert-requires-clause-room : goal.insert-requires-clause-room
insert-requires-clause-room c =
    let at = known (goal.at.insert-requires-clause-room c).In-Some in
    let room = claim-room c.requires.kept.1.kept c.prepare.new.self c.relocate.new.self c.in-Some.place
    c.in_ok-prepare.ensures.reserved c.relocate.ensures.table (beside-free at)
    (frames-some which.Reserved c.args.journal.now.items at.is)
    (subst (λ (e : RangeView). end_of e < 2 ^ 64) c.place.view_is c.place.invariant) in
    omega (arith, room)

pub push_ready-requires-in-Some-left-clause-item : goal.push_ready-requires-in-Some-left-clause-item
push_ready-requires-in-Some-left-clause-item c =
    let left = items_freeing_old_place-found c.requires.kept.1.kept which.Reserved c.head-head.ensures.head
    c.old_place_frames-left.ensures in
    items_freeing_old_place-size which.Reserved c.args.journal.now.items (moved_to which.Reserved c.args.journal.now.items) _ (sym left
    ∙ c.in-Some-left.is)

pub remove-requires : goal.remove-requires
remove-requires c =
    let at = goal.at.remove-requires c in
    (stands at.After-tables_are_in_store-2 (known at.In-Some)).claimed.room c.requires.kept.0 c.requires.kept.1.kept

pub returns-in-Some-left-clause-ends : goal.returns-in-Some-left-clause-ends
returns-in-Some-left-clause-ends c =
    let at = goal.at.returns-in-Some-left-clause-ends c in
    let s = stands at.After-tables_are_in_store-2 (known at.In-Some) in
    let old = items_freeing_old_place-found c.requires.kept.1.kept which.Reserved c.head-head.ensures.head
    c.old_place_frames-left.ensures in
    written (known at.In-Some) c.push_ready-in-Some-left.new.self.items c.place.inside.base (2 * c.head-head.result.room)
    (Some c.in-Some-left.range) s.here s.twice (sym c.in-Some-left.is ∙ old) (rw (c.push_ready-in-Some-left.ensures, s.two) refl)

pub returns-in-Some-left-clause-kept : goal.returns-in-Some-left-clause-kept
returns-in-Some-left-clause-kept c =
    let at = goal.at.returns-in-Some-left-clause-kept c in
    freed-keeps _ _ (λ k. (c.push_ready-in-Some-left.ensures k).items) (stands at.After-tables_are_in_store-2 (known at.In-Some)).claimed
    c.remove.ensures.table c.remove.ensures.other c.range_end_fits.ensures

pub returns-in-Some-left-clause-bytes : goal.returns-in-Some-left-clause-bytes
returns-in-Some-left-clause-bytes c =
    let at = goal.at.returns-in-Some-left-clause-bytes c in
    freed-tells _ _ (λ k. (c.push_ready-in-Some-left.ensures k).items) (stands at.After-tables_are_in_store-2 (known at.In-Some)).claimed
    c.remove.ensures.table c.remove.ensures.other c.range_end_fits.ensures (edit-told which.Reserved c.insert.new.self c.remove.new.self _
    c.remove.ensures.table c.remove.ensures.elsewhere c.tables_are_in_store-in-Some-left.ensures.memory
    c.tables_are_in_store-in-Some-left.ensures.reserved)

pub returns-in-Some-left-clause-prepared : goal.returns-in-Some-left-clause-prepared
returns-in-Some-left-clause-prepared c =
    let at = goal.at.returns-in-Some-left-clause-prepared c in
    prepares-item (item.Free c.in-Some-left.range) (stands at.After-tables_are_in_store-2 (known at.In-Some)).prepared
    (λ k. (c.push_ready-in-Some-left.ensures k).items) (λ x. refl) c.remove.ensures.ready

pub returns-in-None-clause-ends : goal.returns-in-None-clause-ends
returns-in-None-clause-ends c =
    let at = goal.at.returns-in-None-clause-ends c in
    let s = stands at.After-tables_are_in_store-2 (known at.In-Some) in
    let old = items_freeing_old_place-found c.requires.kept.1.kept which.Reserved c.head-head.ensures.head
    c.old_place_frames-left.ensures in
    written (known at.In-Some) c.push_ready-2.new.self.items c.place.inside.base (2 * c.head-head.result.room) None s.here s.twice
    (sym c.in-None.is ∙ old) (s.two ∙ sym (append-nil _))

pub returns-in-None-clause-kept : goal.returns-in-None-clause-kept
returns-in-None-clause-kept c =
    let at = goal.at.returns-in-None-clause-kept c in (stands at.After-tables_are_in_store-2 (known at.In-Some)).claimed.kept

pub returns-in-None-clause-bytes : goal.returns-in-None-clause-bytes
returns-in-None-clause-bytes c =
    let at = goal.at.returns-in-None-clause-bytes c in (stands at.After-tables_are_in_store-2 (known at.In-Some)).claimed.bytes

pub returns-in-None-clause-prepared : goal.returns-in-None-clause-prepared
returns-in-None-clause-prepared c =
    let at = goal.at.returns-in-None-clause-prepared c in (stands at.After-tables_are_in_store-2 (known at.In-Some)).prepared
