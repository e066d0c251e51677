-- `ContinuesMemblock` from call to call, and after a call that only reads. The place that a search
-- found, and a range that was claimed, overlap no table.
use Rattle.std.proofs.Common.{◌≡◌, ℕ, Option, Some, None, List, [], ◌∷◌, ◌++◌, Result, Ok, Err, IfSome, OnOk, refl, sym, ◌∙◌, subst}
use Rattle.bm_base.specs.Range.{RangeView}
use Rattle.phys_store.specs.Bytes.{byte_of}
use Rattle.memblock_model.specs.declared.owner.Which.{Which}
use Rattle.memblock_model.specs.declared.owner.Which.TheVariants as which
use Rattle.memblock_model.specs.declared.owner.Owner.{Owner}
use Rattle.memblock_model.specs.declared.item.Item.{Item}
use Rattle.memblock_model.specs.declared.item.Item.TheVariants as item
use Rattle.memblock_model.specs.declared.query.Query.{Query}
use Rattle.memblock_model.specs.Search.{best_place}
use Rattle.memblock_model.specs.Tables.{table_bytes}
use Rattle.growth_model.specs.declared.refusal.Refusal.{Refusal}
use Rattle.growth_model.specs.Growth.{claim_range, count_uncovered_pieces}
use Rattle.growth_model.specs.Ends.{EndsAsChange}
use Rattle.growth_model.specs.Tables.{AreDisjoint, TablesAreClaimed, OverlapsNoTable}
use Rattle.growth_model.specs.Bytes.{table_from_items, TablesAreEncoded}
use Rattle.growth_model.proofs.FollowLaws.{follows-next, follows-none}
use Rattle.growth_model.proofs.FoundLaws.{found-away}
use Rattle.growth_model.proofs.PlacedLaws.{table_bytes-same, moves-of, rooms-of, away-still}
use Rattle.growth_model.proofs.PlacedReservedLaws.{roomy, room-going, claim_range-after}
use Rattle.memblock_grow.specs.MemblockView.{MemblockView}
use Rattle.memblock_grow.specs.Continues.{ContinuesMemblock}

pub goes-then : (old mid new : MemblockView) → ContinuesMemblock old mid → ContinuesMemblock mid new → ContinuesMemblock old new
goes-then old mid new first second = record {
  kernel = second.kernel ∙ first.kernel;
  bytes = follows-next old.kernel mid.kernel old.journal.items mid.journal.items new.journal.items (byte_of old.tables.store)
      (byte_of mid.tables.store) (byte_of new.tables.store) first.kernel first.bytes second.bytes;
  ready = λ x h. second.ready x (first.ready x h);
}

pub goes-none : (m : MemblockView) → m.tables.memory ≡ table_from_items which.Memory m.kernel m.journal.items
    → m.tables.reserved ≡ table_from_items which.Reserved m.kernel m.journal.items
    → TablesAreEncoded m.tables.memory m.tables.reserved (byte_of m.tables.store) → ContinuesMemblock m m
goes-none m memory reserved spelled = record {
  kernel = refl;
  bytes = follows-none m.kernel m.journal.items m.tables.memory m.tables.reserved (byte_of m.tables.store) memory reserved spelled;
  ready = λ x h. h;
}

pub place-away : (kernel : RangeView) (items : List Item) (query : Query) (place : Option ℕ) → TablesAreClaimed kernel items
    → place ≡ best_place items query
    → IfSome place (λ base. OverlapsNoTable kernel (record { base = base; size = query.size }) items)
place-away kernel items query None seated same = tt
place-away kernel items query (Some base) seated same = found-away kernel items query base seated (sym same)

-- a range that overlapped no table overlaps none after its claim, since the growth for the claim
-- avoids it
claim_range-away : (kernel r : RangeView) (items new : List Item) (who : Owner) → TablesAreClaimed kernel items
    → OverlapsNoTable kernel r items
    → EndsAsChange {T = Unit {0}} (Ok tt) items new (claim_range r who) → OverlapsNoTable kernel r new
claim_range-away kernel r items new who placed away ends =
    let t : List Item = roomy r (count_uncovered_pieces which.Reserved r) items in
    let one : List Item = item.Claim r who ∷ [] in
    let still : OverlapsNoTable kernel r t =
    away-still kernel r items t (room-going kernel r (count_uncovered_pieces which.Reserved r) items placed).aside away in
    let is : new ≡ t ++ one = ends.1 ∙ claim_range-after items r who ends.0 in
    let clear : (w : Which) → AreDisjoint r (table_bytes w kernel t) → AreDisjoint r (table_bytes w kernel (t ++ one)) = λ w.
    subst (AreDisjoint r) (sym (table_bytes-same w kernel t (t ++ one) (moves-of w t one) (rooms-of w t one))) in
    rw is (clear which.Memory still.0, clear which.Reserved still.1)

pub claim-away : (result : Result (Unit {0}) Refusal) (kernel r : RangeView) (items new : List Item) (who : Owner)
    → TablesAreClaimed kernel items
    → OverlapsNoTable kernel r items → EndsAsChange result items new (claim_range r who) → OnOk result (OverlapsNoTable kernel r new)
claim-away (Ok x) kernel r items new who placed away ends = claim_range-away kernel r items new who placed away ends
claim-away (Err e) kernel r items new who placed away ends = tt
