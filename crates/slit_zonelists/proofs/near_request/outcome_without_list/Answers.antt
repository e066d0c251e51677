-- A zone that has a block is in the node's list too. If no zone has one, none of the list has.
use Rattle.std.proofs.Common.{◌≡◌, ◌<◌, Bool, true, false, is_some, List, get_or, length, refl, sym, ◌∙◌, ap, subst}
use Rattle.std.proofs.lemmas.List.{take_all}
use Rattle.std.proofs.lemmas.List.Folds.{list_any_more}
use Rattle.std.specs.List.{list_any}
use Rattle.bm_base.specs.declared.zone.Zone.TheVariants as zones
use Rattle.buddy_handover.specs.BuddyView.{BuddyView, node_of_free_frame}
use Rattle.buddy_blocks.specs.PickedBlock.{picked_first_frame}
use Rattle.page_alloc.specs.PagesView.{page_state_of}
use Rattle.slit_zonelists.specs.declared.order.ListZone.{ListZone}
use Rattle.slit_zonelists.specs.Lists.{distance_in, zone_list_of}
use Rattle.slit_zonelists.specs.Near.{has_block}
use Rattle.slit_zonelists.proofs.ListLaws.{none_of, some_of, found_any, found_none}
use Rattle.slit_zonelists.proofs.near_request.outcome_without_list.Goals as goal

abbrev nothing : ListZone
nothing = record { node = 0; zone = zones.Dma }

pub returns-then-has_block-clause-memory : goal.returns-then-has_block-clause-memory
returns-then-has_block-clause-memory c =
    let k = c.args.lists.now in
    let node = c.args.node in
    let items = c.zones-entry-items.result.now in
    let i = c.loop-entry.entry-index in
    let z = get_or items i nothing in
    let p : ListZone → Bool = has_block (page_state_of c.args.pages.now) c.args.order in
    let on : p z ≡ true =
    sym (subst (λ (d : BuddyView). c.has_block.result ≡ is_some (picked_first_frame (node_of_free_frame d) z.node z.zone c.args.order))
    c.buddy.ensures c.has_block.ensures)
    ∙ c.if-has_block.true in
    let low : distance_in k node z.node < 256 = c.distance_is_a_byte.ensures in
    let there = subst (λ (zs : List ListZone). (i < length zs) × (p (get_or zs i nothing) ≡ true)
    × (distance_in k node (get_or zs i nothing).node < 256)) c.loop-entry.invariant.same (c.loop-entry-test.true, on, low) in
    found_any p (zone_list_of k node) (some_of k p node i nothing there.0 there.1 there.2)

pub loop-entry-preserved : goal.loop-entry-preserved
loop-entry-preserved c =
    let items = c.zones-entry-items.result.now in
    let i = c.loop-entry.entry-index in
    let z = get_or items i nothing in
    let p : ListZone → Bool = has_block (page_state_of c.args.pages.now) c.args.order in
    let off : p z ≡ false =
    sym (subst (λ (d : BuddyView). c.has_block.result ≡ is_some (picked_first_frame (node_of_free_frame d) z.node z.zone c.args.order))
    c.buddy.ensures c.has_block.ensures)
    ∙ c.if-has_block.false in
    record {
      same = c.loop-entry.invariant.same;
      none = list_any_more p items i nothing c.loop-entry-test.true ∙ rw (c.loop-entry.invariant.none, off) refl;
    }

pub returns-clause-none : goal.returns-clause-none
returns-clause-none c =
    let k = c.args.lists.now in
    let items = c.zones-entry-items.result.now in
    let p : ListZone → Bool = has_block (page_state_of c.args.pages.now) c.args.order in
    let none : list_any p k.zones ≡ false =
    ap (list_any p) (sym (take_all c.loop-entry.entry-index items c.loop-entry-test.false ∙ c.loop-entry.invariant.same))
    ∙ c.loop-entry.invariant.none in
    (refl, found_none p (zone_list_of k c.args.node) (none_of k p c.args.node none))
