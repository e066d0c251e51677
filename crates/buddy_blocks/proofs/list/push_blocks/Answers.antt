use Rattle.std.proofs.Common.{◌≡◌, ◌-◌, ◌%◌, ◌++◌, ◌∷◌, [], List, sym, ◌∙◌, ap, arith, append_assoc}
use Rattle.bm_base.specs.Zones.{zone_of}
use Rattle.buddy_blocks.specs.declared.block.Block.{Block}
use Rattle.buddy_blocks.specs.BlockList.{blocks_from}
use Rattle.buddy_blocks.proofs.RunLaws.{nothing_more, start_first, start_whole, start_next, one_more}
use Rattle.buddy_blocks.proofs.list.push_blocks.Goals as goal

pub loop-at-init : goal.loop-at-init
loop-at-init c = record {
  above = omega arith;
  below = c.requires;
  start = start_first c.args.first c.args.end;
  listed = λ f run. nothing_more f c.args.first c.args.blocks.now.items;
}

pub loop-at-preserved : goal.loop-at-preserved
loop-at-preserved c =
    let first = c.args.first in let end = c.args.end in let at = c.loop-at.at in
    let o = c.set_within-set.result.order in let s = c.set_within-set.result.size in
    let e = c.set_within-set.ensures in
    let whole : at % s ≡ 0 = start_whole first end at o s c.loop-at.invariant.start e.small e.size e.fits in
    let below = e.fits.below in
    let above = c.loop-at.invariant.above in
    record {
      above = omega (arith, above);
      below = omega (arith, below, whole);
      start = start_next first end at o s whole e.small e.size e.greatest;
      listed = λ f run.
          let b : Block = record { order = o; first = at; node = c.args.node; zone = zone_of at } in
          let one = one_more f first end c.args.node o at s run above c.loop-at-test.true e.small e.size e.fits e.greatest whole in
          c.in_ok-push.ensures.items
          ∙ ap (λ z. let made : Block = record { order = o; first = at; node = c.args.node; zone = z } in c.loop-at.blocks.items ++
          made ∷ [])
          c.zone_of.ensures
          ∙ ap (λ (bs : List Block). bs ++ b ∷ []) (c.loop-at.invariant.listed f run)
          ∙ append_assoc c.args.blocks.now.items (blocks_from f first (at - first)) (b ∷ [])
          ∙ sym (ap (λ (bs : List Block). c.args.blocks.now.items ++ bs) one);
    }
