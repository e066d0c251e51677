use Rattle.std.proofs.Common.{◌≡◌, ◌⊎◌, ◌+◌, ◌-◌, ◌*◌, ◌%◌, ◌≤◌, ℕ, List, [], Bool, cond, sym, ◌∙◌, ap, arith}
use Rattle.std.specs.List.{count_by}
use Rattle.bm_base.specs.Zones.{zone_of}
use Rattle.buddy_blocks.specs.declared.block.Block.{Block}
use Rattle.buddy_blocks.specs.BlockList.{is_block_of, blocks_from}
use Rattle.buddy_blocks.proofs.RunLaws.{nothing_more, start_first, start_whole}
use Rattle.buddy_blocks.proofs.CountLaws.{alike_more, alike_told, if_alike, many, at_most_one, mul_one_most, next_start}
use Rattle.buddy_blocks.proofs.count.count_blocks_in_run.Goals as goal
use Rattle.buddy_blocks.proofs.count.count_blocks_in_run.Goals.{then-has_order_and_zone, else-has_order_and_zone}

pub loop-at-init : goal.loop-at-init
loop-at-init c = record {
  above = omega arith;
  below = c.requires;
  few = omega arith;
  start = start_first c.args.first c.args.end;
  counted = λ f n run.
      let p : Block → Bool = is_block_of n c.args.zone c.args.order in
      ap (λ (bs : List Block). count_by p bs) (nothing_more f c.args.first []);
}

pub loop-at-preserved : goal.loop-at-preserved
loop-at-preserved c =
    let first = c.args.first in let end = c.args.end in let at = c.loop-at.at in
    let o = c.set_within-set.result.order in let s = c.set_within-set.result.size in
    let k = c.count_equal_blocks-blocks.result in
    let e = c.set_within-set.ensures in
    let above = c.loop-at.invariant.above in
    let few = c.loop-at.invariant.few in
    let room : at + k * s ≤ end = c.count_equal_blocks-blocks.ensures.room in
    let single : (o ≡ 10) ⊎ (k ≡ 1) = c.count_equal_blocks-blocks.ensures.single in
    let whole : at % s ≡ 0 = start_whole first end at o s c.loop-at.invariant.start e.small e.size e.fits in
    let long : k ≤ k * s = many k s o e.size in
    let v : ℕ = if_alike o (zone_of at) c.args.order c.args.zone in
    let told : v ≡ cond c.has_order_and_zone.result 1 0 = alike_told c.has_order_and_zone.result o c.args.order
    (zone_of at) c.args.zone c.has_order_and_zone.ensures in
    let more : c.if-has_order_and_zone.total ≡ c.loop-at.total + k * v =
    elim c.if-has_order_and_zone.branch [
      | then-has_order_and_zone w ↦
          let unit : k * v ≡ k * 1 = ap (λ u. k * u) (told ∙ ap (λ b. cond b 1 0) w.if-has_order_and_zone.true) in
          let total = w.total-is in omega (arith, total, unit)
      | else-has_order_and_zone w ↦
          let none : k * v ≡ k * 0 = ap (λ u. k * u) (told ∙ ap (λ b. cond b 1 0) w.if-has_order_and_zone.false) in
          let total = w.total-is in omega (arith, total, none)
    ] in
    let one : v ≤ 1 = at_most_one o c.args.order (zone_of at) c.args.zone in
    let most : k * v ≤ k = mul_one_most k v one in
    record {
      above = omega (arith, above);
      below = room;
      few = omega (arith, more, most, long, few, above);
      start = next_start first end at o s k whole e.small e.size e.greatest single;
      counted = λ f n run.
          more ∙ ap (λ t. t + k * v) (c.loop-at.invariant.counted f n run)
          ∙ sym (alike_more f first end n o s at k c.args.order c.args.zone run above c.count_equal_blocks-blocks.ensures.some room e.small
          e.size whole
          e.fits e.greatest single c.count_equal_blocks-blocks.ensures.zone);
    }

pub returns-clause-count : goal.returns-clause-count
returns-clause-count c =
    let here : c.loop-at.at ≡ c.args.end = let below = c.loop-at.invariant.below in omega arith in
    λ f n run. c.loop-at.invariant.counted f n run
    ∙ ap (λ (e : ℕ). count_by (is_block_of n c.args.zone c.args.order) (blocks_from f c.args.first (e - c.args.first))) here
