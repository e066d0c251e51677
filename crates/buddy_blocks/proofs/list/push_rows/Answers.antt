use Rattle.std.proofs.Common.{◌≡◌, ◌-◌, ◌%◌, ◌++◌, ◌∷◌, [], List, sym, ◌∙◌, ap, arith, append_assoc}
use Rattle.bm_base.specs.Zones.{zone_of}
use Rattle.buddy_blocks.specs.declared.block.Block.{Block}
use Rattle.buddy_blocks.specs.declared.block.BlockRow.{BlockRow}
use Rattle.buddy_blocks.specs.BlockList.{blocks_from}
use Rattle.buddy_blocks.specs.Rows.{blocks_of_row, blocks_of_rows}
use Rattle.buddy_blocks.proofs.RunLaws.{nothing_more, start_first, start_whole}
use Rattle.buddy_blocks.proofs.RowLaws.{row_more, rows_more}
use Rattle.buddy_blocks.proofs.LongLaws.{ends_at_first, long_more}
use Rattle.buddy_blocks.proofs.CountLaws.{next_start}
use Rattle.buddy_blocks.proofs.list.push_rows.Goals as goal

pub loop-at-init : goal.loop-at-init
loop-at-init c = record {
  above = omega arith;
  below = c.requires;
  start = start_first c.args.first c.args.end;
  listed = λ f run. nothing_more f c.args.first (blocks_of_rows c.args.rows.now.items);
  longest = λ f run free are. (free, ends_at_first f c.args.first c.args.end c.args.node c.args.rows.now.items run free, are);
}

pub loop-at-preserved : goal.loop-at-preserved
loop-at-preserved c =
    let first = c.args.first in let end = c.args.end in let at = c.loop-at.at in
    let o = c.set_within-set.result.order in let s = c.set_within-set.result.size in
    let k = c.count_equal_blocks-count.result in
    let e = c.set_within-set.ensures in
    let b = c.count_equal_blocks-count.ensures in
    let whole : at % s ≡ 0 = start_whole first end at o s c.loop-at.invariant.start e.small e.size e.fits in
    let above = c.loop-at.invariant.above in
    let made : BlockRow = record { order = o; first = at; count = k; node = c.args.node; zone = zone_of at } in
    let put : c.push.new.self.items ≡ c.loop-at.rows.items ++ made ∷ [] =
    c.in_ok-push.ensures.items
    ∙ ap (λ z. let row : BlockRow = record { order = o; first = at; count = k; node = c.args.node; zone = z } in
    c.loop-at.rows.items ++ row ∷ []) c.zone_of-zone.ensures in
    record {
      above = omega (arith, above);
      below = b.room;
      start = next_start first end at o s k whole e.small e.size e.greatest b.single;
      listed = λ f run.
          let old : List Block = blocks_of_rows c.args.rows.now.items in
          ap (λ (rs : List BlockRow). blocks_of_rows rs) put ∙ rows_more c.loop-at.rows.items made
          ∙ ap (λ (bs : List Block). bs ++ blocks_of_row made) (c.loop-at.invariant.listed f run)
          ∙ append_assoc old (blocks_from f first (at - first)) (blocks_of_row made)
          ∙ sym (ap (λ (bs : List Block). old ++ bs)
          (row_more f first end c.args.node o s at k run above b.some b.room e.small e.size whole e.fits e.greatest b.single b.zone));
      longest = λ f run free are.
          long_more f first end c.args.node o s at k c.loop-at.rows.items c.push.new.self.items put run above b.some b.room e.size whole
          e.fits b.single b.most (c.loop-at.invariant.longest f run free are);
    }

pub returns-clause-longest : goal.returns-clause-longest
returns-clause-longest c = λ f run free are. let h = c.loop-at.invariant.longest f run free are in (h.0, h.2)
