use Rattle.std.proofs.Common.{List, sym, ◌∙◌, ap, subst}
use Rattle.address_runs.specs.Runs.{value_at}
use Rattle.buddy_blocks.specs.declared.block.BlockRow.{BlockRow}
use Rattle.buddy_blocks.specs.Rows.{blocks_of_rows, AreCanonicalRows}
use Rattle.free_areas.proofs.AreaLaws.{leads_more, leads_all}
use Rattle.free_areas.proofs.areas.Areas.index_free_runs.Goals as goal

pub loop-row-preserved : goal.loop-row-preserved
loop-row-preserved c =
    leads_more c.deref-row-items.result.now c.loop-row.row-index _ c.first_block_of_row.result c.loop-row.blocks.keys
    c.insert_block.new.blocks.keys
    c.loop-row-test.true c.first_block_of_row.ensures c.loop-row.invariant c.in_ok-insert_block.ensures

pub returns : goal.returns
returns c =
    let rows = c.deref-row-items.result.now in
    let is = c.deref-row-items.ensures.value in
    leads_all (value_at c.args.runs.now) rows c.loop-row.row-index c.loop-row.blocks.keys c.requires.low
    (subst (λ (rs : List BlockRow). AreCanonicalRows rs) (sym is) c.in_ok-rows.ensures.longest)
    (ap blocks_of_rows is ∙ c.in_ok-rows.ensures.blocks) c.loop-row-test.false c.loop-row.invariant
