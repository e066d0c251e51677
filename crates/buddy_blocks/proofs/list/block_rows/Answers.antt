use Rattle.std.proofs.Common.{◌++◌, ◌+◌, ℕ, List, drop, sym, ◌∙◌, ap, subst}
use Rattle.std.proofs.lemmas.List.{append-nil}
use Rattle.address_runs.specs.Runs.{RunOf, value_at}
use Rattle.buddy_blocks.specs.declared.block.Block.{Block}
use Rattle.buddy_blocks.specs.declared.block.BlockRow.{BlockRow}
use Rattle.buddy_blocks.specs.Rows.{blocks_of_rows, AreCanonicalRows}
use Rattle.buddy_blocks.specs.Sets.{LastRowFulfils, LastFrameIsFree}
use Rattle.buddy_blocks.proofs.LookLaws.{listed, listed_all, listed_none, listed_more_at, run_at}
use Rattle.buddy_blocks.proofs.list.block_rows.Goals as goal

pub loop-run-init : goal.loop-run-init
loop-run-init c =
    let rs = c.args.runs.now in
    let none = c.new-rows.ensures.items in
    record {
      listed = ap (λ (rows : List BlockRow). blocks_of_rows rows ++ listed (value_at rs) rs) none
          ∙ listed_all rs c.requires.runs c.requires.low;
      free = subst (λ (rows : List BlockRow). LastRowFulfils (LastFrameIsFree (value_at rs)) rows) (sym none) tt;
      longest = subst (λ (rows : List BlockRow). AreCanonicalRows rows) (sym none) tt;
    }

pub loop-run-preserved : goal.loop-run-preserved
loop-run-preserved c =
    let rs = c.args.runs.now in
    let i = c.loop-run.run-index in
    let f = value_at rs in
    let r : RunOf ℕ = record { base = c.run.inside.first; size = c.run.inside.count; value = c.run.inside.node } in
    let is = c.run.view_is ∙ c.run-item.is in
    let run = run_at rs i c.run-item.result r is c.requires.runs c.loop-run-test.true in
    let long = c.in_ok-push_rows.ensures.longest f run c.loop-run.invariant.free c.loop-run.invariant.longest in
    record {
      listed = ap (λ (bs : List Block). bs ++ listed f (drop (i + 1) rs)) (c.in_ok-push_rows.ensures.blocks f run)
          ∙ listed_more_at f rs i c.run-item.result r (blocks_of_rows c.loop-run.rows.items) is c.loop-run-test.true
          ∙ c.loop-run.invariant.listed;
      free = long.0;
      longest = long.1;
    }

pub returns-clause-blocks : goal.returns-clause-blocks
returns-clause-blocks c =
    let rs = c.args.runs.now in
    sym (append-nil (blocks_of_rows c.loop-run.rows.items))
    ∙ sym (ap (λ (bs : List Block). blocks_of_rows c.loop-run.rows.items ++ bs) (listed_none
    (value_at rs) rs c.loop-run.run-index c.loop-run-test.false))
    ∙ c.loop-run.invariant.listed
