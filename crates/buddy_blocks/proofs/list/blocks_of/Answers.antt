use Rattle.std.proofs.Common.{◌++◌, ◌+◌, ℕ, List, drop, sym, ◌∙◌, ap}
use Rattle.std.proofs.lemmas.List.{append-nil}
use Rattle.address_runs.specs.Runs.{RunOf, value_at}
use Rattle.buddy_blocks.specs.declared.block.Block.{Block}
use Rattle.buddy_blocks.proofs.LookLaws.{listed, listed_all, listed_none, listed_more_at, run_at}
use Rattle.buddy_blocks.proofs.list.blocks_of.Goals as goal

pub loop-run-init : goal.loop-run-init
loop-run-init c =
    let rs = c.args.runs.now in
    ap (λ (bs : List Block). bs ++ listed (value_at rs) rs) c.new-blocks.ensures.items ∙ listed_all rs c.requires.runs c.requires.low

pub loop-run-preserved : goal.loop-run-preserved
loop-run-preserved c =
    let rs = c.args.runs.now in
    let i = c.loop-run.run-index in
    let f = value_at rs in
    let r : RunOf ℕ = record { base = c.run.inside.first; size = c.run.inside.count; value = c.run.inside.node } in
    let is = c.run.view_is ∙ c.run-item.is in
    let run = run_at rs i c.run-item.result r is c.requires.runs c.loop-run-test.true in
    ap (λ (bs : List Block). bs ++ listed f (drop (i + 1) rs)) (c.in_ok-push_blocks.ensures f run)
    ∙ listed_more_at f rs i c.run-item.result r c.loop-run.blocks.items is c.loop-run-test.true ∙ c.loop-run.invariant

pub returns : goal.returns
returns c =
    let rs = c.args.runs.now in
    sym (append-nil c.loop-run.blocks.items)
    ∙ sym (ap (λ (bs : List Block). c.loop-run.blocks.items ++ bs) (listed_none
    (value_at rs) rs c.loop-run.run-index c.loop-run-test.false))
    ∙ c.loop-run.invariant
