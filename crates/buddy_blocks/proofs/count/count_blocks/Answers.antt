use Rattle.std.proofs.Common.{◌≡◌, ◌+◌, ◌-◌, ℕ, Bool, ◌∙◌, ap, arith}
use Rattle.std.specs.List.{count_by}
use Rattle.address_runs.specs.Runs.{RunOf, run_end, value_at}
use Rattle.buddy_blocks.specs.declared.block.Block.{Block}
use Rattle.buddy_blocks.specs.BlockList.{is_block_of, count_blocks, blocks_from}
use Rattle.buddy_blocks.proofs.LookLaws.{run_at}
use Rattle.buddy_blocks.proofs.CountLaws.{count_all, count_more_at, next_count, no_count, other_run}
use Rattle.buddy_blocks.proofs.count.count_blocks.Goals as goal
use Rattle.buddy_blocks.proofs.count.count_blocks.Goals.{then-run-node, else-run-node}

pub loop-run-init : goal.loop-run-init
loop-run-init c =
    let all = count_all c.args.runs.now c.args.node c.args.order c.args.zone c.requires.runs c.requires.low in
    omega (arith, all.0)

pub loop-run-preserved : goal.loop-run-preserved
loop-run-preserved c =
    let rs = c.args.runs.now in
    let i = c.loop-run.run-index in
    let f = value_at rs in
    let r : RunOf ℕ = record { base = c.run.inside.first; size = c.run.inside.count; value = c.run.inside.node } in
    let is = c.run.view_is ∙ c.run-item.is in
    let run = run_at rs i c.run-item.result r is c.requires.runs c.loop-run-test.true in
    let p : Block → Bool = is_block_of c.args.node c.args.zone c.args.order in
    let more : c.if-run-node.total ≡ c.loop-run.total + count_by p (blocks_from f r.base (run_end r - r.base)) =
    elim c.if-run-node.branch [
      | then-run-node w ↦
          w.total-is
          ∙ ap (λ t. c.loop-run.total + t) (w.count_blocks_in_run-total.ensures.count f r.value run
          ∙ ap (λ n. count_by (is_block_of n c.args.zone c.args.order) (blocks_from f r.base (run_end r - r.base))) w.if-run-node.true)
      | else-run-node w ↦
          let none = other_run f r c.args.node c.args.order c.args.zone run w.if-run-node.false in
          let total = w.total-is in omega (arith, total, none)
    ] in
    next_count f rs i c.run-item.result r p c.loop-run.total c.if-run-node.total
    (count_blocks f c.args.node c.args.zone c.args.order) is c.loop-run-test.true c.loop-run.invariant more

pub overflow_add-total : goal.overflow_add-total
overflow_add-total c =
    let rs = c.args.runs.now in
    let i = c.loop-run.run-index in
    let f = value_at rs in
    let r : RunOf ℕ = record { base = c.run.inside.first; size = c.run.inside.count; value = c.run.inside.node } in
    let is = c.run.view_is ∙ c.run-item.is in
    let run = run_at rs i c.run-item.result r is c.requires.runs c.loop-run-test.true in
    let here = c.count_blocks_in_run-total.ensures.count f r.value run in
    let at_node =
    ap (λ n. count_by (is_block_of n c.args.zone c.args.order) (blocks_from f r.base (run_end r - r.base))) c.if-run-node.true in
    let parts = count_more_at f rs i c.run-item.result r (is_block_of c.args.node c.args.zone c.args.order) is c.loop-run-test.true in
    let all = count_all rs c.args.node c.args.order c.args.zone c.requires.runs c.requires.low in
    let sum = c.loop-run.invariant in
    let most = all.1 in
    omega (arith, here, at_node, parts, most, sum)

pub returns : goal.returns
returns c =
    let rs = c.args.runs.now in
    let none = no_count (value_at rs) rs c.loop-run.run-index (is_block_of c.args.node c.args.zone c.args.order) c.loop-run-test.false in
    let sum = c.loop-run.invariant in
    omega (arith, none, sum)
