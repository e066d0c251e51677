use Rattle.std.proofs.Common.{◌+◌, ◌-◌, ◌/◌, ◌<◌, ℕ, arith}
use Rattle.std.proofs.lemmas.Grind.{common_steps}
use Rattle.address_runs.specs.Runs.{run_end}
use Rattle.run_edits.proofs.JoinLaws.{before_index}
use Rattle.run_edits.proofs.reading.first_ending_from.Goals as goal

pub loop-low-preserved-then-end-at : goal.loop-low-preserved-then-end-at
loop-low-preserved-then-end-at g c =
    let order = c.loop-low-test.true in
    let within = c.loop-low.invariant.within in
    let middle : ℕ = c.loop-low.low + (c.loop-low.high - c.loop-low.low) / 2 in
    let under : run_end (g.S.ValuedRange.run c.get.result) < c.args.at = grind (arith, common_steps) in
    record {
      order = omega arith;
      within = within;
      before = before_index c.args.at middle (g.T.Rows.list c.args.table.now) (g.S.ValuedRange.run c.get.result) c.requires (omega arith)
          c.get.ensures under;
      from = c.loop-low.invariant.from;
    }
