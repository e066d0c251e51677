-- The items of a run are the first of the remaining items.
use Rattle.std.proofs.Common.{Ok, arith}
use Rattle.std.proofs.lemmas.List.{at_drop_all}
use Rattle.memblock_grow.proofs.GoingLaws.{goes-then}
use Rattle.early_memory.specs.FirstItems.{items_of_map}
use Rattle.boot_stages.proofs.ItemsLaws.{carries-exit, carries-nothing, leaves-all, leaves-next}
use Rattle.boot_stages.proofs.ExitLaws.{exit}
use Rattle.boot_stages.proofs.MemoryLaws.{map_next, runs_next}
use Rattle.boot_stages.proofs.memory.add_map.Goals as goal

pub returns-in_err-add_run-clause-ends : goal.returns-in_err-add_run-clause-ends
returns-in_err-add_run-clause-ends c =
    let next = map_next c.args.reach c.args.map.now c.loop-run.run-index c.run-item.result (omega (arith, c.loop-run-test.true))
    c.run-item.is in
    c.loop-run.invariant.left.ends _ _ (rw next (carries-exit c.in_err-add_run.field-0.0 _ _ _ _ _ (exit _ _ c.from_residual.ensures.1)
    c.in_err-add_run.ensures.ends))

pub loop-run-init : goal.loop-run-init
loop-run-init c = record { left = leaves-all _ _; runs = c.requires.runs; begun = c.requires.begun; goes_on = c.no_items_no_change.ensures }

pub loop-run-preserved : goal.loop-run-preserved
loop-run-preserved c =
    let next = map_next c.args.reach c.args.map.now c.loop-run.run-index c.run-item.result (omega (arith, c.loop-run-test.true))
    c.run-item.is in
    record {
      left = leaves-next _ _ _ _ _ _ _ next c.in_ok-add_run.ensures.ends c.loop-run.invariant.left;
      runs = runs_next c.args.map.now c.loop-run.run-index c.run-item.result (omega (arith, c.loop-run-test.true))
          c.loop-run.invariant.runs;
      begun = c.in_ok-add_run.ensures.begun;
      goes_on = goes-then _ _ _ c.loop-run.invariant.goes_on c.in_ok-add_run.ensures.goes_on;
    }

pub returns-clause-ends : goal.returns-clause-ends
returns-clause-ends c =
    let none = at_drop_all (items_of_map c.args.reach) c.args.map.now c.loop-run.run-index (omega (arith, c.loop-run-test.false)) in
    c.loop-run.invariant.left.ends (Ok tt) _ (rw none (carries-nothing c.loop-run.memblock.journal.items))

pub returns-in_err-add_run-clause-goes_on : goal.returns-in_err-add_run-clause-goes_on
returns-in_err-add_run-clause-goes_on c = goes-then _ _ _ c.loop-run.invariant.goes_on c.in_err-add_run.ensures.goes_on
