use Rattle.std.proofs.Common.{ℕ, ◌+◌, ◌-◌, ◌/◌, ◌<◌, ◌^◌, List, arith}
use Rattle.address_runs.specs.Runs.{RunOf, run_end}
use Rattle.memblock_model.specs.Labels.{LabelView}
use Rattle.memblock_find.specs.Walk.{nth_record}
use Rattle.memblock_find.proofs.SlotLaws.{read_of}
use Rattle.memblock_find.proofs.UpLaws.{ended_so_far, not_ended_from}
use Rattle.memblock_find.proofs.up.count_ending_by.Goals as goal

pub overflow_add-region : goal.overflow_add-region
overflow_add-region c =
    let rs : List (RunOf LabelView) = c.args.records.now in
    let r : RunOf LabelView = nth_record rs (c.loop-low.low + (c.loop-low.high - c.loop-low.low) / 2) in
    let read = read_of c.get-region.result r (c.get-region.ensures.region _) in
    let small : run_end r < 2 ^ 64 = (c.get-region.ensures.fits _).small in
    omega (arith, read.0, read.1)

pub loop-low-preserved-then-region-at : goal.loop-low-preserved-then-region-at
loop-low-preserved-then-region-at c =
    let rs : List (RunOf LabelView) = c.args.records.now in
    let middle : ℕ = c.loop-low.low + (c.loop-low.high - c.loop-low.low) / 2 in
    let read = read_of c.get-region.result (nth_record rs middle) (c.get-region.ensures.region _) in
    let i = c.loop-low.invariant in
    let within = i.within in
    let test = c.loop-low-test.true in
    let ended = c.if-region-at.true in
    record {
      runs = i.runs;
      order = omega arith;
      within = within;
      before = ended_so_far rs c.args.at middle i.runs (omega arith) (omega (arith, read.0, read.1));
      after = i.after;
    }

pub loop-low-preserved : goal.loop-low-preserved
loop-low-preserved c =
    let rs : List (RunOf LabelView) = c.args.records.now in
    let middle : ℕ = c.loop-low.low + (c.loop-low.high - c.loop-low.low) / 2 in
    let read = read_of c.get-region.result (nth_record rs middle) (c.get-region.ensures.region _) in
    let i = c.loop-low.invariant in
    let within = i.within in
    let test = c.loop-low-test.true in
    let after = c.if-region-at.false in
    record {
      runs = i.runs;
      order = omega arith;
      within = omega arith;
      before = i.before;
      after = not_ended_from rs c.args.at middle i.runs (omega (arith, read.0, read.1));
    }
