use Rattle.std.proofs.Common.{◌-◌, ◌^◌, ◌<◌, arith}
use Rattle.address_runs.specs.Runs.{RunOf, run_end}
use Rattle.memblock_model.specs.Labels.{LabelView}
use Rattle.memblock_find.specs.Walk.{nth_record}
use Rattle.memblock_find.proofs.SlotLaws.{read_of}
use Rattle.memblock_find.proofs.node.end_of_records.Goals as goal

pub overflow_add-result : goal.overflow_add-result
overflow_add-result c =
    let r : RunOf LabelView = nth_record c.args.records.now (c.args.count - 1) in
    let read = read_of c.get-region.result r (c.get-region.ensures.region _) in
    let room : run_end r < 2 ^ 64 = (c.get-region.ensures.fits _).small in
    omega (arith, read.0, read.1)
