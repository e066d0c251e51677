use Rattle.std.proofs.Common.{◌≡◌, ◌<◌, ◌^◌, List, length, ◌∙◌, arith}
use Rattle.address_runs.specs.Runs.{RunOf, run_end}
use Rattle.memblock_model.specs.Labels.{LabelView}
use Rattle.memblock_find.specs.Walk.{nth_record}
use Rattle.memblock_find.proofs.SlotLaws.{read_of}
use Rattle.memblock_find.proofs.UpLaws.{look_top, look_hole, look_over}
use Rattle.memblock_find.proofs.up.look_up.Goals as goal

pub returns-then-slot-count : goal.returns-then-slot-count
returns-then-slot-count c =
    let rs : List (RunOf LabelView) = c.args.records.now in
    let count : c.count.result ≡ length rs = c.count.ensures.count in
    look_top rs c.args.slot c.args.at (c.if-slot-count.true ∙ count) (omega arith) c.requires

pub returns-then-at-region : goal.returns-then-at-region
returns-then-at-region c =
    let rs : List (RunOf LabelView) = c.args.records.now in
    let read = read_of c.get-region.result (nth_record rs c.args.slot) (c.get-region.ensures.region _) in
    let within : c.args.slot < length rs = omega (arith, c.requires.within, c.count.ensures.count, c.if-slot-count.false) in
    let small : run_end (nth_record rs c.args.slot) < 2 ^ 64 = (c.get-region.ensures.fits _).small in
    rw read.0 (look_hole rs c.args.slot c.args.at within c.requires (omega (arith, read.0)) (omega arith))

pub returns-else-at-region : goal.returns-else-at-region
returns-else-at-region c =
    let rs : List (RunOf LabelView) = c.args.records.now in
    let read = read_of c.get-region.result (nth_record rs c.args.slot) (c.get-region.ensures.region _) in
    let within : c.args.slot < length rs = omega (arith, c.requires.within, c.count.ensures.count, c.if-slot-count.false) in
    let labels : c.label.result ≡ (nth_record rs c.args.slot).value = c.label.ensures _ in
    rw (read.0, read.1, labels)
    (look_over rs c.args.slot c.args.at within c.requires (omega (arith, read.0)) (c.get-region.ensures.fits _).small)
