use Rattle.std.proofs.Common.{◌≡◌, ℕ, ◌-◌, List, subst, arith}
use Rattle.address_runs.specs.Runs.{RunOf}
use Rattle.memblock_model.specs.Labels.{LabelView}
use Rattle.memblock_find.specs.Walk.{nth_record, ExactlyFirstBeginBelow}
use Rattle.memblock_find.proofs.SlotLaws.{read_of}
use Rattle.memblock_find.proofs.DownLaws.{look_bottom, look_gap, look_in}
use Rattle.memblock_find.proofs.down.look_down.Goals as goal

pub returns-then-slot-eq0 : goal.returns-then-slot-eq0
returns-then-slot-eq0 c =
    let rs : List (RunOf LabelView) = c.args.records.now in
    look_bottom rs c.args.at (subst (λ (n : ℕ). ExactlyFirstBeginBelow c.args.at rs n) c.if-slot-eq0.true c.requires)

pub returns-then-end-at : goal.returns-then-end-at
returns-then-end-at c =
    let rs : List (RunOf LabelView) = c.args.records.now in
    let read = read_of c.get-region.result (nth_record rs (c.args.slot - 1)) (c.get-region.ensures.region _) in
    rw (read.0, read.1) (look_gap rs c.args.slot c.args.at (omega arith) c.requires (omega (arith, read.0, read.1)))

pub returns-else-end-at : goal.returns-else-end-at
returns-else-end-at c =
    let rs : List (RunOf LabelView) = c.args.records.now in
    let read = read_of c.get-region.result (nth_record rs (c.args.slot - 1)) (c.get-region.ensures.region _) in
    let labels : c.label.result ≡ (nth_record rs (c.args.slot - 1)).value = c.label.ensures _ in
    rw (read.0, labels) (look_in rs c.args.slot c.args.at (omega arith) c.requires (omega (arith, read.0, read.1)))
