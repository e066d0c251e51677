use Rattle.std.proofs.Common.{◌≡◌, ◌≤◌, get_or, ap, arith}
use Rattle.address_runs.specs.Runs.{RunOf}
use Rattle.memblock_model.specs.Labels.{LabelView, plain_label}
use Rattle.memblock_ranges.specs.declared.region.Region.{Region}
use Rattle.memblock_ranges.specs.Encoding.{node_field}
use Rattle.memblock_ranges.proofs.records.Records.label.Goals as goal

pub label_of-requires : goal.label_of-requires
label_of-requires c =
    let r : RunOf LabelView = get_or c.args.self.now c.args.i (record { base = 0; size = 0; value = plain_label }) in
    let is : c.get-region.result.node ≡ node_field r.value = ap (λ (g : Region). g.node) (c.get-region.ensures.region _) in
    let node : node_field r.value ≤ 1024 = (c.get-region.ensures.fits _).node in
    omega arith
