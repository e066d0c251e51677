use Rattle.std.proofs.Common.{arith}
use Rattle.address_runs.proofs.OverlayLaws.{concatenation_is_runs}
use Rattle.address_runs.proofs.order.are_apart.Goals as goal

pub returns : goal.returns
returns g c =
    let exactly = concatenation_is_runs g.S.ValuedRange.run c.args.first.now c.last-item.result _
    (omega arith) c.last-item.is c.requires.first
    c.requires.second in
    ((λ holds. exactly.0 (c.is_before.ensures.0 holds)), (λ runs. c.is_before.ensures.1 (exactly.1 runs)))
