-- The list after one more section.
use Rattle.std.proofs.Common.{◌∙◌, arith}
use Rattle.sparse_sections.proofs.PresentLaws.{from-none, from-next}
use Rattle.sparse_sections.proofs.sections.push_sections.Goals as goal

pub loop-number-init : goal.loop-number-init
loop-number-init c = from-none c.args.sections.now.items c.args.first c.args.node

pub loop-number-preserved : goal.loop-number-preserved
loop-number-preserved c =
    c.in_ok-push.ensures.items
    ∙ from-next c.args.sections.now.items c.loop-number.sections.items c.args.first c.loop-number.number c.args.node (omega arith)
    c.loop-number.invariant
