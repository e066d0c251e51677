use Rattle.std.proofs.Common.{Ok, Err}
use Rattle.growth_model.specs.Growth.{set_range_node}
use Rattle.memblock_grow.specs.declared.stop.What.TheVariants as what
use Rattle.stage_steps.proofs.RequestLaws.{ends-carried}
use Rattle.stage_steps.proofs.calls.set_node_or_stop.Goals as goal

pub returns-in-Ok-clause-ends : goal.returns-in-Ok-clause-ends
returns-in-Ok-clause-ends c =
    ends-carried (what.NodeData c.args.node) (Ok tt) c.args.memblock.now.journal.items c.set_node.new.self.journal.items
    (set_range_node c.args.range c.args.node) c.in-Ok.ensures.ends

pub returns-in-Err-clause-ends : goal.returns-in-Err-clause-ends
returns-in-Err-clause-ends c =
    rw c.stop_for_refusal.ensures (ends-carried (what.NodeData c.args.node) (Err c.in-Err.refusal) c.args.memblock.now.journal.items
    c.set_node.new.self.journal.items (set_range_node c.args.range c.args.node) c.in-Err.ensures.ends)
