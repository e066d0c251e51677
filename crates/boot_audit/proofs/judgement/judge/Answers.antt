use Rattle.std.proofs.Common.{◌^◌, ◌∙◌, sym, refl}
use Rattle.boot_audit.specs.Verdicts.{is_lost, is_in_block_but_not_free}
use Rattle.boot_audit.proofs.SweepLaws.{least_near}
use Rattle.boot_audit.proofs.OrderLaws.{frames_ascend}
use Rattle.boot_audit.proofs.judgement.judge.Goals as goal

pub returns-in-Some-not_free-clause-near : goal.returns-in-Some-not_free-clause-near
returns-in-Some-not_free-clause-near c =
    least_near (is_in_block_but_not_free c.limit.result c.args.saved.now.map.items c.args.saved.now.owners.items
    c.args.saved.now.blocks.items)
    (2 ^ 40) c.in-Some-not_free.frame (sym c.sweep-swept.ensures.not_free ∙ c.in-Some-not_free.is)

pub returns-in-Some-lost-clause-near : goal.returns-in-Some-lost-clause-near
returns-in-Some-lost-clause-near c =
    least_near (is_lost c.limit.result c.args.saved.now.map.items c.args.saved.now.owners.items c.args.saved.now.blocks.items)
    (2 ^ 40) c.in-Some-lost.frame (sym (c.sweep-swept.ensures.lost (rw c.in_default-not_free.is refl)) ∙ c.in-Some-lost.is)

pub first_mergeable-requires-clause-order : goal.first_mergeable-requires-clause-order
first_mergeable-requires-clause-order c = rw c.deref-3.ensures.value (frames_ascend c.args.saved.now.blocks.items c.requires.block_order)
