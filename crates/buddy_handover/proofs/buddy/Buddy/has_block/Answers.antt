-- The first order that has a block serves.
use Rattle.std.proofs.Common.{◌≡◌, ◌+◌, ◌-◌, suc, sym, ◌∙◌, ap, arith}
use Rattle.buddy_blocks.specs.BlockList.{count_blocks}
use Rattle.buddy_blocks.specs.PickedBlock.{picked_block_from}
use Rattle.buddy_handover.specs.BuddyView.{node_of_free_frame}
use Rattle.buddy_handover.proofs.TakeLaws.{passed_by, serves_at, serves_is}
use Rattle.buddy_handover.proofs.buddy.Buddy.has_block.Goals as goal

pub returns-then-count-gt0 : goal.returns-then-count-gt0
returns-then-count-gt0 c =
    let at = c.loop-at.at in
    let left : 11 - at ≡ suc (11 - (at + 1)) = omega arith in
    let some = serves_at (node_of_free_frame c.args.self.now) c.args.node c.args.zone at (11 - (at + 1))
    (rw c.count.ensures at c.if-count-gt0.true) in
    rw (serves_is, ← c.loop-at.invariant.passed, left) (sym some)

pub loop-at-preserved : goal.loop-at-preserved
loop-at-preserved c =
    let f = node_of_free_frame c.args.self.now in
    let n = c.args.node in
    let z = c.args.zone in
    let at = c.loop-at.at in
    let none : count_blocks f n z at ≡ 0 = omega arith in
    let left : 11 - at ≡ suc (11 - (at + 1)) = omega arith in
    record {
      until = omega arith;
      passed = sym (ap (picked_block_from f n z at) left ∙ passed_by f n z at (11 - (at + 1)) none) ∙ c.loop-at.invariant.passed;
    }

pub returns : goal.returns
returns c =
    let left : 11 - c.loop-at.at ≡ 0 = omega arith in
    rw (serves_is, ← c.loop-at.invariant.passed, left)
