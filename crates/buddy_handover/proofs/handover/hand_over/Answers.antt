use Rattle.std.proofs.Common.{◌≡◌, ◌<◌, length, get_or, arith}
use Rattle.address_runs.specs.Runs.{RunOf, value_at}
use Rattle.memblock_model.specs.Labels.{LabelView, plain_label}
use Rattle.memblock_ranges.specs.Tables.{records_of_head}
use Rattle.memblock_ranges.proofs.LentLaws.{count_is}
use Rattle.memblock_frames.proofs.RecordLaws.{records_higher}
use Rattle.memblock_frames.proofs.ClaimLaws.{passed_later}
use Rattle.memblock_frames.proofs.TakeLaws.{frames_below, frames_in_order, frames_some}
use Rattle.buddy_handover.specs.BuddyView.{node_of_free_frame}
use Rattle.buddy_handover.proofs.HandoverLaws.{record_freed, record_left, all_handed}
use Rattle.buddy_handover.proofs.handover.hand_over.Goals as goal
use Rattle.buddy_handover.proofs.handover.hand_over.Goals.{in-Some+in_ok-next, in_default}

nobody : RunOf LabelView
nobody = record { base = 0; size = 0; value = plain_label }

pub frames_of_record-frames-requires-clause-table : goal.frames_of_record-frames-requires-clause-table
frames_of_record-frames-requires-clause-table c =
    records_higher c.args.store.now c.args.heads.now.memory _ _ (omega arith) c.requires.memory

pub free_unclaimed-requires-clause-passed : goal.free_unclaimed-requires-clause-passed
free_unclaimed-requires-clause-passed c =
    rw (c.frames_of_record-frames.ensures nobody) (c.loop-i.invariant.passed c.loop-i.i nobody (omega arith) c.loop-i-test.true)

pub free_unclaimed-requires-clause-order : goal.free_unclaimed-requires-clause-order
free_unclaimed-requires-clause-order c = frames_some (get_or _ c.loop-i.i nobody) _ (c.frames_of_record-frames.ensures nobody)

pub free_unclaimed-requires-clause-low : goal.free_unclaimed-requires-clause-low
free_unclaimed-requires-clause-low c =
    let ms = records_of_head c.args.store.now c.args.heads.now.memory in
    let few : c.loop-i.i < length ms = omega (arith, count_is c.args.store.now c.args.heads.now.memory) in
    frames_below _ _ ms c.loop-i.i nobody _ c.requires.memory.ascend few (c.frames_of_record-frames.ensures nobody) (omega arith)

pub loop-i-preserved : goal.loop-i-preserved
loop-i-preserved c =
    let ms = records_of_head c.args.store.now c.args.heads.now.memory in
    let rs = records_of_head c.args.store.now c.args.heads.now.reserved in
    let i = c.loop-i.i in
    let long = count_is c.args.store.now c.args.heads.now.memory in
    let few : i < length ms = omega (arith, long) in
    let is = c.frames_of_record-frames.ensures nobody in
    let ascend = c.requires.memory.ascend in
    let whole = c.requires.whole in
    let was = node_of_free_frame c.loop-i.buddy in
    elim c.match-frames.branch [
      | in-Some+in_ok-next w ↦ record {
        few = rw w.next-is w.in_ok-next.ensures.index;
        passed = λ k d later inner.
            let below : k < length ms = omega (arith, long, inner) in
            let order = frames_in_order _ ms i k d _ ascend whole (omega (arith, later)) below (c.frames_of_record-frames.ensures d) in
            rw w.next-is (passed_later rs w.in_ok-next.next _ _ order w.in_ok-next.ensures.passed);
        handed =
            rw w.buddy-is
            (record_freed _ ms (value_at rs) i w.in-Some.node nobody was (node_of_free_frame w.free_unclaimed.new.buddy) ascend whole few
            (rw is at w.in-Some.is) c.loop-i.invariant.handed (rw is at w.in_ok-next.ensures.free));
      }
      | in_default w ↦ record {
        few = rw w.next-is c.loop-i.invariant.few;
        passed = λ k d later inner. rw w.next-is (c.loop-i.invariant.passed k d (omega (arith, later)) inner);
        handed =
            rw w.buddy-is (record_left _ ms (value_at rs) i nobody was ascend whole few (rw is at w.in_default.is)
            c.loop-i.invariant.handed);
      }
    ]

pub returns : goal.returns
returns c =
    let ms = records_of_head c.args.store.now c.args.heads.now.memory in
    let all : c.loop-i.i ≡ length ms = omega (arith, count_is c.args.store.now c.args.heads.now.memory) in
    all_handed ms (value_at (records_of_head c.args.store.now c.args.heads.now.reserved)) c.loop-i.i
    (node_of_free_frame c.loop-i.buddy) c.requires.whole all
    c.loop-i.invariant.handed
