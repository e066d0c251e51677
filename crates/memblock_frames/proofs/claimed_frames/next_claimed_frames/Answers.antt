use Rattle.std.proofs.Common.{get_or, arith}
use Rattle.address_runs.specs.Runs.{RunOf}
use Rattle.memblock_model.specs.Labels.{LabelView, plain_label}
use Rattle.memblock_ranges.specs.Tables.{records_of_head}
use Rattle.memblock_ranges.proofs.LentLaws.{count_is}
use Rattle.memblock_frames.proofs.RecordLaws.{frames_order}
use Rattle.memblock_frames.proofs.ClaimLaws.{passed_more, unclaimed_end, unclaimed_gap, claimed_by}
use Rattle.memblock_frames.proofs.claimed_frames.next_claimed_frames.Goals as goal

nobody : RunOf LabelView
nobody = record { base = 0; size = 0; value = plain_label }

pub returns-then-at-frames-clause-unclaimed : goal.returns-then-at-frames-clause-unclaimed
returns-then-at-frames-clause-unclaimed c = λ x above before low.
    let long = count_is c.args.store.now c.args.head.now in
    unclaimed_gap _ (records_of_head c.args.store.now c.args.head.now) c.loop-i.i c.args.at x nobody c.frames_of_record-frames.result
    c.requires.table.ascend (omega arith) (c.frames_of_record-frames.ensures nobody) c.loop-i.invariant.passed above (omega arith)

pub returns-then-at-frames-clause-claimed : goal.returns-then-at-frames-clause-claimed
returns-then-at-frames-clause-claimed c = λ x from until low.
    let long = count_is c.args.store.now c.args.head.now in
    claimed_by _ (records_of_head c.args.store.now c.args.head.now) c.loop-i.i c.args.at x nobody c.frames_of_record-frames.result
    c.requires.table.ascend (omega arith) (c.frames_of_record-frames.ensures nobody) c.loop-i.invariant.passed (omega arith) (omega arith)
    (omega arith)

pub loop-i-preserved : goal.loop-i-preserved
loop-i-preserved c =
    let long = count_is c.args.store.now c.args.head.now in
    record {
      few = omega arith;
      forward = omega arith;
      passed = passed_more _ (records_of_head c.args.store.now c.args.head.now) c.loop-i.i c.args.at nobody c.frames_of_record-frames.result
          c.requires.table.ascend (omega arith) (c.frames_of_record-frames.ensures nobody) c.if-at-frames.false c.loop-i.invariant.passed;
    }

pub returns-clause-unclaimed : goal.returns-clause-unclaimed
returns-clause-unclaimed c = λ x above before low.
    let long = count_is c.args.store.now c.args.head.now in
    unclaimed_end (records_of_head c.args.store.now c.args.head.now) c.loop-i.i c.args.at x (omega arith) c.loop-i.invariant.passed above

pub returns-then-at-frames-clause-some : goal.returns-then-at-frames-clause-some
returns-then-at-frames-clause-some c =
    let r = get_or (records_of_head c.args.store.now c.args.head.now) c.loop-i.i nobody in
    omega (arith, frames_order r c.frames_of_record-frames.result (c.frames_of_record-frames.ensures nobody))

pub returns-then-at-frames-clause-not_empty : goal.returns-then-at-frames-clause-not_empty
returns-then-at-frames-clause-not_empty c = λ here.
    let r = get_or (records_of_head c.args.store.now c.args.head.now) c.loop-i.i nobody in
    omega (arith, frames_order r c.frames_of_record-frames.result (c.frames_of_record-frames.ensures nobody))
