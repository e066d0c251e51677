use Rattle.std.proofs.Common.{◌+◌, drop, arith, refl}
use Rattle.std.proofs.lemmas.Bool.{false≢true}
use Rattle.memblock_ranges.specs.Tables.{records_of_head}
use Rattle.memblock_ranges.proofs.LentLaws.{count_is}
use Rattle.memblock_frames.specs.HeadRecords.{HasRecords}
use Rattle.memblock_frames.proofs.RecordLaws.{records_higher}
use Rattle.memblock_frames.proofs.CheckLaws.{left_from, one_in_place, out_of_place, all_in_place}
use Rattle.memblock_frames.proofs.check.has_records.Goals as goal

pub returns-then-not-is_nonempty_within-clause-list : goal.returns-then-not-is_nonempty_within-clause-list
returns-then-not-is_nonempty_within-clause-list c =
    let rs = records_of_head c.args.store.now c.args.head.now in
    let i = c.loop-i.i in
    let left = left_from c.args.store.now c.args.head.now i c.region_at-region.result c.loop-i-test.true c.region_at-region.ensures in (
      (λ never. absurd (false≢true never)),
      (λ known.
          absurd (out_of_place c.args.bound c.loop-i.from i rs (drop (i + 1) rs) left.0 c.loop-i.invariant left.1
          (λ above some low. false≢true (c.if-not-is_nonempty_within.ensures.1 (omega arith, omega arith, omega arith)))
          known.ascend)),
    )

pub loop-i-preserved : goal.loop-i-preserved
loop-i-preserved c =
    let rs = records_of_head c.args.store.now c.args.head.now in
    let i = c.loop-i.i in
    let left = left_from c.args.store.now c.args.head.now i c.region_at-region.result c.loop-i-test.true c.region_at-region.ensures in
    let facts = c.if-not-is_nonempty_within.ensures.0 refl in
    one_in_place c.args.bound c.loop-i.from i _ rs (drop (i + 1) rs) left.0 c.loop-i.invariant left.1
    (omega arith) (omega arith) (omega arith) (omega arith)

pub returns : goal.returns
returns c =
    let rs = records_of_head c.args.store.now c.args.head.now in
    let long = count_is c.args.store.now c.args.head.now in
    let room = c.if-not-head_has_room.ensures.0 refl in
    let known : HasRecords c.args.store.now c.args.head.now c.args.bound = record {
      few = room.0;
      fits = room.1;
      ascend = all_in_place c.args.bound c.loop-i.from c.loop-i.i rs c.loop-i.invariant (omega arith);
    } in
    record {
      list = ((λ is. known), (λ given. refl));
      space = λ is. records_higher c.args.store.now c.args.head.now c.args.bound _ (omega arith) known;
    }
