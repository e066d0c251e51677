use Rattle.std.proofs.Common.{◌+◌, drop, arith, refl}
use Rattle.std.proofs.lemmas.Bool.{false≢true}
use Rattle.memblock_ranges.specs.Tables.{records_of_head}
use Rattle.memblock_ranges.proofs.LentLaws.{count_is}
use Rattle.memblock_frames.proofs.CheckLaws.{left_from, one_whole, not_whole, all_whole}
use Rattle.memblock_frames.proofs.check.has_whole_frames.Goals as goal

pub returns-then-not-is_whole_frames : goal.returns-then-not-is_whole_frames
returns-then-not-is_whole_frames c =
    let rs = records_of_head c.args.store.now c.args.head.now in
    let i = c.loop-i.i in
    let left = left_from c.args.store.now c.args.head.now i c.region_at-region.result c.loop-i-test.true c.region_at-region.ensures in (
      (λ never. absurd (false≢true never)),
      (λ whole.
          absurd (not_whole i rs (drop (i + 1) rs) left.0 c.loop-i.invariant left.1
          (λ base size. false≢true (c.if-not-is_whole_frames.ensures.1 (omega arith, omega arith))) whole)),
    )

pub loop-i-preserved : goal.loop-i-preserved
loop-i-preserved c =
    let rs = records_of_head c.args.store.now c.args.head.now in
    let i = c.loop-i.i in
    let left = left_from c.args.store.now c.args.head.now i c.region_at-region.result c.loop-i-test.true c.region_at-region.ensures in
    let facts = c.if-not-is_whole_frames.ensures.0 refl in
    one_whole i rs (drop (i + 1) rs) left.0 c.loop-i.invariant left.1 (omega arith) (omega arith)

pub returns : goal.returns
returns c =
    let long = count_is c.args.store.now c.args.head.now in
    ((λ is. all_whole c.loop-i.i (records_of_head c.args.store.now c.args.head.now) c.loop-i.invariant (omega arith)), (λ whole. refl))
