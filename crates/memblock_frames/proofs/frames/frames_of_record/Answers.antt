use Rattle.std.proofs.Common.{arith}
use Rattle.std.proofs.lemmas.Bool.Decides.{nat_tests}
use Rattle.memblock_frames.proofs.RecordLaws.{region_fits, region_frames}
use Rattle.memblock_frames.proofs.frames.frames_of_record.Goals as goal

pub overflow_sub-last : goal.overflow_sub-last
overflow_sub-last c =
    omega (
      arith,
      region_fits c.args.store.now c.args.head.now c.args.i c.region_at-region.result c.requires.table c.requires.within
          c.region_at-region.ensures,
    )

pub overflow_add-last : goal.overflow_add-last
overflow_add-last c =
    omega (
      arith,
      region_fits c.args.store.now c.args.head.now c.args.i c.region_at-region.result c.requires.table c.requires.within
          c.region_at-region.ensures,
    )

pub returns-then-region-lt-MAX_NODES : goal.returns-then-region-lt-MAX_NODES
returns-then-region-lt-MAX_NODES c = λ r.
    region_frames c.args.store.now c.args.head.now c.args.i c.region_at-region.result _ r c.requires.within c.region_at-region.ensures
    (grind (arith, nat_tests, c.if-region-lt-MAX_NODES.true))

pub returns-else-region-lt-MAX_NODES : goal.returns-else-region-lt-MAX_NODES
returns-else-region-lt-MAX_NODES c = λ r.
    region_frames c.args.store.now c.args.head.now c.args.i c.region_at-region.result _ r c.requires.within c.region_at-region.ensures
    (grind (arith, nat_tests, c.if-region-lt-MAX_NODES.false))
