use Rattle.std.proofs.Common.{◌+◌, ◌≤◌, refl, sym, arith}
use Rattle.crash_kernel.specs.Places.{area_query}
use Rattle.crash_kernel.proofs.PlaceLaws.{best_place-within}
use Rattle.crash_kernel.proofs.places.best_range.Goals as goal

pub find-requires-clause-aligned : goal.find-requires-clause-aligned
find-requires-clause-aligned c = (24, refl)

pub invariant_of-result : goal.invariant_of-result
invariant_of-result c =
    let ends : c.in_ok-base.base + c.args.size ≤ c.args.hi =
    best_place-within c.args.memblock.now.journal.items (area_query c.args.size 0x1000000 c.args.lo c.args.hi) c.in_ok-base.base
    (sym c.in_ok-base.ensures.place) in
    let fits = c.ranges.hi.fits in
    omega arith

pub returns-clause-away : goal.returns-clause-away
returns-clause-away c = c.in_ok-base.ensures.away c.requires.begun
