use Rattle.std.proofs.Common.{◌≡◌, drop}
use Rattle.crash_kernel.specs.Request.{bounded_size_for_total}
use Rattle.crash_kernel.proofs.request.bounded_size_for_total.Given as goal

abbrev pub invariant-loop-range : goal.invariant-loop-range
invariant-loop-range l = bounded_size_for_total l.total l.ranges ≡ bounded_size_for_total l.total (drop l.range-index l.ranges)
