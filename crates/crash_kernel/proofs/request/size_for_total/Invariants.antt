use Rattle.std.proofs.Common.{◌≡◌, drop}
use Rattle.crash_kernel.specs.Request.{size_for_total}
use Rattle.crash_kernel.proofs.request.size_for_total.Given as goal

abbrev pub invariant-loop-range : goal.invariant-loop-range
invariant-loop-range l = size_for_total l.total l.ranges ≡ size_for_total l.total (drop l.range-index l.ranges)
