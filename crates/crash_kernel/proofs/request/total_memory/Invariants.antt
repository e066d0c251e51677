use Rattle.std.proofs.Common.{◌≡◌, take}
use Rattle.crash_kernel.proofs.TotalLaws.{sizes}
use Rattle.crash_kernel.proofs.request.total_memory.Given as goal

abbrev pub invariant-loop-i : goal.invariant-loop-i
invariant-loop-i l = l.total ≡ sizes (take l.i l.records)
