-- The runs so far end below 2^64 and have numbers of 32 bits, so all runs do if the remaining ones
-- do.
use Rattle.std.proofs.Common.{drop}
use Rattle.std.specs.List.{All}
use Rattle.audit_soundness.specs.PrintableBoots.{IsBoundedOwnerRun}
use Rattle.audit_soundness.proofs.booted.owner_runs_are_bounded.Given as goal

abbrev pub invariant-loop-run : goal.invariant-loop-run
invariant-loop-run l = All IsBoundedOwnerRun (drop l.run-index l.runs) → All IsBoundedOwnerRun l.runs
