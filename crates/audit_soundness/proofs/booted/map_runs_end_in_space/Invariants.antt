-- The runs so far end below 2^64, so all runs do if the remaining ones do.
use Rattle.std.proofs.Common.{drop}
use Rattle.std.specs.List.{All}
use Rattle.audit_soundness.specs.PrintableBoots.{RunEndsInSpace}
use Rattle.audit_soundness.proofs.booted.map_runs_end_in_space.Given as goal

abbrev pub invariant-loop-run : goal.invariant-loop-run
invariant-loop-run l = All RunEndsInSpace (drop l.run-index l.runs) → All RunEndsInSpace l.runs
