-- The name is among the remaining names exactly if it is among all.
use Rattle.std.proofs.Common.{◌≡◌, length, map}
use Rattle.program_args.specs.ReportNames.{is_among}
use Rattle.program_args.proofs.report_names.is_among.Given as goal

abbrev pub invariant-loop-rest : goal.invariant-loop-rest
invariant-loop-rest l = is_among (map (λ other. other.now) l.rest) l.name ≡ is_among (map (λ other. other.now) l.names) l.name

abbrev pub decreases-loop-rest : goal.decreases-loop-rest
decreases-loop-rest l = length l.rest
