-- With an accepted command line the run ends as writing the reports does. With a refused one no
-- file is fetched and nothing is written.
use Rattle.std.proofs.Common.{Some}
use Rattle.program_run.specs.Bootmem.{bootmem61}
use Rattle.program_run.specs.Outcome.{bootmem61_outcome}
use Rattle.program_run.proofs.RunLaws.{are_accepted, never_refused, words_cause, words_fit}
use Rattle.program_run.proofs.program61.run61_to_end.Goals as goal

pub returns-in-Ok-clause-writes : goal.returns-in-Ok-clause-writes
returns-in-Ok-clause-writes g c = rw (are_accepted _ _ c.in-Ok.ensures) c.write_reports61-end.ensures.writes

pub returns-in-Ok-clause-cause : goal.returns-in-Ok-clause-cause
returns-in-Ok-clause-cause g c = rw (are_accepted _ _ c.in-Ok.ensures) c.write_reports61-end.ensures.cause

pub returns-in-Ok-clause-unfetched : goal.returns-in-Ok-clause-unfetched
returns-in-Ok-clause-unfetched g c = λ none. absurd (never_refused _ _ c.in-Ok.ensures none)

pub returns-in-Ok-clause-unput : goal.returns-in-Ok-clause-unput
returns-in-Ok-clause-unput g c = λ none. absurd (never_refused _ _ c.in-Ok.ensures none)

pub returns-in-Ok-clause-end_line : goal.returns-in-Ok-clause-end_line
returns-in-Ok-clause-end_line g c = rw (are_accepted _ _ c.in-Ok.ensures) c.put_end_line.ensures

pub returns-in-Err-clause-writes : goal.returns-in-Err-clause-writes
returns-in-Err-clause-writes g c =
    rw c.reason_by_args_error.ensures (words_fit (λ held args. bootmem61_outcome (Some args) held)
    (g.F.Files.holds c.args.files.now) _ c.in-Err.error c.in-Err.ensures)

pub returns-in-Err-clause-cause : goal.returns-in-Err-clause-cause
returns-in-Err-clause-cause g c =
    rw c.reason_by_args_error.ensures
    (words_cause bootmem61 (g.F.Files.faults c.args.files.now) (g.F.Files.faults c.args.files.now) _ c.in-Err.error c.in-Err.ensures)
