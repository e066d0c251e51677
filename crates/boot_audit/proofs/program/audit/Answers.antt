-- The clauses on the headline and on the error line follow from how the run's end fits the outcome.
use Rattle.std.specs.Option.{option_map}
use Rattle.program_end.proofs.EndLaws.{failure_status_has_line}
use Rattle.boot_audit.specs.Audit.{bootaudit}
use Rattle.boot_audit.specs.Line.{audit_failure_line}
use Rattle.boot_audit.specs.Outcome.{audit_outcome}
use Rattle.boot_audit.specs.View.{audit_args_view}
use Rattle.boot_audit.proofs.RunLaws.{ran_conserved, ran_headline}
use Rattle.boot_audit.proofs.program.audit.Goals as goal

pub returns-clause-headline : goal.returns-clause-headline
returns-clause-headline g c =
    let end = c.write_verdict-end in
    rw (← c.read_audit_args-names.ensures)
    (ran_headline (option_map audit_args_view c.read_audit_args-names.result) end.result _ c.exit_status.ensures _ _ _ end.ensures.writes)

pub returns-clause-conserved : goal.returns-clause-conserved
returns-clause-conserved g c =
    let end = c.write_verdict-end in
    rw (← c.read_audit_args-names.ensures)
    (ran_conserved (option_map audit_args_view c.read_audit_args-names.result) end.result _ c.exit_status.ensures g.S.Sink _ _
    (g.F.Files.faults c.args.files.now) (g.F.Files.faults end.new.files) end.ensures.cause end.ensures.output _ end.ensures.writes)

pub returns-clause-line : goal.returns-clause-line
returns-clause-line g c =
    let end = c.write_verdict-end in
    let args = option_map audit_args_view c.read_audit_args-names.result in
    rw (← c.read_audit_args-names.ensures)
    (failure_status_has_line bootaudit g.E.Sink (audit_failure_line args) (g.F.Files.faults c.args.files.now)
    (g.F.Files.faults end.new.files) args _ _ _ _
    end.result _ c.exit_status.ensures end.ensures.cause c.put_end_line.ensures _ (audit_outcome args) end.ensures.writes)
