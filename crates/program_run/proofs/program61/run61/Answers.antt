-- The clauses of `run61` follow from how its end fits the outcome.
use Rattle.program_end.proofs.EndLaws.{failure_status_has_line}
use Rattle.program_args.specs.Args.{bytes_of_words, named61, read_args61}
use Rattle.program_run.specs.Bootmem.{bootmem61}
use Rattle.program_run.specs.Headline.{AppendsReports61}
use Rattle.program_run.specs.Line.{bootmem61_failure_line}
use Rattle.program_run.specs.Outcome.{bootmem61_outcome}
use Rattle.program_run.proofs.HeadlineLaws.{is_reported61, never_eight, ran_answers, ran_headline, ran_refused, ran_unread, ran_written}
use Rattle.program_run.proofs.program61.run61.Goals as goal

pub returns-clause-headline : goal.returns-clause-headline
returns-clause-headline g c =
    let end = c.run61_to_end-end in
    let args = read_args61 (bytes_of_words c.args.words.now) in
    let old = g.S.Sink.written c.args.out.now in
    let new = g.S.Sink.written end.new.out in
    ran_headline named61 end.result _ c.exit_status.ensures old new (bootmem61_outcome args)
    (λ held. AppendsReports61 args held old new) (λ held. is_reported61 args held old new) _ end.ensures.writes

pub returns-clause-line : goal.returns-clause-line
returns-clause-line g c = λ some.
    let end = c.run61_to_end-end in
    let args = read_args61 (bytes_of_words c.args.words.now) in
    let before = g.F.Files.faults c.args.files.now in
    let now = g.F.Files.faults end.new.files in
    failure_status_has_line bootmem61 g.E.Sink
    (bootmem61_failure_line args) before now args _ _ _ _ end.result _ c.exit_status.ensures end.ensures.cause
    end.ensures.end_line _ (bootmem61_outcome args) end.ensures.writes some
    (never_eight named61 end.result _ c.exit_status.ensures before now args end.ensures.cause)

pub returns-clause-unread : goal.returns-clause-unread
returns-clause-unread g c =
    let end = c.run61_to_end-end in
    ran_unread named61 end.result _ c.exit_status.ensures (g.F.Files.faults c.args.files.now) (g.F.Files.faults end.new.files) _
    end.ensures.cause

pub returns-clause-refused : goal.returns-clause-refused
returns-clause-refused g c =
    let end = c.run61_to_end-end in
    ran_refused named61 end.result _ c.exit_status.ensures (g.F.Files.faults c.args.files.now)
    (g.F.Files.faults end.new.files) _ end.ensures.cause

pub returns-clause-answers : goal.returns-clause-answers
returns-clause-answers g c =
    let end = c.run61_to_end-end in
    ran_answers named61 end.result _ c.exit_status.ensures _ _
    (bootmem61_outcome (read_args61 (bytes_of_words c.args.words.now))) _ end.ensures.writes

pub returns-clause-written : goal.returns-clause-written
returns-clause-written g c =
    let end = c.run61_to_end-end in
    ran_written named61 end.result _ c.exit_status.ensures _ _
    (bootmem61_outcome (read_args61 (bytes_of_words c.args.words.now))) _ end.ensures.writes
