-- The contract of each program, for these words and the lent files, holds for its profile.
use Rattle.std.proofs.Common.{ℕ, List, Some, subst}
use Rattle.bm_io.specs.MemFiles.{file_bytes}
use Rattle.program_args.specs.Args.{bytes_of_words, named61, read_args, read_args61}
use Rattle.program_run.specs.Headline.{AppendsReports, AppendsReports61}
use Rattle.program_run.specs.Line.{bootmem61_name, bootmem_name}
use Rattle.program_run.specs.Outcome.{bootmem61_outcome, bootmem_outcome}
use Rattle.bootmem_c.proofs.ExactLaws.{bootmem61_names_unread, bootmem_names_unread}
use Rattle.bootmem_c.proofs.NameLaws.{names_no_claims}
use Rattle.bootmem_c.proofs.RunLaws.{appended_to_nothing, ran_line, ran_status}
use Rattle.bootmem_c.proofs.run.run_strings.Goals as goal

pub returns-in-Own-clause-status : goal.returns-in-Own-clause-status
returns-in-Own-clause-status c =
    let asked = read_args (bytes_of_words c.args.words.now) in
    let held = file_bytes c.new-lent.result.files in
    rw (c.in-Own.is, ← c.new-lent.ensures.files)
    (ran_status bootmem_name (λ args. args.named) c.new-lent.result c.run.new.files asked (bootmem_outcome asked held)
    (bootmem_names_unread held asked (names_no_claims (bytes_of_words c.args.words.now))) _ _ c.run.result c.run.ensures.unwritten
    c.run.ensures.written c.run.ensures.line)

pub returns-in-Own-clause-written : goal.returns-in-Own-clause-written
returns-in-Own-clause-written c = λ zero.
    rw (c.in-Own.is, ← c.new-lent.ensures.files)
    (appended_to_nothing (bootmem_outcome (read_args (bytes_of_words c.args.words.now)) (file_bytes c.new-lent.result.files))
    c.args.report.now.text c.run.new.out.text c.requires.empty (c.run.ensures.written zero))

pub returns-in-Own-clause-headline : goal.returns-in-Own-clause-headline
returns-in-Own-clause-headline c = λ zero.
    rw (c.in-Own.is, ← c.new-lent.ensures.files)
    (subst (λ (before : List ℕ). AppendsReports (read_args (bytes_of_words c.args.words.now)) (file_bytes c.new-lent.result.files)
    (Some before) (Some c.run.new.out.text)) c.requires.empty (c.run.ensures.headline zero))

pub returns-in-Own-clause-line : goal.returns-in-Own-clause-line
returns-in-Own-clause-line c = λ some other short.
    let asked = read_args (bytes_of_words c.args.words.now) in
    let held = file_bytes c.new-lent.result.files in
    rw (c.in-Own.is, ← c.new-lent.ensures.files)
    (ran_line bootmem_name (λ args. args.named) c.new-lent.result c.run.new.files asked (bootmem_outcome asked held)
    (bootmem_names_unread held asked (names_no_claims (bytes_of_words c.args.words.now))) c.args.line.now c.run.new.err c.run.result
    c.run.ensures.unwritten c.requires.no_line c.requires.not_short c.run.ensures.line some other short)

pub returns-in-Linux61-clause-status : goal.returns-in-Linux61-clause-status
returns-in-Linux61-clause-status c =
    let asked = read_args61 (bytes_of_words c.args.words.now) in
    let held = file_bytes c.new-lent.result.files in
    rw (c.in-Linux61.is, ← c.new-lent.ensures.files)
    (ran_status bootmem61_name named61 c.new-lent.result c.run61.new.files asked (bootmem61_outcome asked held)
    (bootmem61_names_unread held asked) _ _ c.run61.result c.run61.ensures.unwritten c.run61.ensures.written c.run61.ensures.line)

pub returns-in-Linux61-clause-written : goal.returns-in-Linux61-clause-written
returns-in-Linux61-clause-written c = λ zero.
    rw (c.in-Linux61.is, ← c.new-lent.ensures.files)
    (appended_to_nothing (bootmem61_outcome (read_args61 (bytes_of_words c.args.words.now)) (file_bytes c.new-lent.result.files))
    c.args.report.now.text c.run61.new.out.text c.requires.empty (c.run61.ensures.written zero))

pub returns-in-Linux61-clause-headline : goal.returns-in-Linux61-clause-headline
returns-in-Linux61-clause-headline c = λ zero.
    rw (c.in-Linux61.is, ← c.new-lent.ensures.files)
    (subst (λ (before : List ℕ). AppendsReports61 (read_args61 (bytes_of_words c.args.words.now)) (file_bytes c.new-lent.result.files)
    (Some before) (Some c.run61.new.out.text)) c.requires.empty (c.run61.ensures.headline zero))

pub returns-in-Linux61-clause-line : goal.returns-in-Linux61-clause-line
returns-in-Linux61-clause-line c = λ some other short.
    let asked = read_args61 (bytes_of_words c.args.words.now) in
    let held = file_bytes c.new-lent.result.files in
    rw (c.in-Linux61.is, ← c.new-lent.ensures.files)
    (ran_line bootmem61_name named61 c.new-lent.result c.run61.new.files asked (bootmem61_outcome asked held)
    (bootmem61_names_unread held asked) c.args.line.now c.run61.new.err c.run61.result c.run61.ensures.unwritten c.requires.no_line
    c.requires.not_short c.run61.ensures.line some other short)
