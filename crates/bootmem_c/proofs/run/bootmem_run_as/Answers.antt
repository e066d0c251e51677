-- With a status other than 7, memory didn't run out for the line, and the outputs are those of the
-- run.
use Rattle.std.proofs.Common.{◌∙◌, ℕ, List, arith, subst, sym}
use Rattle.bootmem_c.specs.Call.{outcome_as}
use Rattle.bootmem_c.specs.Copies.{CopiesText}
use Rattle.bootmem_c.proofs.RunLaws.{taken_by, whole_run}
use Rattle.bootmem_c.proofs.run.bootmem_run_as.Goals as goal

pub returns-clause-written : goal.returns-clause-written
returns-clause-written c = λ zero.
    let ran = whole_run c.run_lent_files-ran.new.line.is_short c.run_lent_files-ran.result c.status_after_line-status.result
    c.status_after_line-status.ensures.whole c.status_after_line-status.ensures.short (λ seven. omega (arith, zero, seven)) in
    taken_by (outcome_as c.args.profile c.args.words.now c.args.files.now) c.run_lent_files-ran.new.report.text c.args.out.now
    c.copy_text.new.out
    (c.run_lent_files-ran.ensures.written (sym ran.1 ∙ zero))
    (subst (λ (text : List ℕ). CopiesText text c.args.out.now c.copy_text.new.out)
    (c.report_text_for_status.ensures.written zero) c.copy_text.ensures)

pub returns-clause-headline : goal.returns-clause-headline
returns-clause-headline c = λ zero.
    let ran = whole_run c.run_lent_files-ran.new.line.is_short c.run_lent_files-ran.result c.status_after_line-status.result
    c.status_after_line-status.ensures.whole c.status_after_line-status.ensures.short (λ seven. omega (arith, zero, seven)) in (
      c.run_lent_files-ran.new.report.text,
      subst (λ (text : List ℕ). CopiesText text c.args.out.now c.copy_text.new.out)
          (c.report_text_for_status.ensures.written zero) c.copy_text.ensures,
      c.run_lent_files-ran.ensures.headline (sym ran.1 ∙ zero),
    )

pub returns-clause-line : goal.returns-clause-line
returns-clause-line c = λ some other.
    let ran = whole_run c.run_lent_files-ran.new.line.is_short c.run_lent_files-ran.result c.status_after_line-status.result
    c.status_after_line-status.ensures.whole c.status_after_line-status.ensures.short other in
    subst (λ (text : List ℕ). CopiesText text c.args.err.now c.copy_text-2.new.out)
    (c.error_text_for_status.ensures.line some other
    ∙ c.run_lent_files-ran.ensures.line (λ zero. some (ran.1 ∙ zero)) (λ seven. other (ran.1 ∙ seven)) ran.0)
    c.copy_text-2.ensures
