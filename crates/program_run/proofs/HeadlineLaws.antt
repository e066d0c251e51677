-- A text of the outcome of a program is the text of one boot. The laws on statuses hold for each of
-- the two programs.
use Rattle.std.proofs.Common.{◌≡◌, ◌≢◌, ℕ, List, Option, Some, None, IfSome, Result, Ok, Err, refl, sym, ◌∙◌, arith}
use Rattle.std.specs.Io.KnownBytes.{Appends}
use Rattle.std.specs.Prelude.{IsNone, IsOkAnd, ◌⊎◌}
use Rattle.bm_base.specs.ResultSteps.{◌>>=◌}
use Rattle.boot_inputs.specs.Inputs.{FileNames}
use Rattle.boot_inputs.specs.Reason.{InputsReason}
use Rattle.boot_model.specs.declared.stop.Cause.{Cause}
use Rattle.bm_io.specs.declared.writing.Put.TheVariants as put
use Rattle.boot_inputs.specs.declared.input.Input.{Input}
use Rattle.program_end.specs.declared.failure.Failure.TheVariants as failures
use Rattle.program_end.specs.declared.failure.NoResult.TheVariants as errors
use Rattle.program_end.specs.declared.failure.Reason.TheVariants as reasons
use Rattle.program_end.specs.Causes.{EndHasCause, InputFaultsRose}
use Rattle.program_end.specs.Ends.{MayEndWith, WritesOutcome}
use Rattle.program_end.specs.Program.{FileContents}
use Rattle.program_end.specs.Status.{End, exit_status}
use Rattle.boot_model.specs.Boot.{BootedView, no_extra, whole_boot, whole_boot_with}
use Rattle.conservation.proofs.ToldLaws.{own_told}
use Rattle.conservation.proofs.HeadlineLaws.{all_touched_or_in_one, blocks_maximal, blocks_whole, no_other_in_a_block}
use Rattle.debugfs_reports.specs.ReportList.{report_list_text}
use Rattle.program_run.specs.Bootmem.{reports_program}
use Rattle.program_run.specs.Headline.{AppendsReports, AppendsReports61}
use Rattle.program_run.specs.Outcome.{bootmem61_outcome, bootmem_outcome, linux_extra, value_or_stopped, read_boot_inputs, read_boot_inputs61, reports_of_list61, reports_on_boot, reports_on_boot61}
use Rattle.program_args.specs.Args.{BootmemArgsView, ProgramArgsView}

-- if two steps in a row succeed, the first returned a value, and the second succeeds from it
text_after : {A E : Type 0} (answer : Result A E) (next : A → Result (List ℕ) E) (P : List ℕ → Type 0)
    → IsOkAnd (answer >>= next) P → (a : A) × (answer ≡ Ok a) × IsOkAnd (next a) P
text_after (Ok a) next P is = (a, refl, is)
text_after (Err error) next P is = absurd is

boot_after : (answer : Result BootedView Cause) (next : BootedView → Result (List ℕ) InputsReason) (P : List ℕ → Type 0)
    → IsOkAnd (value_or_stopped answer >>= next) P → (booted : BootedView) × (answer ≡ Ok booted) × IsOkAnd (next booted) P
boot_after (Ok booted) next P is = (booted, refl, is)
boot_after (Err cause) next P is = absurd is

pub is_reported : (accepted : Option BootmemArgsView) (held : FileContents) (old new : Option (List ℕ))
    → IsOkAnd (bootmem_outcome accepted held) (λ text. Appends old new text) → AppendsReports accepted held old new
is_reported None held old new is = absurd is
is_reported (Some args) held old new is =
    let P : List ℕ → Type 0 = λ text. Appends old new text in
    let first = text_after (read_boot_inputs held args) (reports_on_boot args.reports) P is in
    let last = boot_after (whole_boot first.0) (λ booted. Ok (report_list_text args.reports booted)) P first.2 in
    record {
      args = args;
      inputs = first.0;
      booted = last.0;
      args_read = refl;
      inputs_read = first.1;
      boots = last.1;
      written = last.2;
      each = all_touched_or_in_one no_extra first.0 last.0 (own_told last.0 first.0 last.1);
      others = no_other_in_a_block no_extra first.0 last.0 (own_told last.0 first.0 last.1);
      whole = blocks_whole no_extra first.0 last.0 (own_told last.0 first.0 last.1);
      maximal = blocks_maximal no_extra first.0 last.0 (own_told last.0 first.0 last.1);
    }

pub is_reported61 : (accepted : Option ProgramArgsView) (held : FileContents) (old new : Option (List ℕ))
    → IsOkAnd (bootmem61_outcome accepted held) (λ text. Appends old new text) → AppendsReports61 accepted held old new
is_reported61 None held old new is = absurd is
is_reported61 (Some args) held old new is =
    let P : List ℕ → Type 0 = λ text. Appends old new text in
    let reports = reports_of_list61 args.list in
    let first = text_after (read_boot_inputs61 held args) (reports_on_boot61 reports) P is in
    let extra = linux_extra first.0.claims in
    let read = first.0.inputs in
    let last = boot_after (whole_boot_with extra read) (λ booted. Ok (report_list_text reports booted)) P first.2 in
    record {
      args = args;
      read = first.0;
      booted = last.0;
      args_read = refl;
      inputs_read = first.1;
      boots = last.1;
      written = last.2;
      each = all_touched_or_in_one extra read last.0 last.1;
      others = no_other_in_a_block extra read last.0 last.1;
      whole = blocks_whole extra read last.0 last.1;
      maximal = blocks_maximal extra read last.0 last.1;
    }

unread_end : {W : Type 0} (named : W → FileNames) (before now : List ℕ → ℕ) (accepted : Option W) (end : End InputsReason)
    → EndHasCause (reports_program named) before now accepted end → exit_status end ≡ 3
    → (input : Input) × InputFaultsRose (reports_program named) before now accepted input
unread_end named before now accepted (Ok status) cause three = absurd (grind (arith, cause, three))
unread_end named before now accepted (Err (failures.NoResult (errors.Reason reasons.Usage))) cause three = absurd (cc three)
unread_end named before now accepted (Err (failures.NoResult (errors.Reason (reasons.Unread input)))) cause three = (input, cause)
unread_end named before now accepted (Err (failures.NoResult (errors.Reason (reasons.Faulty input fault)))) cause three = absurd (cc three)
unread_end named before now accepted (Err (failures.NoResult (errors.Reason (reasons.Stopped why)))) cause three = absurd (cc three)
unread_end named before now accepted (Err (failures.NoResult errors.Memory)) cause three = absurd (cc three)
unread_end named before now accepted (Err (failures.Output put.Failed)) cause three = absurd (cc three)
unread_end named before now accepted (Err (failures.Output put.Memory)) cause three = absurd (cc three)

-- `named` gives the names of the program's files, and `said` is its outcome
module _ {W : Type 0} (named : W → FileNames) (end : End InputsReason) (status : ℕ) (is : status ≡ exit_status end) where
  text_written : (old new : Option (List ℕ)) (said : Result (List ℕ) InputsReason) → WritesOutcome (reports_program named) old new end said
      → status ≡ 0 → IsOkAnd said (λ text. Appends old new text)
  text_written old new said writes zero = grind (arith, is)

  -- with status 0 what follows from a written text holds
  pub ran_headline : (old new : Option (List ℕ)) (said : FileContents → Result (List ℕ) InputsReason) (P : FileContents → Type 0)
      → ((held : FileContents) → IsOkAnd (said held) (λ text. Appends old new text) → P held)
      → (holds : Option FileContents) → IfSome holds (λ held. WritesOutcome (reports_program named) old new end (said held))
      → status ≡ 0 → IfSome holds P
  ran_headline old new said P follows None writes zero = tt
  ran_headline old new said P follows (Some held) writes zero = follows held (text_written old new (said held) writes zero)

  -- with status 0 the text of the outcome was appended whole
  pub ran_written : (old new : Option (List ℕ)) (said : FileContents → Result (List ℕ) InputsReason)
      → (holds : Option FileContents) → IfSome holds (λ held. WritesOutcome (reports_program named) old new end (said held))
      → status ≡ 0 → IfSome holds (λ held. IsOkAnd (said held) (λ text. Appends old new text))
  ran_written old new said holds writes zero =
      ran_headline old new said (λ held. IsOkAnd (said held) (λ text. Appends old new text)) (λ held written. written) holds writes zero

  answers : (old new : Option (List ℕ)) (said : Result (List ℕ) InputsReason) → WritesOutcome (reports_program named) old new end said
      → MayEndWith (reports_program named) said status
  answers old new said writes = grind (arith, is)

  pub ran_answers : (old new : Option (List ℕ)) (said : FileContents → Result (List ℕ) InputsReason)
      → (holds : Option FileContents) → IfSome holds (λ held. WritesOutcome (reports_program named) old new end (said held))
      → IfSome holds (λ held. MayEndWith (reports_program named) (said held) status)
  ran_answers old new said None writes = tt
  ran_answers old new said (Some held) writes = answers old new (said held) writes

  -- with status 3 the faults of a file with a name rose
  pub ran_unread : (before now : List ℕ → ℕ) (accepted : Option W) → EndHasCause (reports_program named) before now accepted end
      → status ≡ 3 → (input : Input) × InputFaultsRose (reports_program named) before now accepted input
  ran_unread before now accepted cause three = unread_end named before now accepted end cause (sym is ∙ three)

  pub ran_refused : (before now : List ℕ → ℕ) (accepted : Option W) → EndHasCause (reports_program named) before now accepted end
      → IsNone accepted → (status ≡ 2) ⊎ (status ≡ 7)
  ran_refused before now accepted cause none = grind (arith, is)

  -- a program that prints reports never ends with status 8, which only the audit has
  pub never_eight : (before now : List ℕ → ℕ) (accepted : Option W) → EndHasCause (reports_program named) before now accepted end
      → status ≢ 8
  never_eight before now accepted cause = λ eight. grind (arith, is)
