-- What the status of the audit says about memory.
use Rattle.std.proofs.Common.{◌≡◌, ℕ, List, Option, Some, None, Result, Ok, arith}
use Rattle.std.specs.Prelude.{IfSome, ◌⊎◌}
use Rattle.bm_io.specs.Counts.{Rose}
use Rattle.bm_io.specs.declared.writing.Sink.{Ghosts as SinkOf}
use Rattle.program_end.specs.Causes.{EndHasCause, InputFaultsRose}
use Rattle.program_end.specs.Ends.{WritesOutcome, WritingHasCause}
use Rattle.program_end.specs.Program.{FileContents}
use Rattle.program_end.specs.Status.{End, exit_status}
use Rattle.program_end.proofs.EndLaws.{complete_unless_memory}
use Rattle.boot_audit.specs.declared.failure.SavedReport.{SavedReport}
use Rattle.boot_audit.specs.declared.judgement.Verdict.{Verdict}
use Rattle.boot_audit.specs.declared.judgement.Verdict.TheVariants as verdicts
use Rattle.boot_audit.specs.Audit.{bootaudit}
use Rattle.boot_audit.specs.Headline.{FilesConserveMemory}
use Rattle.boot_audit.specs.Outcome.{audit_outcome}
use Rattle.boot_audit.specs.Reason.{AuditReason}
use Rattle.boot_audit.specs.Args.{AuditArgsView}
use Rattle.boot_audit.proofs.HeadlineLaws.{conserved_sound, sound_conserved}

-- only the verdict `Sound` gives status 0
sound_said : (old new : Option (List ℕ)) (end : End AuditReason) (status : ℕ) (said : Result Verdict AuditReason) → status ≡ exit_status end
    → WritesOutcome bootaudit old new end said → status ≡ 0 → said ≡ Ok verdicts.Sound
sound_said old new end status said is writes zero = grind arith

module _ (accepted : Option AuditArgsView) (end : End AuditReason) (status : ℕ) (is : status ≡ exit_status end) where
  -- status 0 implies that memory was conserved
  pub ran_headline : (old new : Option (List ℕ)) (holds : Option FileContents)
      → IfSome holds (λ held. WritesOutcome bootaudit old new end (audit_outcome accepted held)) → status ≡ 0
      → IfSome holds (FilesConserveMemory accepted)
  ran_headline old new None writes zero = tt
  ran_headline old new (Some held) writes zero =
      sound_conserved accepted held (sound_said old new end status (audit_outcome accepted held) is writes zero)

  -- if memory was conserved, and neither a file nor the output failed, the status is 0, or 7 for
  -- out of memory
  pub ran_conserved : {S : Type 0} (sink : SinkOf S) (old new : S) (before now : List ℕ → ℕ)
      → EndHasCause bootaudit before now accepted end → WritingHasCause sink old new end → (holds : Option FileContents)
      → IfSome holds (λ held. WritesOutcome bootaudit (sink.written old) (sink.written new) end (audit_outcome accepted held))
      → IfSome holds (λ held. FilesConserveMemory accepted held → ¬ Rose (sink.faults old) (sink.faults new)
      → ((report : SavedReport) → ¬ InputFaultsRose bootaudit before now accepted report) → (status ≡ 0) ⊎ (status ≡ 7))
  ran_conserved sink old new before now cause output None writes = tt
  ran_conserved sink old new before now cause output (Some held) writes = λ kept.
      complete_unless_memory bootaudit sink before now accepted old new end status is cause output
      (audit_outcome accepted held) writes verdicts.Sound
      (conserved_sound accepted held kept)
