-- What follows from a program's exit status.
use Rattle.std.proofs.Common.{◌≡◌, ◌≢◌, ℕ, List, Option, Result, Ok, Err, arith}
use Rattle.std.specs.Prelude.{IfSome, IsNone, IsOkAnd, ◌⊎◌}
use Rattle.std.specs.Io.KnownBytes.{Appends}
use Rattle.bm_io.specs.Counts.{Rose}
use Rattle.bm_io.specs.Known.{AppendsFront}
use Rattle.bm_io.specs.declared.writing.Put.TheVariants as put
use Rattle.bm_io.specs.declared.writing.Sink.{Ghosts as SinkOf}
use Rattle.program_end.specs.declared.failure.Failure.{Failure}
use Rattle.program_end.specs.declared.failure.Failure.TheVariants as failures
use Rattle.program_end.specs.declared.failure.NoResult.TheVariants as errors
use Rattle.program_end.specs.declared.failure.Reason.{Reason}
use Rattle.program_end.specs.declared.failure.Reason.TheVariants as reasons
use Rattle.program_end.specs.Causes.{EndHasCause, FailureHasCause, InputFaultsRose}
use Rattle.program_end.specs.Ends.{FitsFailure, IsFaulty, IsStopped, PutsEndLine, MayEndWith, WritesOutcome, WritingHasCause}
use Rattle.program_end.specs.Line.{PutsLine}
use Rattle.program_end.specs.Program.{FileContents, Program}
use Rattle.program_end.specs.Status.{End, failure_status, exit_status}

-- for every end: `is` gives its status, `cause` its cause, and `output` what holds of the output
-- whether or not the files' contents are known
module _ {W I A F C S : Type 0} (program : Program W I A) (sink : SinkOf S) (before now : List ℕ → ℕ) (accepted : Option W) (old new : S)
    (end : End (Reason I F C)) (status : ℕ) (is : status ≡ exit_status end) (cause : EndHasCause program before now accepted end)
    (output : WritingHasCause sink old new end) where
  pub ends_refused : status ≡ 2 → IsNone accepted
  ends_refused two = grind (arith, program.statuses)

  pub refused_ends : IsNone accepted → (status ≡ 2) ⊎ (status ≡ 7)
  refused_ends none = grind arith

  pub ends_unwritten : status ≡ 4 → Rose (sink.faults old) (sink.faults new)
  ends_unwritten four = grind (arith, program.statuses)

  pub ends_early : (status ≡ 2) ⊎ (status ≡ 3) ⊎ (status ≡ 5) ⊎ (status ≡ 6) → new ≡ old
  ends_early early = grind (arith, program.statuses)

  pub ends_wanting : status ≡ 7 → (new ≡ old) ⊎ Rose (sink.wants old) (sink.wants new)
  ends_wanting seven = grind (arith, program.statuses)

  -- what holds if the files' contents are known; `said` is the outcome
  module _ (said : Result A (Reason I F C)) (writes : WritesOutcome program (sink.written old) (sink.written new) end said) where
    pub status_fits_outcome : MayEndWith program said status
    status_fits_outcome = grind arith

    pub ends_written : (status ≡ 0) ⊎ (status ≡ 8)
        → IsOkAnd said (λ result. (status ≡ program.status result) × Appends (sink.written old) (sink.written new) (program.text result))
    ends_written some = grind arith

    pub ends_part : status ≡ 4 → IsOkAnd said (λ result. AppendsFront (sink.written old) (sink.written new) (program.text result))
    ends_part four = grind (arith, program.statuses)

    pub ends_wanted : status ≡ 7 → (sink.written new ≡ sink.written old)
        ⊎ IsOkAnd said (λ result. AppendsFront (sink.written old) (sink.written new) (program.text result))
    ends_wanted seven = grind (arith, program.statuses)

    pub ends_faulty : status ≡ 5 → IsFaulty said
    ends_faulty five = grind (arith, program.statuses)

    pub ends_stopped : status ≡ 6 → IsStopped said
    ends_stopped six = grind (arith, program.statuses)

    -- if no counter of faults rose, of the output or of a file, a result is written unless
    -- memory runs out
    pub complete_unless_memory : (result : A) → said ≡ Ok result → ¬ Rose (sink.faults old) (sink.faults new)
        → ((input : I) → ¬ InputFaultsRose program before now accepted input) → (status ≡ program.status result) ⊎ (status ≡ 7)
    complete_unless_memory result is_said written read = grind (arith, program.statuses, read)

  pub ends_unread : status ≡ 3 → (input : I) × InputFaultsRose program before now accepted input
  ends_unread three = grind (arith, program.statuses)

-- a status other than 0 and 8 is that of a failure, whose line was written, which has its cause,
-- and which fits the outcome
pub failure_status_has_line : {W I A F C E : Type 0} (program : Program W I A) (errors : SinkOf E) (line : Failure (Reason I F C) → List ℕ)
    (before now : List ℕ → ℕ) (accepted : Option W) (old new : Option (List ℕ)) (err_old err_new : E) (end : End (Reason I F C))
    (status : ℕ)
    → status ≡ exit_status end → EndHasCause program before now accepted end → PutsEndLine errors line err_old err_new end
    → (holds : Option FileContents) (outcome : FileContents → Result A (Reason I F C))
    → IfSome holds (λ held. WritesOutcome program old new end (outcome held))
    → status ≢ 0 → status ≢ 8
    → (failure : Failure (Reason I F C)) × (status ≡ failure_status failure) × PutsLine errors err_old err_new (line failure)
    × FailureHasCause program before now accepted failure × IfSome holds (λ held. FitsFailure program failure (outcome held))
failure_status_has_line program errors line before now accepted old new err_old err_new
    (Ok result) status is cause told holds outcome writes zero eight =
    absurd (grind (arith, program.statuses))
failure_status_has_line program errors line before now accepted old new err_old err_new
    (Err failure) status is cause told holds outcome writes zero
    eight =
    (failure, is, told, cause, grind (arith, writes))

pub ends_silent : {W I A F C E : Type 0} (program : Program W I A) (errors : SinkOf E) (line : Failure (Reason I F C) → List ℕ)
    (err_old err_new : E) (end : End (Reason I F C)) (status : ℕ) → status ≡ exit_status end → PutsEndLine errors line err_old err_new end
    → (status ≡ 0) ⊎ (status ≡ 8) → err_new ≡ err_old
ends_silent program errors line err_old err_new end status is told some = grind arith
