-- What must have happened before a program reports an error, even if the contents of the files are
-- unknown. For each file name, `before` and `now` give its counter of faults (`faults` of
-- `Files`), before the call and after it.
use Rattle.std.specs.Prelude.{◌≡◌, ℕ, List, Option, Some, None, Ok, Err, IsNone, IsSome}
use Rattle.bm_io.specs.Counts.{Rose}
use Rattle.program_end.specs.Program.{Program}
use Rattle.program_end.specs.Status.{End}
use Rattle.program_end.specs.declared.failure.Failure.{Failure}
use Rattle.program_end.specs.declared.failure.Failure.TheVariants as failures
use Rattle.program_end.specs.declared.failure.NoResult.{NoResult}
use Rattle.program_end.specs.declared.failure.NoResult.TheVariants as errors
use Rattle.program_end.specs.declared.failure.Reason.{Reason}
use Rattle.program_end.specs.declared.failure.Reason.TheVariants as reasons

-- there is a file name, and the counter of faults of this name rose
abbrev pub FaultsRose : (before now : List ℕ → ℕ) → Option (List ℕ) → Type 0
FaultsRose before now None = ⊥
FaultsRose before now (Some name) = Rose (before name) (now name)

-- the error is one of three: out of memory; a file with a fault; or a file that couldn't be read.
-- In the last case the input has a file name, and the counter of faults of this name rose.
abbrev pub IsFileError : {I F C : Type 0} → (before now : List ℕ → ℕ) → (I → Option (List ℕ)) → NoResult (Reason I F C) → Type 0
IsFileError before now named (errors.Reason reasons.Usage) = ⊥
IsFileError before now named (errors.Reason (reasons.Unread input)) = FaultsRose before now (named input)
IsFileError before now named (errors.Reason (reasons.Faulty input fault)) = Unit {0}
IsFileError before now named (errors.Reason (reasons.Stopped cause)) = ⊥
IsFileError before now named errors.Memory = Unit {0}

-- the error is out of memory, or the file of this input couldn't be read or has a fault
abbrev pub IsErrorOfInput : {I F C : Type 0} → I → NoResult (Reason I F C) → Type 0
IsErrorOfInput input (errors.Reason reasons.Usage) = ⊥
IsErrorOfInput input (errors.Reason (reasons.Unread other)) = other ≡ input
IsErrorOfInput input (errors.Reason (reasons.Faulty other fault)) = other ≡ input
IsErrorOfInput input (errors.Reason (reasons.Stopped cause)) = ⊥
IsErrorOfInput input errors.Memory = Unit {0}

-- the command line is accepted and names a file for the input, and the counter of faults of this
-- file's name rose
abbrev pub InputFaultsRose : {W I A : Type 0} → Program W I A → (before now : List ℕ → ℕ) → Option W → I → Type 0
InputFaultsRose program before now None input = ⊥
InputFaultsRose program before now (Some wanted) input = FaultsRose before now (program.named wanted input)

-- what must have happened before this reason is reported. For `Usage` the command line isn't
-- accepted. For `Unread` the counter of faults of the file's name rose. For the others the command
-- line is accepted.
abbrev pub ReasonHasCause : {W I A F C : Type 0} → Program W I A → (before now : List ℕ → ℕ) → Option W → Reason I F C → Type 0
ReasonHasCause program before now accepted reasons.Usage = IsNone accepted
ReasonHasCause program before now accepted (reasons.Unread input) = InputFaultsRose program before now accepted input
ReasonHasCause program before now accepted (reasons.Faulty input fault) = IsSome accepted
ReasonHasCause program before now accepted (reasons.Stopped cause) = IsSome accepted

-- what must have happened before this error is reported. Out of memory requires nothing, since
-- memory may run out even while the command line is read.
abbrev pub ErrorHasCause : {W I A F C : Type 0} → Program W I A → (before now : List ℕ → ℕ) → Option W → NoResult (Reason I F C) → Type 0
ErrorHasCause program before now accepted (errors.Reason reason) = ReasonHasCause program before now accepted reason
ErrorHasCause program before now accepted errors.Memory = Unit {0}

-- what must have happened before this failure is reported. If the output refused the text or ran
-- out of memory, the command line is accepted.
abbrev pub FailureHasCause : {W I A F C : Type 0} → Program W I A → (before now : List ℕ → ℕ) → Option W → Failure (Reason I F C) → Type 0
FailureHasCause program before now accepted (failures.NoResult error) = ErrorHasCause program before now accepted error
FailureHasCause program before now accepted (failures.Output refusal) = IsSome accepted

-- what must have happened before a program ends in this way. If it ends with a status, the command
-- line is accepted, and some result has this status.
abbrev pub EndHasCause : {W I A F C : Type 0} → Program W I A → (before now : List ℕ → ℕ) → Option W → End (Reason I F C) → Type 0
EndHasCause {A = A} program before now accepted (Ok status) = IsSome accepted × ((result : A) × (status ≡ program.status result))
EndHasCause program before now accepted (Err failure) = FailureHasCause program before now accepted failure
