-- How a program ends: its status, what it wrote to its output, and what it wrote to the error
-- output. `said` is the outcome, which the command line and the files determine: the result, or
-- the reason why there is none.
use Rattle.std.specs.Prelude.{◌≡◌, ℕ, List, Option, Result, Ok, Err, IsOkAnd, ◌⊎◌}
use Rattle.std.specs.Io.KnownBytes.{Appends}
use Rattle.bm_io.specs.Counts.{Rose}
use Rattle.bm_io.specs.Known.{AppendsFront}
use Rattle.bm_io.specs.declared.writing.Put.TheVariants as put
use Rattle.bm_io.specs.declared.writing.Sink.{Ghosts as SinkOf}
use Rattle.program_end.specs.Fetches.{FitsError}
use Rattle.program_end.specs.Line.{PutsLine}
use Rattle.program_end.specs.Program.{Program}
use Rattle.program_end.specs.Status.{End}
use Rattle.program_end.specs.declared.failure.Failure.{Failure}
use Rattle.program_end.specs.declared.failure.Failure.TheVariants as failures
use Rattle.program_end.specs.declared.failure.Reason.{Reason}
use Rattle.program_end.specs.declared.failure.Reason.TheVariants as reasons

-- how a program may end that writes the outcome `said` to its output. If it ended with a status,
-- the outcome is a result with this status, and the result's text was appended. If it ended
-- without a result, its error fits the outcome (`FitsError`). If the output failed, the outcome is
-- a result, and the first bytes of its text were appended (none, some or all).
abbrev pub WritesOutcome : {W I A F C : Type 0} → Program W I A → (old new : Option (List ℕ)) → End (Reason I F C) → Result A (Reason I F C)
    → Type 0
WritesOutcome program old new (Ok status) said =
    IsOkAnd said (λ result. (status ≡ program.status result) × Appends old new (program.text result))
WritesOutcome program old new (Err (failures.NoResult error)) said = FitsError program.place error said
WritesOutcome program old new (Err (failures.Output refusal)) said = IsOkAnd said (λ result. AppendsFront old new (program.text result))

-- What happened to the output, even if the contents of the files are unknown. Without a result the
-- output is unchanged. If the output refused the text, its counter `faults` rose. If memory ran
-- out while the text was written, its counter `wants` rose.
abbrev pub WritingHasCause : {S R : Type 0} → SinkOf S → (old new : S) → End R → Type 0
WritingHasCause sink old new (Ok status) = Unit {0}
WritingHasCause sink old new (Err (failures.NoResult error)) = new ≡ old
WritingHasCause sink old new (Err (failures.Output put.Failed)) = Rose (sink.faults old) (sink.faults new)
WritingHasCause sink old new (Err (failures.Output put.Memory)) = Rose (sink.wants old) (sink.wants new)

-- if the program ended with a result, the error output is unchanged; if it failed, the one line
-- that says why was written to it, as far as the error output took it (`PutsLine`)
abbrev pub PutsEndLine : {E R : Type 0} → SinkOf E → (Failure R → List ℕ) → (old new : E) → End R → Type 0
PutsEndLine errors line old new (Ok status) = new ≡ old
PutsEndLine errors line old new (Err failure) = PutsLine errors old new (line failure)

-- the outcome `said` allows this failure. If the failure is that there is no result, its error
-- fits the outcome (`FitsError`). If it is that the output failed, the outcome is a result.
abbrev pub FitsFailure : {W I A F C : Type 0} → Program W I A → Failure (Reason I F C) → Result A (Reason I F C) → Type 0
FitsFailure program (failures.NoResult error) said = FitsError program.place error said
FitsFailure program (failures.Output refusal) said = IsOkAnd said (λ result. Unit {0})

-- the outcome is that some file has a fault
abbrev pub IsFaulty : {I F C A : Type 0} → Result A (Reason I F C) → Type 0
IsFaulty {I} {F} said = (input : I) × ((fault : F) × (said ≡ Err (reasons.Faulty input fault)))

-- the boot was stopped: no file has a fault, but for some cause there is no result
abbrev pub IsStopped : {I F C A : Type 0} → Result A (Reason I F C) → Type 0
IsStopped {I} {F} {C} said = (cause : C) × (said ≡ Err (reasons.Stopped cause))

-- the statuses that a program with this outcome may end with: that of the outcome, or 7 (out of
-- memory). If the command line is accepted it may also be 3 (a file couldn't be read). If the
-- outcome is a result it may also be 4 (the output refused the text).
abbrev pub MayEndWith : {W I A F C : Type 0} → Program W I A → Result A (Reason I F C) → ℕ → Type 0
MayEndWith program (Ok result) status = (status ≡ program.status result) ⊎ (status ≡ 3) ⊎ (status ≡ 4) ⊎ (status ≡ 7)
MayEndWith program (Err reasons.Usage) status = (status ≡ 2) ⊎ (status ≡ 7)
MayEndWith program (Err (reasons.Unread input)) status = (status ≡ 3) ⊎ (status ≡ 7)
MayEndWith program (Err (reasons.Faulty input fault)) status = (status ≡ 5) ⊎ (status ≡ 3) ⊎ (status ≡ 7)
MayEndWith program (Err (reasons.Stopped cause)) status = (status ≡ 6) ⊎ (status ≡ 3) ⊎ (status ≡ 7)
