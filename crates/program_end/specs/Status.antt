-- The exit status of each end of a program.
use Rattle.std.specs.Prelude.{ℕ, Result, Ok, Err}
use Rattle.bm_io.specs.declared.writing.Put.{Put}
use Rattle.bm_io.specs.declared.writing.Put.TheVariants as put
use Rattle.program_end.specs.declared.failure.Failure.{Failure}
use Rattle.program_end.specs.declared.failure.Failure.TheVariants as failures
use Rattle.program_end.specs.declared.failure.NoResult.{NoResult}
use Rattle.program_end.specs.declared.failure.NoResult.TheVariants as errors
use Rattle.program_end.specs.declared.failure.Reason.{Reason}
use Rattle.program_end.specs.declared.failure.Reason.TheVariants as reasons

-- the exit status of a reason
abbrev pub reason_status : {I F C : Type 0} → Reason I F C → ℕ
reason_status reasons.Usage = 2
reason_status (reasons.Unread input) = 3
reason_status (reasons.Faulty input fault) = 5
reason_status (reasons.Stopped cause) = 6

-- the exit status of a call that returns no result: that of its reason, or 7 if it ran out of
-- memory
abbrev pub error_status : {I F C : Type 0} → NoResult (Reason I F C) → ℕ
error_status (errors.Reason reason) = reason_status reason
error_status errors.Memory = 7

-- the exit status if the output refused the text or ran out of memory
abbrev pub refusal_status : Put → ℕ
refusal_status put.Failed = 4
refusal_status put.Memory = 7

-- the exit status of a failure
abbrev pub failure_status : {I F C : Type 0} → Failure (Reason I F C) → ℕ
failure_status (failures.NoResult error) = error_status error
failure_status (failures.Output refusal) = refusal_status refusal

-- how a program ends: with the exit status of its result, or with a failure
abbrev pub End : Type 0 → Type 0
End R = Result ℕ (Failure R)

-- the exit status of a program's end
abbrev pub exit_status : {I F C : Type 0} → End (Reason I F C) → ℕ
exit_status (Ok status) = status
exit_status (Err failure) = failure_status failure
