-- How a call that fetches files may end. `said` is the outcome, which the command line and the
-- files determine: a value, or the reason why there is none. `place input` is the position of the
-- input's file in the order in which files are read.
use Rattle.std.specs.Prelude.{◌≡◌, ℕ, ◌≤◌, Option, Some, None, Result, Ok, Err}
use Rattle.program_end.specs.declared.failure.NoResult.{NoResult}
use Rattle.program_end.specs.declared.failure.NoResult.TheVariants as errors
use Rattle.program_end.specs.declared.failure.Reason.{Reason}
use Rattle.program_end.specs.declared.failure.Reason.TheVariants as reasons

-- a call with this outcome gets as far as the file of `input`: the command line is accepted, and
-- every file before it was read without a fault
abbrev pub ReachesFile : {I F C A : Type 0} → (I → ℕ) → I → Result A (Reason I F C) → Type 0
ReachesFile place input (Ok value) = Unit {0}
ReachesFile place input (Err reasons.Usage) = ⊥
ReachesFile place input (Err (reasons.Unread other)) = place input ≤ place other
ReachesFile place input (Err (reasons.Faulty other fault)) = place input ≤ place other
ReachesFile place input (Err (reasons.Stopped cause)) = Unit {0}

-- the outcome `said` allows a call to end with this reason. Either the reason is the outcome's
-- own, or it is that some file couldn't be read which a call with this outcome reads
-- (`ReachesFile`).
abbrev pub FitsReason : {I F C A : Type 0} → (I → ℕ) → Reason I F C → Result A (Reason I F C) → Type 0
FitsReason place reasons.Usage said = said ≡ Err reasons.Usage
FitsReason place (reasons.Unread input) said = ReachesFile place input said
FitsReason place (reasons.Faulty input fault) said = said ≡ Err (reasons.Faulty input fault)
FitsReason place (reasons.Stopped cause) said = said ≡ Err (reasons.Stopped cause)

-- the outcome `said` allows a call to end with this error: the error is out of memory, or a reason
-- that the outcome allows (`FitsReason`)
abbrev pub FitsError : {I F C A : Type 0} → (I → ℕ) → NoResult (Reason I F C) → Result A (Reason I F C) → Type 0
FitsError place (errors.Reason reason) said = FitsReason place reason said
FitsError place errors.Memory said = Unit {0}

-- how a call with the outcome `said` may end: with a value whose view is the outcome's value, or
-- with an error that the outcome allows (`FitsError`)
abbrev pub Fetches : {I F C A B : Type 0} → (I → ℕ) → (A → B) → Result A (NoResult (Reason I F C)) → Result B (Reason I F C) → Type 0
Fetches place view (Ok value) said = said ≡ Ok (view value)
Fetches place view (Err error) said = FitsError place error said

-- what the command line asks for, or `Usage` if it isn't accepted
abbrev pub accepted_or_usage : {I F C W : Type 0} → Option W → Result W (Reason I F C)
accepted_or_usage None = Err reasons.Usage
accepted_or_usage (Some wanted) = Ok wanted
