-- How programs end, on small inputs. Inputs are numbered in the order in which they are read.
-- Faults and causes are numbers.
use Rattle.std.proofs.Common.{◌≡◌, ℕ, zero, suc, List, [], codes, Option, Some, None, Ok, Err, refl, inl, inr, arith}
use Rattle.std.specs.Prelude.{Result}
use Rattle.bm_io.specs.declared.writing.Put.TheVariants as put
use Rattle.bm_io.specs.declared.writing.Sink.{Ghosts as SinkOf}
use Rattle.program_end.specs.declared.failure.Failure.{Failure}
use Rattle.program_end.specs.declared.failure.Failure.TheVariants as failures
use Rattle.program_end.specs.declared.failure.NoResult.TheVariants as errors
use Rattle.program_end.specs.declared.failure.Reason.{Reason}
use Rattle.program_end.specs.declared.failure.Reason.TheVariants as reasons
use Rattle.program_end.specs.Causes.{EndHasCause, FailureHasCause, ReasonHasCause}
use Rattle.program_end.specs.Ends.{PutsEndLine, MayEndWith, WritesOutcome, WritingHasCause}
use Rattle.program_end.specs.Fetches.{Fetches, FitsError, ReachesFile}
use Rattle.program_end.specs.Line.{failure_line}
use Rattle.program_end.specs.Program.{Program}
use Rattle.program_end.specs.Status.{failure_status, exit_status}

abbrev Why : Type 0
Why = Reason ℕ ℕ ℕ

-- the command line names a file for input 0 only
abbrev named : ℕ → ℕ → Option (List ℕ)
named wanted zero = Some (codes "zp")
named wanted (suc other) = None

abbrev program : Program ℕ ℕ (List ℕ)
program = record { place = λ input. input; named = named; text = λ text. text; status = λ text. 0; statuses = λ text. inl refl }

abbrev text : Result (List ℕ) Why
text = Ok (codes "ab")

abbrev faulty : Result (List ℕ) Why
faulty = Err (reasons.Faulty 0 7)

-- the file of input 1 is read if there is a result or if input 2 can't be read, but not if input 0
-- has a fault or the command line isn't accepted
reaches_examples : ReachesFile (λ (n : ℕ). n) 1 text × ReachesFile {F = ℕ} {C = ℕ} {A = ℕ} (λ (n : ℕ). n) 1 (Err (reasons.Unread 2))
    × (ReachesFile (λ (n : ℕ). n) 1 faulty → ⊥)
    × (ReachesFile {F = ℕ} {C = ℕ} {A = ℕ} (λ (n : ℕ). n) 1 (Err reasons.Usage) → ⊥)
reaches_examples = (tt, omega arith, (λ comes. omega (arith, comes)), λ comes. comes)

-- out of memory fits every outcome; a call may end with the outcome's value, but not with another
-- outcome's reason
fetches_examples : FitsError (λ (n : ℕ). n) errors.Memory text × Fetches (λ (n : ℕ). n) (λ (n : ℕ). codes "ab") (Ok 7) text
    × (Fetches (λ (n : ℕ). n) (λ (n : ℕ). codes "ab") (Err (errors.Reason reasons.Usage)) text → ⊥)
fetches_examples = (tt, refl, λ same. cc same)

-- counters of faults: 0 for every name
abbrev before : List ℕ → ℕ
before name = 0

-- if the command line isn't accepted, the failure is `Usage` or out of memory
cause_examples : ReasonHasCause {F = ℕ} {C = ℕ} program before before None reasons.Usage
    × (ReasonHasCause {F = ℕ} {C = ℕ} program before before None (reasons.Faulty 0 7) → ⊥)
    × FailureHasCause {F = ℕ} {C = ℕ} program before before None (failures.NoResult errors.Memory)
    × (FailureHasCause {F = ℕ} {C = ℕ} program before before None (failures.Output put.Failed) → ⊥)
    × (EndHasCause {F = ℕ} {C = ℕ} program before before None (Ok 0) → ⊥)
cause_examples = (refl, (λ some. cc some), tt, (λ some. cc some), λ some. cc some.0)

-- the exit status of each failure
abbrev why : Why → Failure Why
why reason = failures.NoResult (errors.Reason reason)

status_examples : (failure_status (why reasons.Usage) ≡ 2) × (failure_status (why (reasons.Unread 1)) ≡ 3)
    × (failure_status (why (reasons.Faulty 0 7)) ≡ 5)
    × (failure_status (why (reasons.Stopped 4)) ≡ 6) × (failure_status {I = ℕ} {F = ℕ} {C = ℕ} (failures.Output put.Failed) ≡ 4)
    × (failure_status {I = ℕ} {F = ℕ} {C = ℕ} (failures.Output put.Memory) ≡ 7)
    × (failure_status {I = ℕ} {F = ℕ} {C = ℕ} (failures.NoResult errors.Memory) ≡ 7)
    × (exit_status {I = ℕ} {F = ℕ} {C = ℕ} (Ok 8) ≡ 8)
status_examples = (refl, refl, refl, refl, refl, refl, refl, refl)

-- the line of each failure
abbrev line : Failure Why → List ℕ
line = failure_line (codes "p") (λ input. codes "zp") (λ input fault. codes "p: zp: short\n") (λ cause. codes "p: stopped\n")

line_examples : (line (why reasons.Usage) ≡ codes "p: usage\n") × (line (why (reasons.Unread 0)) ≡ codes "p: cannot read zp\n")
    × (line (why (reasons.Faulty 0 7)) ≡ codes "p: zp: short\n") × (line (why (reasons.Stopped 4)) ≡ codes "p: stopped\n")
    × (line (failures.Output put.Failed) ≡ codes "p: cannot write\n") × (line (failures.Output put.Memory) ≡ codes "p: out of memory\n")
    × (line (failures.NoResult errors.Memory) ≡ codes "p: out of memory\n")
line_examples = (refl, refl, refl, refl, refl, refl, refl)

-- the text is written whole, in part, and not at all
writes_examples : WritesOutcome program (Some []) (Some (codes "ab")) (Ok 0) text
    × WritesOutcome program (Some []) (Some (codes "a")) (Err (failures.Output put.Failed)) text
    × WritesOutcome program (Some []) (Some []) (Err (failures.NoResult errors.Memory)) text
    × (WritesOutcome program (Some []) (Some (codes "a")) (Ok 0) text → ⊥)
writes_examples = ((refl, refl), (1, omega arith, refl), tt, λ is. cc is.1)

-- with a result the error output is unchanged; without a result the output is unchanged
unchanged_examples : (sink : SinkOf ℕ) → PutsEndLine sink line 3 3 (Ok 0) × (PutsEndLine sink line 3 4 (Ok 0) → ⊥)
    × WritingHasCause sink 3 3 (Err (why reasons.Usage)) × (WritingHasCause sink 3 4 (Err (why reasons.Usage)) → ⊥)
unchanged_examples sink = (refl, (λ same. omega (arith, same)), refl, λ same. omega (arith, same))

-- a result with status 0 may end with status 0, 3, 4 or 7; a refused command line with 2 or 7
may_end_examples : MayEndWith program text 0 × MayEndWith program text 3 × (MayEndWith program text 5 → ⊥)
    × MayEndWith {F = ℕ} {C = ℕ} program (Err reasons.Usage) 2 × (MayEndWith {F = ℕ} {C = ℕ} program (Err reasons.Usage) 3 → ⊥)
    × MayEndWith program faulty 5 × (MayEndWith program faulty 6 → ⊥)
may_end_examples =
    (inl refl, inr (inl refl), (λ ends. grind arith), inl refl, (λ ends. grind arith), inl refl, λ ends. grind arith)
