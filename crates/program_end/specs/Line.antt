-- The one line on the error output. `program` is the program's name, and `file` gives the name of
-- an input's file.
use Rattle.std.specs.Prelude.{ℕ, List, ◌++◌, codes, ◌⊎◌}
use Rattle.std.specs.Io.KnownBytes.{Appends}
use Rattle.bm_io.specs.Counts.{Rose}
use Rattle.bm_io.specs.Known.{AppendsFront}
use Rattle.bm_io.specs.declared.writing.Put.{Put}
use Rattle.bm_io.specs.declared.writing.Put.TheVariants as put
use Rattle.bm_io.specs.declared.writing.Sink.{Ghosts as SinkOf}
use Rattle.program_end.specs.declared.failure.Failure.{Failure}
use Rattle.program_end.specs.declared.failure.Failure.TheVariants as failures
use Rattle.program_end.specs.declared.failure.NoResult.{NoResult}
use Rattle.program_end.specs.declared.failure.NoResult.TheVariants as errors
use Rattle.program_end.specs.declared.failure.Reason.{Reason}
use Rattle.program_end.specs.declared.failure.Reason.TheVariants as reasons

-- the line of a file that couldn't be read; `file` is its name as on the command line
abbrev pub unread_line : List ℕ → List ℕ → List ℕ
unread_line program file = program ++ (codes ": cannot read " ++ (file ++ codes "\n"))

-- the line that says for which reason there is no result; each program has its own lines for
-- faults and causes
abbrev pub reason_line : {I F C : Type 0} → List ℕ → (I → List ℕ) → (I → F → List ℕ) → (C → List ℕ) → Reason I F C → List ℕ
reason_line program file fault_line cause_line reasons.Usage = program ++ codes ": usage\n"
reason_line program file fault_line cause_line (reasons.Unread input) = unread_line program (file input)
reason_line program file fault_line cause_line (reasons.Faulty input fault) = fault_line input fault
reason_line program file fault_line cause_line (reasons.Stopped cause) = cause_line cause

-- the line that says that the program ran out of memory
abbrev pub memory_line : List ℕ → List ℕ
memory_line program = program ++ codes ": out of memory\n"

-- the line for a text that wasn't written whole: the output refused it, or memory ran out
abbrev pub refusal_line : List ℕ → Put → List ℕ
refusal_line program put.Failed = program ++ codes ": cannot write\n"
refusal_line program put.Memory = memory_line program

-- the line that says why the program failed
abbrev pub failure_line : {I F C : Type 0} → List ℕ → (I → List ℕ) → (I → F → List ℕ) → (C → List ℕ) → Failure (Reason I F C) → List ℕ
failure_line program file fault_line cause_line (failures.NoResult (errors.Reason reason)) =
    reason_line program file fault_line cause_line reason
failure_line program file fault_line cause_line (failures.NoResult errors.Memory) = memory_line program
failure_line program file fault_line cause_line (failures.Output refusal) = refusal_line program refusal

-- What writing a line does to the output, whose ghost members are `sink`. It appends the first
-- bytes of the line (`front`). It appends the whole line (`whole`) unless one of the output's two
-- counters rose: that of faults, or that of puts that ran out of memory.
pub record PutsLine {S : Type 0} (sink : SinkOf S) (old new : S) (line : List ℕ) : Type 0 where
  pub front : AppendsFront (sink.written old) (sink.written new) line
  pub whole : Appends (sink.written old) (sink.written new) line ⊎ Rose (sink.faults old) (sink.faults new)
      ⊎ Rose (sink.wants old) (sink.wants new)
