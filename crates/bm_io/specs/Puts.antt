-- The effect of a put, or of several puts in a row.
use Rattle.std.specs.Prelude.{◌≡◌, ℕ, ◌≤◌, List, Result, OnOk, OnErr, IsErrOf, ◌⊎◌}
use Rattle.std.specs.Io.KnownBytes.{Appends}
use Rattle.bm_io.specs.Counts.{Rose}
use Rattle.bm_io.specs.Known.{AppendsFront}
use Rattle.bm_io.specs.declared.writing.Put.{Put}
use Rattle.bm_io.specs.declared.writing.Put.TheVariants as put
use Rattle.bm_io.specs.declared.writing.Sink.{Ghosts as SinkOf}

-- the contract of `Sink::put` for these bytes, or of several puts in a row that together have
-- them: `answer` is the result, `old` and `new` are the output before and after, and `sink` has
-- the ghost members of its type
pub record Puts {S : Type 0} (sink : SinkOf S) (old new : S) (answer : Result (Unit {0}) Put) (bytes : List ℕ) : Type 0 where
  -- with Ok all bytes were appended, with an error the first of them (none, some or all)
  pub whole : OnOk answer (Appends (sink.written old) (sink.written new) bytes)
  pub front : OnErr answer (AppendsFront (sink.written old) (sink.written new) bytes)
  -- what each error implies
  pub failed : IsErrOf answer put.Failed → Rose (sink.faults old) (sink.faults new)
  pub wanting : IsErrOf answer put.Memory → Rose (sink.wants old) (sink.wants new)
  -- `wants` rises only with `Memory`, and no counter falls
  pub no_want : IsErrOf answer put.Memory ⊎ (sink.wants new ≡ sink.wants old)
  pub faults_stay : sink.faults old ≤ sink.faults new
  pub wants_stay : sink.wants old ≤ sink.wants new
