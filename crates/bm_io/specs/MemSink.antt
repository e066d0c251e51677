-- Output in memory.
use Rattle.std.specs.Prelude.{ℕ, List, Result, Ok, Err}
use Rattle.bm_io.specs.declared.writing.Put.{Put}
use Rattle.bm_io.specs.declared.writing.Put.TheVariants as put

-- what contracts see of a `MemSink`: the bytes written so far, the numbers of the calls that will
-- fail, and how many calls, failed calls and calls that ran out of memory there were so far
pub record MemSinkView : Type 0 where
  pub written : List ℕ
  pub failing : List ℕ
  pub calls : ℕ
  pub faults : ℕ
  pub wants : ℕ

-- what a put with this result adds to `faults`, the counter of refused puts: 1 for `Failed`, else
-- 0
abbrev pub put_failures : Result (Unit {0}) Put → ℕ
put_failures (Ok done) = 0
put_failures (Err put.Failed) = 1
put_failures (Err put.Memory) = 0

-- what a put with this result adds to `wants`, the counter of puts that ran out of memory: 1 for
-- `Memory`, else 0
abbrev pub out_of_memory_puts : Result (Unit {0}) Put → ℕ
out_of_memory_puts (Ok done) = 0
out_of_memory_puts (Err put.Failed) = 0
out_of_memory_puts (Err put.Memory) = 1
