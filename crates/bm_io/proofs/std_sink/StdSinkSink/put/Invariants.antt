-- The stream took the first bytes of the chunk; `rest` has the remaining ones.
use Rattle.std.proofs.Common.{◌≡◌, ◌-◌, length, take, drop}
use Rattle.std.specs.Io.KnownBytes.{Appends}
use Rattle.bm_io.specs.Calls.{HasTaken}
use Rattle.bm_io.proofs.std_sink.StdSinkSink.put.Given as goal

abbrev pub invariant-loop-rest : goal.invariant-loop-rest
invariant-loop-rest g l = record {
  taken : HasTaken g.W.RawWriter.writes l.chunk l.fn.self.stream (length l.chunk - length l.rest) l.self-inside.stream;
  front : Appends (g.W.RawWriter.contents l.fn.self.stream) (g.W.RawWriter.contents l.self-inside.stream)
      (take (length l.chunk - length l.rest) l.chunk);
  left : l.rest ≡ drop (length l.chunk - length l.rest) l.chunk;
  faults : l.self-inside.faults ≡ l.fn.self.faults;
}

abbrev pub decreases-loop-rest : goal.decreases-loop-rest
decreases-loop-rest g l = length l.rest
