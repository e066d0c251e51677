-- The chunks before this one were appended, without running out of memory. If they were all empty,
-- the output is unchanged.
use Rattle.std.proofs.Common.{◌≡◌, ◌≤◌, [], take}
use Rattle.std.specs.List.{flat_map}
use Rattle.std.specs.Io.KnownBytes.{Appends}
use Rattle.bm_io.proofs.joined.put_all.Given as goal

abbrev pub invariant-loop-chunk : goal.invariant-loop-chunk
invariant-loop-chunk g l = record {
  written : Appends (g.S.Sink.written l.fn.out) (g.S.Sink.written l.out) (flat_map g.P.AsSlice.items (take l.chunk-index l.chunks));
  faults : g.S.Sink.faults l.fn.out ≤ g.S.Sink.faults l.out;
  wants : g.S.Sink.wants l.out ≡ g.S.Sink.wants l.fn.out;
  untouched : flat_map g.P.AsSlice.items (take l.chunk-index l.chunks) ≡ [] → l.out ≡ l.fn.out;
}
