-- One more write of the bytes that remain.
use Rattle.std.proofs.Common.{rules}
use Rattle.bm_io.proofs.StreamLaws.{front_after_write, remaining_after_write}
use Rattle.bm_io.proofs.CallsLaws.{taken_none, taken_more}
use Rattle.bm_io.proofs.std_sink.StdSinkSink.put.Goals as goal

pub loop-rest-init : goal.loop-rest-init
loop-rest-init g c = let none = taken_none g.W.RawWriter.writes c.args.chunk.now c.self.inside.stream in search rules

pub loop-rest-preserved : goal.loop-rest-preserved
loop-rest-preserved g c = let l = c.loop-rest in record {
  taken = taken_more _ _ _ _ _ _ _ l.invariant.taken l.invariant.left c.in-Some.ensures.bound c.if-count-gt0.true c.in-Some.ensures.call;
  front = front_after_write _ _ _ _ _ _ l.invariant.front l.invariant.left c.in-Some.ensures.bound c.in-Some.ensures.known;
  left = remaining_after_write _ _ _ l.invariant.left c.in-Some.ensures.bound;
  faults = l.invariant.faults;
}
