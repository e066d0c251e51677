use Rattle.std.proofs.Common.{◌≡◌, ◌+◌, ◌*◌, ◌^◌, ◌<◌, ◌≤◌, drop}
use Rattle.address_runs.specs.Ascend.{Ascend}
use Rattle.address_runs.specs.Sweep.{StartAtOrPast}
use Rattle.e820_sanitise.proofs.FramesLaws.{frames_from}
use Rattle.e820_sanitise.proofs.frames.usable_frames.Given as goal

abbrev pub invariant-loop-run : goal.invariant-loop-run
invariant-loop-run l = record {
  rest : l.frames + frames_from l.limit l.from l.until (drop l.run-index l.runs) ≡ frames_from l.limit 0 0 l.runs;
  few : 4096 * l.frames ≤ l.from;
  fits : l.until < 2 ^ 64;
  order : l.from ≤ l.until;
  start : StartAtOrPast l.until (drop l.run-index l.runs);
  runs : Ascend (drop l.run-index l.runs);
}
