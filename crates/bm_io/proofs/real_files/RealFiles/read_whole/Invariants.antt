-- The bytes read until now are what the file gave. They are within the limit, and all were
-- counted.
use Rattle.std.proofs.Common.{◌≡◌, ◌-◌, ◌^◌, ◌<◌, ◌≤◌, vec_len, vec_items}
use Rattle.std.specs.Io.KnownBytes.{Consumes}
use Rattle.bm_io.specs.Counts.{count_after}
use Rattle.bm_io.specs.Calls.{HasGiven}
use Rattle.bm_io.proofs.real_files.RealFiles.read_whole.Given as goal

abbrev pub invariant-loop-count : goal.invariant-loop-count
invariant-loop-count g l = record {
  given : HasGiven g.F.RawReader.reads l.initial.file (vec_items l.bytes) l.file;
  known : Consumes (g.F.RawReader.remaining l.initial.file) (g.F.RawReader.remaining l.file) (vec_items l.bytes);
  within : vec_len l.bytes ≤ l.limit;
  taken : l.self-inside.taken ≡ count_after l.fn.self.taken (vec_len l.bytes);
  taken_fits : l.self-inside.taken < 2 ^ 64;
  taken_stays : l.fn.self.taken ≤ l.self-inside.taken;
  faults : l.self-inside.faults ≡ l.fn.self.faults;
  files : l.self-inside.files ≡ l.fn.self.files;
}

abbrev pub decreases-loop-count : goal.decreases-loop-count
decreases-loop-count g l = l.limit - vec_len l.bytes
