use Rattle.std.proofs.Common.{◌≡◌, ◌+◌, drop}
use Rattle.boot_model.specs.Added.{memory_bytes_of_map}
use Rattle.boot_stages.proofs.added.memory_bytes_of_map.Given as goal

-- what was added and what the further runs add are all bytes
abbrev pub invariant-loop-run : goal.invariant-loop-run
invariant-loop-run l = l.added + memory_bytes_of_map l.reach (drop l.run-index l.map) ≡ memory_bytes_of_map l.reach l.map
