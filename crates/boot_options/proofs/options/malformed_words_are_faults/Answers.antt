use Rattle.boot_options.proofs.FaultLaws.{mem-exactly_first, memmap-exactly_first, crash-exactly_first, numa-exactly_first}
use Rattle.boot_options.proofs.options.malformed_words_are_faults.Goals as goal

pub returns : goal.returns
returns c = record {
  mem = mem-exactly_first;
  memmap = memmap-exactly_first;
  crash = crash-exactly_first;
  numa = numa-exactly_first;
}
