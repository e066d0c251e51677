use Rattle.std.proofs.Common.{◌≡◌, ◌≤◌, ◌-◌, length}
use Rattle.srat_reader.specs.Table.{first_srat_fault, entry_offsets}
use Rattle.srat_reader.proofs.ChainLaws.{rest_from}
use Rattle.srat_reader.proofs.table.find_entry_fault.Given as goal

abbrev pub invariant-loop-at : goal.invariant-loop-at
invariant-loop-at l = record {
  after_header : 48 ≤ l.at;
  sound_before : first_srat_fault l.bytes (rest_from l.at l.bytes) ≡ first_srat_fault l.bytes (entry_offsets l.bytes);
}

abbrev pub decreases-loop-at : goal.decreases-loop-at
decreases-loop-at l = length l.bytes - l.at
