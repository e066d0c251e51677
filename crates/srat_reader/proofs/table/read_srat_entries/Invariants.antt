use Rattle.std.proofs.Common.{◌≡◌, ◌≤◌, ◌-◌, ◌++◌, length, None}
use Rattle.std.specs.List.{filter_map}
use Rattle.srat_reader.specs.Table.{first_srat_fault, processor_domain_at, srat_block_at, processors_of, srat_blocks_of}
use Rattle.srat_reader.proofs.ChainLaws.{rest_from}
use Rattle.srat_reader.proofs.table.read_srat_entries.Given as goal

abbrev pub invariant-loop-at : goal.invariant-loop-at
invariant-loop-at l = record {
  after_header : 48 ≤ l.at;
  sound : first_srat_fault l.bytes (rest_from l.at l.bytes) ≡ None;
  processors : l.srat.cpus.items ++ filter_map (processor_domain_at l.bytes) (rest_from l.at l.bytes) ≡ processors_of l.bytes;
  blocks : l.srat.blocks.items ++ filter_map (srat_block_at l.bytes) (rest_from l.at l.bytes) ≡ srat_blocks_of l.bytes;
}

abbrev pub decreases-loop-at : goal.decreases-loop-at
decreases-loop-at l = length l.bytes - l.at
