use Rattle.std.proofs.Common.{◌≡◌, fold, take}
use Rattle.srat_nodes.specs.Steps.{with_domain_of_block}
use Rattle.srat_nodes.proofs.domains.add_memory_domains.Given as goal

abbrev pub invariant-loop-block : goal.invariant-loop-block
invariant-loop-block l = l.domains.items ≡ fold with_domain_of_block l.initial.domains.items (take l.block-index l.blocks)
