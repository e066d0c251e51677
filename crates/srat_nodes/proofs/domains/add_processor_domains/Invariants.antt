use Rattle.std.proofs.Common.{◌≡◌, fold, take}
use Rattle.srat_nodes.specs.Steps.{with_domain_if_room}
use Rattle.srat_nodes.proofs.domains.add_processor_domains.Given as goal

abbrev pub invariant-loop-domain : goal.invariant-loop-domain
invariant-loop-domain l = l.domains.items ≡ fold with_domain_if_room l.initial.domains.items (take l.domain-index l.processors)
