use Rattle.srat_nodes.proofs.DomainLaws.{named_in_room}
use Rattle.srat_nodes.proofs.domains.named_domains.Goals as goal

pub returns : goal.returns
returns c =
    rw (c.in_ok-add_memory_domains.ensures, c.in_ok-add_processor_domains.ensures, c.new-domains.ensures.items)
    (named_in_room c.args.processors.now c.args.blocks.now)
