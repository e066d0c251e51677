use Rattle.std.proofs.Common.{arith, refl, sym, ◌∙◌}
use Rattle.srat_reader.specs.Table.{processor_domain_at, srat_block_at, entry_offsets}
use Rattle.srat_reader.proofs.ChainLaws.{not_memory, few_entries}
use Rattle.srat_reader.proofs.table.read_srat.Goals as goal

pub returns-in-Some-find_entry_fault-clause-memory : goal.returns-in-Some-find_entry_fault-clause-memory
returns-in-Some-find_entry_fault-clause-memory c is =
    absurd (not_memory c.args.bytes.now (entry_offsets c.args.bytes.now) (sym c.in-Some-find_entry_fault.ensures ∙ rw is refl))

pub returns-in-Some-find_entry_fault-clause-some : goal.returns-in-Some-find_entry_fault-clause-some
returns-in-Some-find_entry_fault-clause-some c is =
    absurd (not_memory c.args.bytes.now (entry_offsets c.args.bytes.now) (sym c.in-Some-find_entry_fault.ensures ∙ rw is refl))

pub returns-clause-few_processors : goal.returns-clause-few_processors
returns-clause-few_processors c =
    rw c.in_ok-read_srat_entries.ensures.processors
    (omega (arith, c.in_default.ensures.few, few_entries (processor_domain_at c.args.bytes.now) c.args.bytes.now))

pub returns-clause-few_blocks : goal.returns-clause-few_blocks
returns-clause-few_blocks c =
    rw c.in_ok-read_srat_entries.ensures.blocks
    (omega (arith, c.in_default.ensures.few, few_entries (srat_block_at c.args.bytes.now) c.args.bytes.now))
