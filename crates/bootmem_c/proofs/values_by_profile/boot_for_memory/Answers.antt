-- The values are those of the memory records that the journal gives.
use Rattle.std.proofs.Common.{◌∙◌, ap, map}
use Rattle.phys_store.specs.Bytes.{byte_of}
use Rattle.memblock_ranges.specs.declared.region.Head.{Head}
use Rattle.boot_model.specs.View.{booted_view}
use Rattle.bootmem_c.specs.Values.{record_value, regions_at}
use Rattle.bootmem_c.proofs.ValueLaws.{standing_values}
use Rattle.bootmem_c.proofs.values_by_profile.boot_for_memory.Goals as goal

pub returns-clause-memory : goal.returns-clause-memory
returns-clause-memory c =
    let stands = c.in_ok-booted.ensures.memory in (
      booted_view c.in_ok-booted.booted,
      c.in_ok-booted.ensures.boots,
      c.in_ok-memory_values.ensures
          ∙ ap (λ (h : Head). regions_at (byte_of c.in_ok-booted.booted.store) h.place h.count) stands.head_is
          ∙ standing_values stands.table c.in_ok-booted.booted.store stands.stands ∙ ap (map record_value) stands.records,
    )
