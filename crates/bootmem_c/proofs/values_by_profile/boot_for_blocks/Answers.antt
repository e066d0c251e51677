-- The values are those of the blocks of the boot's free frames.
use Rattle.std.proofs.Common.{◌∙◌, ap, map}
use Rattle.boot_model.specs.View.{booted_view}
use Rattle.bootmem_c.specs.Values.{block_value}
use Rattle.bootmem_c.proofs.values_by_profile.boot_for_blocks.Goals as goal

pub returns-clause-blocks : goal.returns-clause-blocks
returns-clause-blocks c = (
  booted_view c.in_ok-booted.booted,
  c.in_ok-booted.ensures.boots,
  c.in_ok-block_values.ensures ∙ ap (map block_value) (c.deref.ensures.value ∙ c.in_ok-blocks.ensures.list),
)
