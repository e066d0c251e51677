use Rattle.memblock_model.specs.Same.{same_owner}
use Rattle.memblock_model.proofs.SameLaws.{same_owner_decides_equality}
use Rattle.boot_journal.proofs.owners.apply_change.Goals as goal

pub edit_without_cover-requires-clause-tells : goal.edit_without_cover-requires-clause-tells
edit_without_cover-requires-clause-tells g c = (same_owner, same_owner_decides_equality)
