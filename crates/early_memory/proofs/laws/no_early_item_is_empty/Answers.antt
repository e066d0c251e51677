use Rattle.early_memory.proofs.ItemLaws.{first-items}
use Rattle.early_memory.proofs.laws.no_early_item_is_empty.Goals as goal

pub returns : goal.returns
returns c = first-items
