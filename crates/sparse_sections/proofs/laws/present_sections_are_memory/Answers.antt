use Rattle.sparse_sections.proofs.LowestLaws.{present-all, present-lowest}
use Rattle.sparse_sections.proofs.laws.present_sections_are_memory.Goals as goal

pub returns : goal.returns
returns c = record { all = present-all; each = present-lowest }
