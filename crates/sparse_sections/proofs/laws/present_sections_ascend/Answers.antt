use Rattle.sparse_sections.proofs.AscendLaws.{present-ascends, present-has}
use Rattle.sparse_sections.proofs.laws.present_sections_ascend.Goals as goal

pub returns : goal.returns
returns c = record { ascend = present-ascends; nodes = present-has }
