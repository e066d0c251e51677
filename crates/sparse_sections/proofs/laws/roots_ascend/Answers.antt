use Rattle.sparse_sections.proofs.FirstsLaws.{roots_in_order, first_of_root}
use Rattle.sparse_sections.proofs.laws.roots_ascend.Goals as goal

pub returns : goal.returns
returns c = record { ascend = roots_in_order; first = first_of_root }
