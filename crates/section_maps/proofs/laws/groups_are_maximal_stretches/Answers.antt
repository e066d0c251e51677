use Rattle.section_maps.proofs.StretchLaws.{maximal}
use Rattle.section_maps.proofs.laws.groups_are_maximal_stretches.Goals as goal

pub returns : goal.returns
returns c = maximal
