use Rattle.srat_nodes.proofs.OverlapLaws.{pair_overlaps, pair_least, none_overlap}
use Rattle.srat_nodes.proofs.laws.least_overlap.Goals as goal

pub returns-clause-pair : goal.returns-clause-pair
returns-clause-pair c = pair_overlaps

pub returns-clause-least : goal.returns-clause-least
returns-clause-least c = pair_least

pub returns-clause-none : goal.returns-clause-none
returns-clause-none c = none_overlap
