use Rattle.slit_zonelists.proofs.BadLaws.{bad_least, none_bad}
use Rattle.slit_zonelists.proofs.laws.reported_bad_cell_is_first.Goals as goal

pub returns-clause-some : goal.returns-clause-some
returns-clause-some c = bad_least

pub returns-clause-none : goal.returns-clause-none
returns-clause-none c = none_bad
