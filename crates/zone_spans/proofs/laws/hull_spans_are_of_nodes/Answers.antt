use Rattle.zone_spans.proofs.HullLaws.{is_hull_span, no_hull_span}
use Rattle.zone_spans.proofs.laws.hull_spans_are_of_nodes.Goals as goal

pub returns-clause-some : goal.returns-clause-some
returns-clause-some c = is_hull_span

pub returns-clause-none : goal.returns-clause-none
returns-clause-none c = no_hull_span
