use Rattle.zone_spans.proofs.SpanLaws.{is_span, no_span}
use Rattle.zone_spans.proofs.laws.spans_contain_their_frames.Goals as goal

pub returns-clause-some : goal.returns-clause-some
returns-clause-some c = is_span

pub returns-clause-none : goal.returns-clause-none
returns-clause-none c = no_span
