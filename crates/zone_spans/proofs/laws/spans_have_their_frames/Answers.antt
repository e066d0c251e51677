use Rattle.zone_spans.proofs.RuleLaws.{span_has_frames, span_counts_frames, no_span_no_frames}
use Rattle.zone_spans.proofs.laws.spans_have_their_frames.Goals as goal

pub returns-clause-some : goal.returns-clause-some
returns-clause-some c = span_has_frames

pub returns-clause-present : goal.returns-clause-present
returns-clause-present c = span_counts_frames

pub returns-clause-none : goal.returns-clause-none
returns-clause-none c = no_span_no_frames
