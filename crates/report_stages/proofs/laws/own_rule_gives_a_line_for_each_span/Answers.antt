-- By this rule each span has memory.
use Rattle.std.proofs.Common.{refl}
use Rattle.zone_spans.proofs.RuleLaws.{all_populated}
use Rattle.report_stages.proofs.laws.own_rule_gives_a_line_for_each_span.Goals as goal

pub returns : goal.returns
returns c = λ free memory. rw (all_populated memory) refl
