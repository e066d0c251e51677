use Rattle.zone_spans.proofs.RuleLaws.{all_populated}
use Rattle.zone_spans.proofs.laws.frames_rule_gives_populated_spans.Goals as goal

pub returns : goal.returns
returns c = all_populated
