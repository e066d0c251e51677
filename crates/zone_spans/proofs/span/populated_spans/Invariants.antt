use Rattle.std.proofs.Common.{◌≡◌, take}
use Rattle.zone_spans.specs.Hull.{populated_spans}
use Rattle.zone_spans.proofs.span.populated_spans.Given as goal

abbrev pub invariant-loop-span : goal.invariant-loop-span
invariant-loop-span l = l.populated.items ≡ populated_spans (take l.span-index l.spans)
