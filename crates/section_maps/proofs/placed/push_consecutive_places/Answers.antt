-- The list after one more section.
use Rattle.std.proofs.Common.{◌∙◌, arith}
use Rattle.section_maps.proofs.MapLaws.{no_section, consecutive_places-next}
use Rattle.section_maps.proofs.placed.push_consecutive_places.Goals as goal

pub loop-i-preserved : goal.loop-i-preserved
loop-i-preserved c = record {
  placed = c.push_placed_section.ensures.placed
      ∙ consecutive_places-next c.args.usage c.args.map c.loop-i.i c.args.sections.now no_section c.args.placed.now.items
      c.loop-i.placed.items
      c.loop-i-test.true c.loop-i.invariant.placed;
  len = omega arith;
  capacity = omega arith;
}
