-- The next section's map is the next step.
use Rattle.std.proofs.Common.{Ok, get_or, arith}
use Rattle.std.proofs.lemmas.Result.{err_from_is_err_and}
use Rattle.stage_steps.specs.Causes.{error_of_stage_cause}
use Rattle.stage_steps.proofs.DoingLaws.{ends-begun}
use Rattle.memblock_grow.proofs.GoingLaws.{goes-then}
use Rattle.section_maps.proofs.MapLaws.{no_section, one_map, goes-next, goes-stops, goes-all}
use Rattle.section_maps.proofs.each.place_each_map.Goals as goal

pub returns-in_err-map-clause-ends : goal.returns-in_err-map-clause-ends
returns-in_err-map-clause-ends c =
    let p = err_from_is_err_and c.from_residual.result c.from_residual.ensures.1 in
    rw (p.1, p.2) (goes-stops c.in_err-map.field-0.0 c.loop-section.section-index no_section c.place_map.new.memblock.journal.items
    c.loop-section-test.true c.loop-section.invariant.goes c.in_err-map.ensures.ends)

pub returns-in_err-map-clause-goes_on : goal.returns-in_err-map-clause-goes_on
returns-in_err-map-clause-goes_on c =
    goes-then c.args.memblock.now c.loop-section.memblock c.place_map.new.memblock c.loop-section.invariant.goes_on
    c.in_err-map.ensures.goes_on

pub loop-section-preserved : goal.loop-section-preserved
loop-section-preserved c =
    let now = c.loop-section.memblock.journal.items in
    let mid = c.place_map.new.memblock.journal.items in
    record {
      goes = goes-next c.loop-section.section-index no_section mid c.in_ok-map.map c.push_placed_section.new.placed.items
          c.loop-section-test.true
          c.loop-section.invariant.goes c.in_ok-map.ensures.ends c.push_placed_section.ensures.placed;
      usages = omega arith;
      len = omega arith;
      capacity = omega arith;
      begun = ends-begun (Ok c.in_ok-map.map) error_of_stage_cause now mid
          (one_map (get_or c.args.sections.now c.loop-section.section-index no_section)) c.loop-section.invariant.begun
          c.in_ok-map.ensures.ends;
      goes_on = goes-then c.args.memblock.now c.loop-section.memblock c.place_map.new.memblock c.loop-section.invariant.goes_on
          c.in_ok-map.ensures.goes_on;
    }

pub returns-clause-ends : goal.returns-clause-ends
returns-clause-ends c = goes-all c.loop-section.section-index c.loop-section-test.false c.loop-section.invariant.goes
