-- The maps in one buffer, or one by one.
use Rattle.std.proofs.Common.{ap}
use Rattle.memblock_model.specs.declared.query.Request.{Request}
use Rattle.stage_steps.specs.Steps.{view_of_result}
use Rattle.memblock_grow.proofs.GoingLaws.{goes-then}
use Rattle.section_maps.proofs.MapLaws.{buffer-placed, buffer-each}
use Rattle.section_maps.proofs.group.place_group_maps.Goals as goal

pub place_or_stop-requires-clause-aligned : goal.place_or_stop-requires-clause-aligned
place_or_stop-requires-clause-aligned c = (21, ap (λ (q : Request). q.align) c.map_request-request.ensures)

pub returns-in-Ok-clause-ends : goal.returns-in-Ok-clause-ends
returns-in-Ok-clause-ends c =
    buffer-placed c.args.usage c.args.placed.now.items c.args.first.now c.args.sections.now c.map_request-request.result
    c.args.memblock.now.journal.items c.map_request-request.ensures c.in-Ok.map c.push_consecutive_places.new.placed.items
    c.place_or_stop.new.memblock.journal.items c.push_consecutive_places.ensures.placed c.in-Ok.ensures.ends

pub returns-in-Err-NoPlace-clause-ends : goal.returns-in-Err-NoPlace-clause-ends
returns-in-Err-NoPlace-clause-ends c =
    buffer-each c.args.usage c.args.placed.now.items c.args.first.now c.args.sections.now c.map_request-request.result
    c.args.memblock.now.journal.items c.map_request-request.ensures
    (view_of_result (λ done. c.place_each_map.new.placed.items) c.place_each_map.result)
    c.in-Err-NoPlace.field-0-0 c.place_or_stop.new.memblock.journal.items c.place_each_map.new.memblock.journal.items
    (rw c.in-Err-NoPlace.field-0-is at c.in-Err-NoPlace.ensures.ends) c.place_each_map.ensures.ends

pub returns-in-Err-NoPlace-clause-goes_on : goal.returns-in-Err-NoPlace-clause-goes_on
returns-in-Err-NoPlace-clause-goes_on c =
    goes-then c.args.memblock.now c.place_or_stop.new.memblock c.place_each_map.new.memblock c.in-Err-NoPlace.ensures.goes_on
    c.place_each_map.ensures.goes_on
