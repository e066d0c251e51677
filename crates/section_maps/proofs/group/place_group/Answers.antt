-- The usage data, and then the maps.
use Rattle.std.proofs.Common.{ap}
use Rattle.std.proofs.lemmas.Result.{err_from_is_err_and}
use Rattle.memblock_model.specs.declared.query.Request.{Request}
use Rattle.stage_steps.specs.Steps.{view_of_result}
use Rattle.memblock_grow.proofs.GoingLaws.{goes-then}
use Rattle.section_maps.proofs.MapLaws.{group-first, group-second}
use Rattle.section_maps.proofs.group.place_group.Goals as goal

pub place_or_stop-requires-clause-aligned : goal.place_or_stop-requires-clause-aligned
place_or_stop-requires-clause-aligned c = (6, ap (λ (q : Request). q.align) c.usage_request-request.ensures)

pub returns-in_err-usage-clause-ends : goal.returns-in_err-usage-clause-ends
returns-in_err-usage-clause-ends c =
    let p = err_from_is_err_and c.from_residual.result c.from_residual.ensures.1 in
    rw (p.1, p.2) (group-first c.args.placed.now.items c.args.first.now c.args.sections.now c.usage_request-request.result
    c.args.memblock.now.journal.items c.usage_request-request.ensures c.in_err-usage.field-0.0 c.place_or_stop.new.memblock.journal.items
    c.in_err-usage.ensures.ends)

pub returns-clause-ends : goal.returns-clause-ends
returns-clause-ends c =
    group-second c.args.placed.now.items c.args.first.now c.args.sections.now c.usage_request-request.result
    c.args.memblock.now.journal.items c.usage_request-request.ensures
    (view_of_result (λ done. c.place_group_maps.new.placed.items) c.place_group_maps.result)
    c.in_ok-usage.usage c.place_or_stop.new.memblock.journal.items c.place_group_maps.new.memblock.journal.items c.in_ok-usage.ensures.ends
    c.place_group_maps.ensures.ends

pub returns-clause-goes_on : goal.returns-clause-goes_on
returns-clause-goes_on c =
    goes-then c.args.memblock.now c.place_or_stop.new.memblock c.place_group_maps.new.memblock c.in_ok-usage.ensures.goes_on
    c.place_group_maps.ensures.goes_on
