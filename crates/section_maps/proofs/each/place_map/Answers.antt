-- A map is aligned to 2 MiB.
use Rattle.std.proofs.Common.{ap}
use Rattle.memblock_model.specs.declared.query.Request.{Request}
use Rattle.section_maps.proofs.each.place_map.Goals as goal

pub place_or_stop-requires-clause-aligned : goal.place_or_stop-requires-clause-aligned
place_or_stop-requires-clause-aligned c = (21, ap (λ (q : Request). q.align) c.map_request-request.ensures)
