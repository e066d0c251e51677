-- A root is aligned to a cache line.
use Rattle.std.proofs.Common.{ap}
use Rattle.memblock_model.specs.declared.query.Request.{Request}
use Rattle.sparse_sections.proofs.places.place_root.Goals as goal

pub place_or_stop-requires-clause-aligned : goal.place_or_stop-requires-clause-aligned
place_or_stop-requires-clause-aligned c = (6, ap (λ (q : Request). q.align) c.cache_line_request-request.ensures)
