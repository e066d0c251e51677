use Rattle.free_areas.proofs.AreaLaws.{HasLeads}
use Rattle.free_areas.proofs.areas.Areas.index_free_runs.Given as goal

abbrev pub invariant-loop-row : goal.invariant-loop-row
invariant-loop-row l = HasLeads l.row-items l.row-index l.blocks.keys
