use Rattle.growth_model.specs.Growth.{claim_range, free_range}
use Rattle.growth_model.proofs.QuietLaws.{claim_range-quiet, free_range-quiet, memory_growth-quiet, quiet-memory, reserved_growth-quiet}
use Rattle.growth_model.proofs.memory_laws.claims_leave_memory.Goals as goal

pub returns : goal.returns
returns c = record {
  reserved = λ avoid. (reserved_growth-quiet avoid).each;
  memory = memory_growth-quiet.each;
  claims = λ range who. (claim_range-quiet range who).each;
  frees = λ range. (free_range-quiet range).each;
  claimed = λ range who items. quiet-memory items (claim_range range who items) ((claim_range-quiet range who).each items);
  freed = λ range items. quiet-memory items (free_range range items) ((free_range-quiet range).each items);
}
